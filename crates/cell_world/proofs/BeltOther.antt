-- What a reading of a belt's machine leaves of the other belt
use Rattle.std.proofs.Common.{◌≡◌, ◌≢◌, ℕ, Bool, true, false, ◌&&◌, ◌||◌, inl, inr, Option, Some, None, List, refl, sym}
use Rattle.std.proofs.Common.{◌∙◌, subst, arith, zero, suc, ◌+◌}
use Rattle.std.specs.Prelude.{◌+◌}
use Rattle.cell_types.specs.declared.words.Colour.TheVariants as colour
use Rattle.cell_types.specs.declared.words.Entry.{Entry}
use Rattle.cell_types.specs.declared.words.Machine.{Machine}
use Rattle.cell_types.specs.declared.words.Machine.TheVariants as machine
use Rattle.cell_types.specs.declared.words.Station.{Station}
use Rattle.cell_types.specs.declared.words.Station.TheVariants as station
use Rattle.cell_types.specs.Same.{same_colour, station_number}
use Rattle.cell_ports.specs.declared.plan.Plan.{Plan}
use Rattle.cell_turns.specs.Following.{Following}
use Rattle.cell_sim.specs.declared.motion.Phase.TheVariants.{Arrived}
use Rattle.cell_sim.specs.declared.world.Plate.{Plate}
use Rattle.cell_sim.specs.Parts.{broke, counted, has_plate, plate_here, with_motion, with_plate}
use Rattle.cell_sim.specs.Readings.{after_reading, by_the_hands, full_belt_broke, is_feed_empty, is_plate_left}
use Rattle.cell_sim.specs.Readings.{laid_in, new_plate, next_laid, plate_laid, plate_taken, put_down}
use Rattle.cell_sim.specs.Simulated.{Simulated}
use Rattle.cell_world.specs.Agreeing.{has_belt}
use Rattle.cell_world.specs.Belts.{Conveying, EndsAsBefore, belt_of, dest_of, from_of, light_of, machine_of, path_with}
use Rattle.cell_world.specs.Belts.{to_deposit_end, to_feed_end, to_table}
use Rattle.cell_world.specs.BeltTurning.{IsBeltTied, way_of}
use Rattle.cell_world.specs.Tied.{Given, none, one, more, motion_along}
use Rattle.cell_world.proofs.BeltAgrees.{its_belt}
use Rattle.cell_world.proofs.BeltReads.{after_still, way_is}
use Rattle.cell_world.proofs.Belts.{after_belt, gone_to}
use Rattle.cell_world.proofs.Plates.{here_before}
use Rattle.cell_world.proofs.Steps.{either}

abbrev pub SparesOther : Machine → Simulated → Simulated → Type 0
SparesOther m w v = (d : Conveying) → machine_of d ≢ m → EndsAsBefore d w v

pub ends_then : (d : Conveying) (w v u : Simulated) → EndsAsBefore d w v → EndsAsBefore d v u → EndsAsBefore d w u
ends_then d w v u s t =
    record {
      light = t.light ∙ s.light;
      from_end = t.from_end ∙ s.from_end;
      dest_end = t.dest_end ∙ s.dest_end;
    }

-- THE HANDS

put_here : (k : ℕ) (w : Simulated) (t : Station) → station_number t ≢ station_number station.FeedIn
    → plate_here (put_down k w) t ≡ plate_here w t
put_here k w t d =
    either (λ (v : Simulated). plate_here v t) (has_plate w station.FeedIn) (record w { lost = counted w.lost })
    (with_plate station.FeedIn (Some (new_plate k)) w) (plate_here w t) refl
    (here_before station.FeedIn t (Some (new_plate k)) w d)

full_here : (b : Bool) (w : Simulated) (t : Station) → plate_here (full_belt_broke b w) t ≡ plate_here w t
unfolding broke
full_here true w t = refl
full_here false w t = refl

laid_here : (k : ℕ) (b : Bool) (w : Simulated) (t : Station) → station_number t ≢ station_number station.FeedIn
    → plate_here (laid_in k b w) t ≡ plate_here w t
unfolding laid_in
laid_here k b w t d = put_here k (full_belt_broke b w) t d ∙ full_here b w t

put_light : (k : ℕ) (w : Simulated) → (put_down k w).deposit_light ≡ w.deposit_light
put_light k w =
    either (λ (v : Simulated). v.deposit_light) (has_plate w station.FeedIn) (record w { lost = counted w.lost })
    (with_plate station.FeedIn (Some (new_plate k)) w) w.deposit_light refl refl

full_light : (b : Bool) (w : Simulated) → (full_belt_broke b w).deposit_light ≡ w.deposit_light
unfolding broke
full_light true w = refl
full_light false w = refl

laid_light : (k : ℕ) (b : Bool) (w : Simulated) → (laid_in k b w).deposit_light ≡ w.deposit_light
unfolding laid_in
laid_light k b w = put_light k (full_belt_broke b w) ∙ full_light b w

feed_here : (w : Simulated) (t : Station) → station_number t ≢ station_number station.FeedIn
    → plate_here (plate_laid w) t ≡ plate_here w t
unfolding plate_laid
feed_here w t d =
    either (λ (v : Simulated). plate_here v t)
    (same_colour w.feed_light colour.Green && (is_plate_left w && (is_feed_empty w || w.is_trusting)))
    (laid_in (w.laid + 1) (is_feed_empty w) (next_laid w)) w (plate_here w t)
    (laid_here (w.laid + 1) (is_feed_empty w) (next_laid w) t d) refl

feed_light : (w : Simulated) → (plate_laid w).deposit_light ≡ w.deposit_light
unfolding plate_laid
feed_light w =
    either (λ (v : Simulated). v.deposit_light)
    (same_colour w.feed_light colour.Green && (is_plate_left w && (is_feed_empty w || w.is_trusting)))
    (laid_in (w.laid + 1) (is_feed_empty w) (next_laid w)) w w.deposit_light
    (laid_light (w.laid + 1) (is_feed_empty w) (next_laid w)) refl

deposit_here : (w : Simulated) (t : Station) → station_number t ≢ station_number station.DepEnd
    → plate_here (plate_taken w) t ≡ plate_here w t
unfolding plate_taken
deposit_here w t d =
    either (λ (v : Simulated). plate_here v t)
    (same_colour w.deposit_light colour.Green && has_plate w station.DepEnd) _ w (plate_here w t)
    (here_before station.DepEnd t None w d) refl

deposit_light : (w : Simulated) → (plate_taken w).feed_light ≡ w.feed_light
unfolding plate_taken
deposit_light w =
    either (λ (v : Simulated). v.feed_light)
    (same_colour w.deposit_light colour.Green && has_plate w station.DepEnd) _ w w.feed_light refl refl

hands_other : (m : Machine) (d : Conveying) (w : Simulated) → has_belt m ≡ true → machine_of d ≢ m
    → EndsAsBefore d w (by_the_hands w m)
hands_other machine.Feed to_deposit_end w b h =
    record {
      light = feed_light w;
      from_end = feed_here w station.DepIn (omega arith);
      dest_end = feed_here w station.DepEnd (omega arith);
    }
hands_other machine.Deposit to_feed_end w b h =
    record {
      light = deposit_light w;
      from_end = deposit_here w station.FeedIn (omega arith);
      dest_end = deposit_here w station.FeedEnd (omega arith);
    }
hands_other machine.Deposit to_table w b h =
    record {
      light = deposit_light w;
      from_end = deposit_here w station.FeedEnd (omega arith);
      dest_end = deposit_here w station.Table (omega arith);
    }
hands_other machine.Feed to_feed_end w b h = absurd (h refl)
hands_other machine.Feed to_table w b h = absurd (h refl)
hands_other machine.Deposit to_deposit_end w b h = absurd (h refl)
hands_other machine.Table d w b h = let x : false ≡ true = b in cc x
hands_other machine.Robot d w b h = let x : false ≡ true = b in cc x
hands_other machine.Press1 d w b h = let x : false ≡ true = b in cc x
hands_other machine.Press2 d w b h = let x : false ≡ true = b in cc x

-- THE BELT'S OWN MOTION

gone_light : (c d : Conveying) (k : Plate) (g : Given) (w : Simulated)
    → light_of d (gone_to c k g w) ≡ light_of d w
gone_light c to_feed_end k (none n) w = refl
gone_light c to_feed_end k (one n) w = refl
gone_light c to_feed_end k (more n zero) w = refl
gone_light c to_feed_end k (more n (suc j)) w = refl
gone_light c to_table k (none n) w = refl
gone_light c to_table k (one n) w = refl
gone_light c to_table k (more n zero) w = refl
gone_light c to_table k (more n (suc j)) w = refl
gone_light c to_deposit_end k (none n) w = refl
gone_light c to_deposit_end k (one n) w = refl
gone_light c to_deposit_end k (more n zero) w = refl
gone_light c to_deposit_end k (more n (suc j)) w = refl

gone_here : (c : Conveying) (k : Plate) (g : Given) (w : Simulated) (t : Station)
    → station_number t ≢ station_number (from_of c) → station_number t ≢ station_number (dest_of c)
    → plate_here (gone_to c k g w) t ≡ plate_here w t
gone_here c k (none n) w t d e = refl
gone_here c k (one n) w t d e = refl
gone_here c k (more n (suc j)) w t d e = refl
gone_here c k (more n zero) w t d e =
    let v = with_motion (belt_of c) (Some (motion_along (path_with c k) (n + 0) Arrived)) w in
    here_before (dest_of c) t (plate_here w (from_of c)) (with_plate (from_of c) None v) e
    ∙ here_before (from_of c) t None v d

gone_ends : (c d : Conveying) (k : Plate) (g : Given) (w : Simulated)
    → station_number (from_of d) ≢ station_number (from_of c) → station_number (from_of d) ≢ station_number (dest_of c)
    → station_number (dest_of d) ≢ station_number (from_of c) → station_number (dest_of d) ≢ station_number (dest_of c)
    → EndsAsBefore d w (gone_to c k g w)
gone_ends c d k g w h i j q =
    record {
      light = gone_light c d k g w;
      from_end = gone_here c k g w (from_of d) h i;
      dest_end = gone_here c k g w (dest_of d) j q;
    }

gone_other : (c d : Conveying) (k : Plate) (g : Given) (w : Simulated) → machine_of d ≢ machine_of c
    → EndsAsBefore d w (gone_to c k g w)
gone_other to_feed_end to_deposit_end k g w h =
    gone_ends to_feed_end to_deposit_end k g w (omega arith) (omega arith) (omega arith) (omega arith)
gone_other to_table to_deposit_end k g w h =
    gone_ends to_table to_deposit_end k g w (omega arith) (omega arith) (omega arith) (omega arith)
gone_other to_deposit_end to_feed_end k g w h =
    gone_ends to_deposit_end to_feed_end k g w (omega arith) (omega arith) (omega arith) (omega arith)
gone_other to_deposit_end to_table k g w h =
    gone_ends to_deposit_end to_table k g w (omega arith) (omega arith) (omega arith) (omega arith)
gone_other to_feed_end to_feed_end k g w h = absurd (h refl)
gone_other to_feed_end to_table k g w h = absurd (h refl)
gone_other to_table to_feed_end k g w h = absurd (h refl)
gone_other to_table to_table k g w h = absurd (h refl)
gone_other to_deposit_end to_deposit_end k g w h = absurd (h refl)

pub read_spares_other : (J : List Entry) (p : Plan) (m : Machine) (f : Option Following) (w : Simulated)
    → has_belt m ≡ true → IsBeltTied J p m f w → SparesOther m w (after_reading w m)
read_spares_other J p m f w b (inl t) d i =
    subst (λ (x : Machine). machine_of d ≢ x → EndsAsBefore d w (after_reading w x)) (way_is m b)
    (λ j. subst (λ (v : Simulated). EndsAsBefore d w v) (sym (after_still J (way_of m) f w t))
    (hands_other (machine_of (way_of m)) d w (its_belt (way_of m)) j)) i
read_spares_other J p m f w b (inr t) d i =
    subst (λ (x : Machine). machine_of d ≢ x → EndsAsBefore d w (after_reading w x)) t.of
    (λ j. subst (λ (v : Simulated). EndsAsBefore d w v) (sym (after_belt J p t.way t.plate t.given f w t.goes))
    (gone_other t.way d t.plate t.given w j)) i
