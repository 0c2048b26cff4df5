-- A turn of a belt's machine
use Rattle.std.proofs.Common.{◌≡◌, ◌≢◌, ℕ, ◌+◌, Bool, true, false, not, ◌&&◌, ◌⊎◌, inl, inr, Option, Some}
use Rattle.std.proofs.Common.{None, List, ◌++◌, is_some, is_none, refl, sym, ap, ◌∙◌, subst, arith}
use Rattle.std.proofs.Common.{if◌then◌else◌}
use Rattle.std.specs.Option.{option_map}
use Rattle.std.specs.Prelude.{nat_lt, option_to_list}
use Rattle.cell_types.specs.declared.words.Axis.{Axis}
use Rattle.cell_types.specs.declared.words.Axis.TheVariants as axis
use Rattle.cell_types.specs.declared.words.Belt.{Belt}
use Rattle.cell_types.specs.declared.words.Belt.TheVariants as belt
use Rattle.cell_types.specs.declared.words.Colour.{Colour}
use Rattle.cell_types.specs.declared.words.Colour.TheVariants as colour
use Rattle.cell_types.specs.declared.words.Entry.{Entry}
use Rattle.cell_types.specs.declared.words.Entry.TheVariants.{Lamp, Admitted, Claimed, Yielded, Started, Conveyed}
use Rattle.cell_types.specs.declared.words.Entry.TheVariants.{Delivered}
use Rattle.cell_types.specs.declared.words.Machine.{Machine}
use Rattle.cell_types.specs.declared.words.Machine.TheVariants as machine
use Rattle.cell_types.specs.declared.words.Pose.{Pose}
use Rattle.cell_types.specs.declared.words.Pose.TheVariants as pose
use Rattle.cell_types.specs.declared.words.Station.{Station}
use Rattle.cell_types.specs.declared.words.Station.TheVariants as station
use Rattle.cell_types.specs.After.{after, step}
use Rattle.cell_types.specs.Cell.{machine_of_belt}
use Rattle.cell_types.specs.Limits.{max_plates}
use Rattle.cell_types.specs.Same.{same_colour, station_number}
use Rattle.cell_rules.specs.declared.limits.BookLimits.{BookLimits}
use Rattle.cell_rules.specs.declared.refusal.Refusal.{Refusal}
use Rattle.cell_rules.specs.First.{started_tests}
use Rattle.cell_rules.specs.Legal.{allowed, first_of}
use Rattle.cell_rules.specs.Situations.{Situation, situation_of}
use Rattle.cell_rules.specs.SituationIn.{situation_in}
use Rattle.cell_rules.specs.Views.{going_of, lamp_of}
use Rattle.cell_rules.specs.Views.{plate_of, rests, sends}
use Rattle.cell_rules.proofs.Safe.Bridge.{Good, good_passed, good_when_legal}
use Rattle.cell_rules.proofs.Safe.Facts.{Passed, and_both, colour_same, free, not_some_tells}
use Rattle.cell_rules.proofs.Safe.Facts.{not_true as not_so, occupied}
use Rattle.cell_rules.proofs.Safe.Safety.{safe_state}
use Rattle.cell_diagnosis.specs.declared.reading.Reading.{Reading}
use Rattle.cell_diagnosis.specs.declared.verdict.Verdict.TheVariants.{Pending}
use Rattle.cell_diagnosis.specs.Readings.{bit}
use Rattle.cell_machines.specs.Useful.{wants}
use Rattle.cell_ports.specs.declared.plan.Plan.{Plan}
use Rattle.cell_turns.specs.declared.turns.decide.Ruling.{Ruling}
use Rattle.cell_turns.specs.declared.turns.decide.Ruling.TheVariants.{Books, PastLast}
use Rattle.cell_turns.specs.Following.{Following}
use Rattle.cell_turns.specs.Minds.{Mind}
use Rattle.cell_turns.specs.Rulings.{books, ending, laid_in as to_lay, signed}
use Rattle.cell_turns.specs.Signs.{shows_sign}
use Rattle.cell_turns.specs.Turns.{IsDecided, IsProposed, IsRuled, ends_motion, mind_after}
use Rattle.cell_sim.specs.declared.axis.AxisInWorld.{AxisInWorld}
use Rattle.cell_sim.specs.declared.motion.Moving.{Moving}
use Rattle.cell_sim.specs.declared.world.Plate.{Plate}
use Rattle.cell_sim.specs.Parts.{collided, has_plate, plate_at, plate_here, with_axis}
use Rattle.cell_sim.specs.Readings.{after_reading, by_the_hands, senses, senses_by, shown, shown_now}
use Rattle.cell_sim.specs.Simulated.{Simulated}
use Rattle.cell_world.specs.Belts.{EndsAsBefore, light_of}
use Rattle.cell_world.specs.BeltTurning.{BeltTurnBegins}
use Rattle.cell_world.specs.Agreeing.{has_belt}
use Rattle.cell_world.specs.Belts.{BeltCame, BeltGoes, BeltRests, Conveying, belt_of, dest_of, from_of}
use Rattle.cell_world.specs.Belts.{machine_of, name_of, to_deposit_end, to_feed_end, to_table}
use Rattle.cell_world.specs.BeltTurning.{BeltTurnKeeps, BeltTurnLeaves, IsBeltTied}
use Rattle.cell_world.specs.BeltTurning.{StationsAsBooked, way_of}
use Rattle.cell_world.specs.Going.{IsPlain}
use Rattle.cell_world.specs.Laying.{NoneIsLaid, OneIsLaid, admitted_in}
use Rattle.cell_world.specs.Starting.{after_entry, further_in, one_more}
use Rattle.cell_world.specs.Tied.{none, more, motion_by}
use Rattle.cell_world.specs.Turning.{after_turn}
use Rattle.cell_world.proofs.Agreeing.{second_bit}
use Rattle.cell_world.proofs.BeltAgrees.{shown_still}
use Rattle.cell_world.proofs.BeltEntries.{belt_brings, belt_ends, belt_starts, brought_plates, off_does, stopped}
use Rattle.cell_world.proofs.BeltReads.{IsRead, Went, after_still, belt_agreed, belt_reads, fair_of}
use Rattle.cell_world.proofs.BeltReads.{rests_alike, rests_by_hand, tied_plain, way_back}
use Rattle.cell_world.proofs.Belts.{after_belt, bits_of_three, gone_to, moves_as}
use Rattle.cell_world.proofs.Clear.{starts_stay_clear}
use Rattle.cell_world.proofs.BeltOther.{SparesOther}
use Rattle.cell_world.proofs.Ends.{started_part}
use Rattle.cell_world.proofs.Entries.{at_before, going_before}
use Rattle.cell_world.proofs.Laying.{SaysNothing}
use Rattle.cell_world.proofs.Laying.{laying_of}
use Rattle.cell_world.proofs.Laying.{stations_after}
use Rattle.cell_world.proofs.Plates.{Left, moved_none, number_of}
use Rattle.cell_world.proofs.Plates.{some_none, told_left}
use Rattle.cell_world.proofs.Spared.{some_same}
use Rattle.cell_world.proofs.Turns.{Free, Verdicts, IsCalm, Noted, good_then, plates_as}
use Rattle.cell_world.proofs.Turns.{ruled_end, ruled_proposes, ruled_signed, started_plates}
use Rattle.cell_world.proofs.Turns.{proposed_wants}
use Rattle.cell_world.proofs.Long.{entry_long, fair_then, further_then, reading_long}
use Rattle.cell_world.proofs.BeltWays.{AtBelt, LeftBy, belt_stays, deposit_lit_so, ends_booked, entry_leaves}
use Rattle.cell_world.proofs.BeltWays.{feed_lit_so, green_rests, lamp_at, lit_as, none_leaves, red_green, red_unless}
use Rattle.cell_world.proofs.BeltWays.{rests_then}
use Rattle.cell_world.proofs.BeltWays.{still_told}
use Rattle.cell_world.proofs.BeltLamps.{admitted_leaves, delivered_leaves, deposit_lamp_leaves, feed_lamp_leaves}

-- AN ENTRY WITHOUT A COMMAND

apart_leaves : (l : BookLimits) (J : List Entry) (p : Plan) (m : Machine) (s : Mind) (w : Simulated) (x : Entry)
    → AtBelt l J p m s w → IsRead J p m (Noted J p m s w) (after_reading w m) → Good J → Good (one_more J x)
    → IsCalm m x → SaysNothing x → ((a : Axis) → rests a x ≡ None) → ((a : Axis) → sends a x ≡ None)
    → ends_motion (Some x) ≡ false → (step x (after J)).plate ≡ (after J).plate
    → after_entry (after_reading w m) x ≡ after_reading w m → LeftBy J p m s w x
apart_leaves l J p m s w x t r g k calm n rs sd e st so =
    let v = after_reading w m in let f = Noted J p m s w in let K = one_more J x in
    let tie = belt_stays J K p m f v v t.belt
    (record {
      plain = tied_plain J p m f v r.tied;
      long = refl;
      at = λ a i. at_before J x a (rs a);
      going = λ a i. going_before J x a (sd a);
      axes = λ a i. refl;
    }) (λ c q i o b. record { light = refl; from_end = refl; dest_end = refl }) r.tied in
    let kept = stations_after J p x v v n
    (record {
      part = refl;
      light = refl;
      laid = λ i. refl;
      taken = λ i. refl;
      booked = λ u h. plates_as J x v v u g k st refl h;
    }) r.stations in
    entry_leaves l J p m s w x t calm
    (subst (λ (y : Bool). IsBeltTied K p m (if y then None else f) (after_entry v x)) (sym e)
    (subst (λ (y : Simulated). IsBeltTied K p m f y) (sym so) tie))
    (subst (λ (y : Simulated). StationsAsBooked K p y) (sym so) kept) (ap (λ (y : Simulated). y.collisions) so)
    (λ d i. subst (λ (y : Simulated). EndsAsBefore d v y) (sym so)
    (record { light = refl; from_end = refl; dest_end = refl }))

-- A MOTION IS BEGUN

pub record Begins (J : List Entry) (c : Conveying) : Type 0 where
  pub still : going_of J (belt_of c) ≡ None
  pub red : lamp_of J (lamp_at c) ≡ colour.Red
  pub plate : ℕ
  pub full : Left J (from_of c) ≡ Some plate
  pub empty : Left J (dest_of c) ≡ None

pub begins_by : (J : List Entry) (c : Conveying) → Good J
    → Passed (started_tests (situation_in (after J)) (belt_of c) (name_of c)) → Begins J c
begins_by J to_feed_end g h =
    let s = after J in let full = occupied s station.FeedIn h.1.0 in
    record {
      still = still_told J axis.FeedBelt g h.0;
      red = red_unless (lamp_of J belt.Feed) (λ i. some_none (Left J station.FeedIn) full.0 full.1
          (feed_lit_so J g i).front);
      plate = full.0;
      full = full.1;
      empty = free s station.FeedEnd h.1.1.0;
    }
begins_by J to_table g h =
    let s = after J in let full = occupied s station.FeedEnd h.1.1.1.1.1.0 in
    record {
      still = still_told J axis.FeedBelt g h.1.0;
      red = red_unless (lamp_of J belt.Feed) (λ i. some_none (Left J station.FeedEnd) full.0 full.1
          (feed_lit_so J g i).back);
      plate = full.0;
      full = full.1;
      empty = free s station.Table h.1.1.1.1.1.1.0;
    }
begins_by J to_deposit_end g h =
    let s = after J in let full = occupied s station.DepIn h.1.1.0 in
    let empty = free s station.DepEnd h.1.1.1.0 in
    record {
      still = still_told J axis.DepositBelt g h.0;
      red = red_unless (lamp_of J belt.Deposit) (λ i. let o = deposit_lit_so J g i in
          some_none (Left J station.DepEnd) o.plate_there o.there empty);
      plate = full.0;
      full = full.1;
      empty = empty;
    }

some_here : (o : Option Plate) (k : ℕ) → number_of o ≡ Some k → (q : Plate) × (o ≡ Some q)
some_here None k h = cc h
some_here (Some q) k h = (q, refl)

none_here : (o : Option Plate) → number_of o ≡ None → o ≡ None
none_here None h = refl
none_here (Some q) h = cc h

light_stays : (d : Conveying) (b : Axis) (x : AxisInWorld) (u : Simulated)
    → light_of d (with_axis b x u) ≡ light_of d u
light_stays to_feed_end b x u = refl
light_stays to_table b x u = refl
light_stays to_deposit_end b x u = refl

light_met : (d : Conveying) (u : Simulated) → light_of d (collided u) ≡ light_of d u
light_met to_feed_end u = refl
light_met to_table u = refl
light_met to_deposit_end u = refl

started_ends : (d : Conveying) (a : Axis) (to : Pose) (v : Simulated) → IsPlain v
    → EndsAsBefore d v (after_entry v (Started a to))
started_ends d a to v t =
    record {
      light = started_part (light_of d) a to v t (λ b x u. light_stays d b x u) (λ u. light_met d u);
      from_end = started_part (λ (u : Simulated). plate_here u (from_of d)) a to v t (λ b x u. refl) (λ u. refl);
      dest_end = started_part (λ (u : Simulated). plate_here u (dest_of d)) a to v t (λ b x u. refl) (λ u. refl);
    }

started_leaves : (l : BookLimits) (J : List Entry) (p : Plan) (c : Conveying) (s : Mind) (w : Simulated)
    → AtBelt l J p (machine_of c) s w → IsRead J p (machine_of c) (Noted J p (machine_of c) s w)
    (after_reading w (machine_of c)) → Good J → Good (one_more J (Started (belt_of c) (name_of c)))
    → first_of l J (Started (belt_of c) (name_of c)) ≡ None
    → LeftBy J p (machine_of c) s w (Started (belt_of c) (name_of c))
started_leaves l J p c s w t r g k allow =
    let m = machine_of c in let x = Started (belt_of c) (name_of c) in let v = after_reading w m in
    let f = Noted J p m s w in
    let ok : allowed l J x ≡ true = ap (λ (o : Option Refusal). is_none o) allow in
    let b = begins_by J c g (good_passed l J x g ok).1.1 in
    let rest = rests_then J p c f v r.tied b.still in
    let ends = ends_booked J p c v r.stations b.red in
    let here = some_here (plate_here v (from_of c)) b.plate (ends.0 ∙ (told_left J (from_of c) g ∙ b.full)) in
    let empty = none_here (plate_here v (dest_of c)) (ends.1 ∙ (told_left J (dest_of c) g ∙ b.empty)) in
    let red = lit_as J p c v r.stations ∙ b.red in
    entry_leaves l J p m s w x t (record { unfailed = refl; unasked = refl })
    (inr (record {
      way = c;
      plate = here.0;
      given = none (further_in v (belt_of c) (name_of c));
      of = refl;
      long = sym (further_then v (after_entry v x) (belt_of c) (name_of c) (entry_long v x));
      fair = fair_of (one_more J x) p c v (fair_then p w v (reading_long w m) t.begins.fair)
          (at_before J x (belt_of c) refl ∙ rest.home);
      goes = belt_starts J p c here.0 f v rest red here.1 empty;
    }))
    (stations_after J p x v (after_entry v x) (record { lamps = λ i. refl; admitted = refl; expected = refl })
    (record {
      part = started_part laying_of (belt_of c) (name_of c) v rest.plain (λ a y u. refl) (λ u. refl);
      light = started_part (λ (u : Simulated). u.deposit_light) (belt_of c) (name_of c) v rest.plain (λ a y u. refl)
          (λ u. refl);
      laid = λ i. started_plates (belt_of c) (name_of c) v station.FeedIn rest.plain;
      taken = λ i. started_plates (belt_of c) (name_of c) v station.DepEnd rest.plain;
      booked = λ u h. plates_as J x v (after_entry v x) u g k refl
          (started_plates (belt_of c) (name_of c) v u rest.plain) h;
    }) r.stations)
    (starts_stay_clear J (belt_of c) (name_of c) v rest.plain r.robot b.still (safe_state (one_more J x) k))
    (λ d i. started_ends d (belt_of c) (name_of c) v rest.plain)

-- THE END OF A MOTION

come_part : (c : Conveying) (k : Plate) (n : ℕ) (w : Simulated)
    → (laying_of (stopped c (gone_to c k (more n 0) w)) ≡ laying_of w)
    × ((stopped c (gone_to c k (more n 0) w)).deposit_light ≡ w.deposit_light)
    × ((stopped c (gone_to c k (more n 0) w)).collisions ≡ w.collisions)
unfolding stopped
come_part c k n w = (refl, refl, refl)

stopped_counts : (c : Conveying) (w : Simulated) → (stopped c w).collisions ≡ w.collisions
unfolding stopped
stopped_counts c w = refl

stopped_ends : (c d : Conveying) (w : Simulated) → EndsAsBefore d w (stopped c w)
unfolding stopped
stopped_ends c to_feed_end w = record { light = refl; from_end = refl; dest_end = refl }
stopped_ends c to_table w = record { light = refl; from_end = refl; dest_end = refl }
stopped_ends c to_deposit_end w = record { light = refl; from_end = refl; dest_end = refl }

come_elsewhere : (c : Conveying) (k : Plate) (n : ℕ) (w : Simulated) (u : Station)
    → station_number u ≢ station_number (dest_of c) → station_number u ≢ station_number (from_of c)
    → plate_at (stopped c (gone_to c k (more n 0) w)) u ≡ plate_at w u
come_elsewhere c k n w u d e = brought_plates c k n w u ∙ moved_none (from_of c) (dest_of c) u w d e

come_first : (J : List Entry) (c : Conveying) (k : Plate) (n : ℕ) (w : Simulated) → lamp_of J (lamp_at c) ≡ colour.Red
    → lamp_of J belt.Feed ≡ colour.Green
    → plate_at (stopped c (gone_to c k (more n 0) w)) station.FeedIn ≡ plate_at w station.FeedIn
come_first J to_feed_end k n w h i = absurd (red_green (lamp_of J belt.Feed) h i)
come_first J to_table k n w h i = absurd (red_green (lamp_of J belt.Feed) h i)
come_first J to_deposit_end k n w h i =
    come_elsewhere to_deposit_end k n w station.FeedIn (omega arith) (omega arith)

come_last : (J : List Entry) (c : Conveying) (k : Plate) (n : ℕ) (w : Simulated) → lamp_of J (lamp_at c) ≡ colour.Red
    → lamp_of J belt.Deposit ≡ colour.Green
    → plate_at (stopped c (gone_to c k (more n 0) w)) station.DepEnd ≡ plate_at w station.DepEnd
come_last J to_feed_end k n w h i = come_elsewhere to_feed_end k n w station.DepEnd (omega arith) (omega arith)
come_last J to_table k n w h i = come_elsewhere to_table k n w station.DepEnd (omega arith) (omega arith)
come_last J to_deposit_end k n w h i = absurd (red_green (lamp_of J belt.Deposit) h i)

abbrev conveying : Conveying → Plate → Entry
conveying c k = Conveyed (belt_of c) k.number (dest_of c)

came_leaves : (l : BookLimits) (J : List Entry) (p : Plan) (c : Conveying) (k : Plate) (n : ℕ) (s : Mind)
    (w : Simulated) → AtBelt l J p (machine_of c) s w → BeltGoes J p c k (more n 0) s.axis w
    → BeltCame J c k (Noted J p (machine_of c) s w) (after_reading w (machine_of c))
    → first_of l J (conveying c k) ≡ None → LeftBy J p (machine_of c) s w (conveying c k)
came_leaves l J p c k n s w t goes came allow =
    let m = machine_of c in let x = conveying c k in let v = after_reading w m in let f = Noted J p m s w in
    let st = t.begins.stations in
    let red = sym (lit_as J p c w st) ∙ goes.red in
    let ends = ends_booked J p c w st red in
    let so = off_does c v came.plain ∙ ap (λ (y : Simulated). stopped c y) (after_belt J p c k (more n 0) s.axis w goes)
    in
    let parts = come_part c k n w in
    entry_leaves l J p m s w x t (record { unfailed = refl; unasked = refl })
    (inl (rests_alike (one_more J x) c (way_of m) None (after_entry v x) (way_back c) (belt_ends J c k f v came)))
    (stations_after J p x w (after_entry v x) (record { lamps = λ i. refl; admitted = refl; expected = refl })
    (record {
      part = ap laying_of so ∙ parts.0;
      light = ap (λ (y : Simulated). y.deposit_light) so ∙ parts.1;
      laid = λ i. ap (λ (y : Simulated). plate_at y station.FeedIn) so ∙ come_first J c k n w red i;
      taken = λ i. ap (λ (y : Simulated). plate_at y station.DepEnd) so ∙ come_last J c k n w red i;
      booked = λ u h. belt_brings l J p c k n s.axis w t.begins.legal allow goes ends.0 ends.1 u h;
    }) st)
    (ap (λ (y : Simulated). y.collisions) (off_does c v came.plain) ∙ stopped_counts c v)
    (λ d i. subst (λ (y : Simulated). EndsAsBefore d v y) (sym (off_does c v came.plain)) (stopped_ends c d v))

ending_as : (J : List Entry) (c : Conveying) (k : ℕ) → plate_of J (from_of c) ≡ Some k
    → ending J (belt_of c) (name_of c) ≡ Some (Conveyed (belt_of c) k (dest_of c))
ending_as J to_feed_end k h =
    ap (λ (o : Option ℕ). option_map (λ j. Conveyed axis.FeedBelt j station.FeedEnd) o) h
ending_as J to_table k h =
    ap (λ (o : Option ℕ). option_map (λ j. Conveyed axis.FeedBelt j station.Table) o) h
ending_as J to_deposit_end k h =
    ap (λ (o : Option ℕ). option_map (λ j. Conveyed axis.DepositBelt j station.DepEnd) o) h

-- WHAT A BELT'S MACHINE WANTS

abbrev pub BeltKind : Machine → Entry → Type 0
BeltKind m (Lamp b to) = machine_of_belt b ≡ m
BeltKind m (Started a to) = (c : Conveying) × (machine_of c ≡ m) × (a ≡ belt_of c) × (to ≡ name_of c)
BeltKind m (Claimed n z) = Unit {0}
BeltKind m (Yielded n z) = Unit {0}
BeltKind m _ = ⊥

pub belt_kind : (l : BookLimits) (c : Situation) (plan : ℕ) (m : Machine) (e : Entry) → has_belt m ≡ true
    → wants l c plan m e ≡ true → BeltKind m e
belt_kind l c plan machine.Table e b h = let x : false ≡ true = b in cc x
belt_kind l c plan machine.Robot e b h = let x : false ≡ true = b in cc x
belt_kind l c plan machine.Press1 e b h = let x : false ≡ true = b in cc x
belt_kind l c plan machine.Press2 e b h = let x : false ≡ true = b in cc x
belt_kind l c plan machine.Feed (Lamp belt.Feed to) b h = refl
belt_kind l c plan machine.Feed (Started axis.FeedBelt pose.ToEnd) b h = (to_feed_end, refl, refl, refl)
belt_kind l c plan machine.Feed (Started axis.FeedBelt pose.ToTable) b h = (to_table, refl, refl, refl)
belt_kind l c plan machine.Feed (Claimed n z) b h = tt
belt_kind l c plan machine.Feed (Yielded n z) b h = tt
belt_kind l c plan machine.Deposit (Lamp belt.Deposit to) b h = refl
belt_kind l c plan machine.Deposit (Started axis.DepositBelt pose.ToEnd) b h = (to_deposit_end, refl, refl, refl)
belt_kind l c plan machine.Deposit (Claimed n z) b h = tt
belt_kind l c plan machine.Deposit (Yielded n z) b h = tt
belt_kind l c plan m e b h = cc h

lamp_leaves : (l : BookLimits) (J : List Entry) (p : Plan) (m : Machine) (s : Mind) (w : Simulated) (b : Belt)
    (to : Colour) → machine_of_belt b ≡ m → AtBelt l J p m s w
    → IsRead J p m (Noted J p m s w) (after_reading w m) → Good J → Good (one_more J (Lamp b to))
    → first_of l J (Lamp b to) ≡ None → wants l (situation_of J) p.plates m (Lamp b to) ≡ true
    → LeftBy J p m s w (Lamp b to)
lamp_leaves l J p m s w belt.Feed to e t r g k allow h =
    subst (λ (y : Machine). AtBelt l J p y s w → IsRead J p y (Noted J p y s w) (after_reading w y)
    → wants l (situation_of J) p.plates y (Lamp belt.Feed to) ≡ true → LeftBy J p y s w (Lamp belt.Feed to)) e
    (λ i j q. feed_lamp_leaves l J p s w to i j g k allow q) t r h
lamp_leaves l J p m s w belt.Deposit to e t r g k allow h =
    subst (λ (y : Machine). AtBelt l J p y s w → IsRead J p y (Noted J p y s w) (after_reading w y)
    → wants l (situation_of J) p.plates y (Lamp belt.Deposit to) ≡ true → LeftBy J p y s w (Lamp belt.Deposit to)) e
    (λ i j q. deposit_lamp_leaves l J p s w to i j g k allow q) t r h

begun_leaves : (l : BookLimits) (J : List Entry) (p : Plan) (m : Machine) (s : Mind) (w : Simulated) (a : Axis)
    (to : Pose) (c : Conveying) → machine_of c ≡ m → a ≡ belt_of c → to ≡ name_of c → AtBelt l J p m s w
    → IsRead J p m (Noted J p m s w) (after_reading w m) → Good J → Good (one_more J (Started a to))
    → first_of l J (Started a to) ≡ None → LeftBy J p m s w (Started a to)
begun_leaves l J p m s w a to c e i j t r g k allow =
    let same : Started a to ≡ Started (belt_of c) (name_of c) =
    ap (λ (y : Axis). Started y to) i ∙ ap (λ (q : Pose). Started (belt_of c) q) j in
    subst (λ (x : Entry). LeftBy J p m s w x) (sym same)
    (subst (λ (y : Machine). AtBelt l J p y s w → IsRead J p y (Noted J p y s w) (after_reading w y)
    → LeftBy J p y s w (Started (belt_of c) (name_of c))) e
    (λ q o. started_leaves l J p c s w q o g (subst (λ (x : Entry). Good (one_more J x)) same k)
    (subst (λ (x : Entry). first_of l J x ≡ None) same allow)) t r)

kind_leaves : (l : BookLimits) (J : List Entry) (p : Plan) (m : Machine) (s : Mind) (w : Simulated) (x : Entry)
    → AtBelt l J p m s w → IsRead J p m (Noted J p m s w) (after_reading w m) → Good J → Good (one_more J x)
    → first_of l J x ≡ None → wants l (situation_of J) p.plates m x ≡ true → BeltKind m x → LeftBy J p m s w x
kind_leaves l J p m s w (Lamp b to) t r g k allow h i = lamp_leaves l J p m s w b to i t r g k allow h
kind_leaves l J p m s w (Started a to) t r g k allow h i =
    begun_leaves l J p m s w a to i.0 i.1 i.2 i.3 t r g k allow
kind_leaves l J p m s w (Claimed n z) t r g k allow h i =
    apart_leaves l J p m s w (Claimed n z) t r g k (record { unfailed = refl; unasked = refl })
    (record { lamps = λ b. refl; admitted = refl; expected = refl }) (λ a. refl) (λ a. refl) refl refl refl
kind_leaves l J p m s w (Yielded n z) t r g k allow h i =
    apart_leaves l J p m s w (Yielded n z) t r g k (record { unfailed = refl; unasked = refl })
    (record { lamps = λ b. refl; admitted = refl; expected = refl }) (λ a. refl) (λ a. refl) refl refl refl
kind_leaves l J p m s w x t r g k allow h i = absurd i

-- A SIGN

abbrev Turned : List Entry → Plan → Machine → Mind → Simulated → Option Entry → Type 0
Turned J p m s w e =
    BeltTurnLeaves (J ++ option_to_list e) p m (mind_after J m p s (shown w m) e) w (after_turn w m e)
    × SparesOther m w (after_turn w m e)

-- what is decided and allowed
decided_leaves : (l : BookLimits) (J : List Entry) (p : Plan) (m : Machine) (s : Mind) (w : Simulated)
    (e : Option Entry) (x : Entry) → e ≡ Some x → Free l J e → (first_of l J x ≡ None → LeftBy J p m s w x)
    → Turned J p m s w e
decided_leaves l J p m s w None x h allow k = cc h
decided_leaves l J p m s w (Some y) x h allow k =
    let same = some_same y x h in
    subst (λ (z : Entry). LeftBy J p m s w z) (sym same)
    (k (subst (λ (z : Entry). first_of l J z ≡ None) same allow))

feed_sign : (J : List Entry) (r : Option Reading) → shows_sign J machine.Feed r ≡ true
    → lamp_of J belt.Feed ≡ colour.Green
feed_sign J None h = cc h
feed_sign J (Some q) h =
    let lit = same_colour (lamp_of J belt.Feed) colour.Green in
    colour_same (lamp_of J belt.Feed) colour.Green (and_both (bit q.presence 0) lit h).1

deposit_sign : (J : List Entry) (r : Option Reading) → shows_sign J machine.Deposit r ≡ true
    → lamp_of J belt.Deposit ≡ colour.Green
deposit_sign J None h = cc h
deposit_sign J (Some q) h =
    let lit = same_colour (lamp_of J belt.Deposit) colour.Green in
    colour_same (lamp_of J belt.Deposit) colour.Green (and_both (not (bit q.presence 1)) lit h).1

-- what was sensed
feed_sensed : (J : List Entry) (w : Simulated) (f : Option Following) → BeltRests J to_feed_end f w
    → shows_sign J machine.Feed (shown w machine.Feed) ≡ true
    → has_plate (after_reading w machine.Feed) station.FeedIn ≡ true
feed_sensed J w f t h =
    let u = by_the_hands w machine.Feed in let r = rests_by_hand J to_feed_end f w t in
    let lit = same_colour (lamp_of J belt.Feed) colour.Green in
    let x = senses u axis.FeedBelt station.FeedIn in let y = senses u axis.FeedBelt station.FeedEnd in
    let z = senses u axis.FeedBelt station.Table in
    let k : shows_sign J machine.Feed (Some (shown_now u machine.Feed)) ≡ true =
    ap (λ (o : Option Reading). shows_sign J machine.Feed o) (sym (shown_still to_feed_end w r.still)) ∙ h in
    let seen = (and_both (bit (shown_now u machine.Feed).presence 0) lit k).0 in
    let on : x ≡ true = sym (bits_of_three x y z).0 ∙ seen in
    ap (λ (v : Simulated). has_plate v station.FeedIn) (after_still J to_feed_end f w t)
    ∙ (sym (ap (λ (o : Option Moving). senses_by u o station.FeedIn) r.still) ∙ on)

deposit_sensed : (J : List Entry) (w : Simulated) (f : Option Following) → BeltRests J to_deposit_end f w
    → shows_sign J machine.Deposit (shown w machine.Deposit) ≡ true
    → has_plate (after_reading w machine.Deposit) station.DepEnd ≡ false
deposit_sensed J w f t h =
    let u = by_the_hands w machine.Deposit in let r = rests_by_hand J to_deposit_end f w t in
    let lit = same_colour (lamp_of J belt.Deposit) colour.Green in
    let x = senses u axis.DepositBelt station.DepIn in let y = senses u axis.DepositBelt station.DepEnd in
    let k : shows_sign J machine.Deposit (Some (shown_now u machine.Deposit)) ≡ true =
    ap (λ (o : Option Reading). shows_sign J machine.Deposit o) (sym (shown_still to_deposit_end w r.still)) ∙ h in
    let seen = (and_both (not (bit (shown_now u machine.Deposit).presence 1)) lit k).0 in
    let off : y ≡ false = sym (second_bit x y) ∙ not_so (bit (shown_now u machine.Deposit).presence 1) seen in
    ap (λ (v : Simulated). has_plate v station.DepEnd) (after_still J to_deposit_end f w t)
    ∙ (sym (ap (λ (o : Option Moving). senses_by u o station.DepEnd) r.still) ∙ off)

-- so a plate was laid in that isn't booked
one_laid : (J : List Entry) (p : Plan) (v : Simulated) → Good J → lamp_of J belt.Feed ≡ colour.Green
    → has_plate v station.FeedIn ≡ true → NoneIsLaid J v ⊎ OneIsLaid J p v → OneIsLaid J p v
one_laid J p v g green h (inr z) = z
one_laid J p v g green h (inl z) =
    let n = z.plate ∙ (told_left J station.FeedIn g ∙ (feed_lit_so J g green).front) in
    let c : true ≡ false = sym h ∙ ap (λ (o : Option ℕ). is_some o) n in cc c

next_ruled : (l : BookLimits) (J : List Entry) (m : Machine) (plan : ℕ) (b : Bool) (x : Entry) (e : Option Entry)
    → IsRuled l J m plan (if b then PastLast else Books x) e → e ≡ Some x
next_ruled l J m plan true x e h = absurd h
next_ruled l J m plan false x e h = h

feed_signed : (l : BookLimits) (J : List Entry) (p : Plan) (s : Mind) (w : Simulated) (e : Option Entry)
    → AtBelt l J p machine.Feed s w
    → IsRead J p machine.Feed (Noted J p machine.Feed s w) (after_reading w machine.Feed)
    → Good J → shows_sign J machine.Feed (shown w machine.Feed) ≡ true
    → IsRuled l J machine.Feed p.plates (signed J machine.Feed) e → Free l J e → Turned J p machine.Feed s w e
feed_signed l J p s w e t r g h d allow =
    let green = feed_sign J (shown w machine.Feed) h in let n = admitted_in J + 1 in
    let v = after_reading w machine.Feed in let f = Noted J p machine.Feed s w in
    let before = green_rests J p to_feed_end s.axis w t.begins.as_booked.tied t.begins.stations green in
    let rest = green_rests J p to_feed_end f v r.tied r.stations green in
    let z = one_laid J p v g green (feed_sensed J w s.axis before h) r.stations.laying.laid in
    let ruled = subst (λ (o : Option ℕ). IsRuled l J machine.Feed p.plates (to_lay o n) e)
    r.stations.laying.unexpected d in
    decided_leaves l J p machine.Feed s w e (Admitted n)
    (next_ruled l J machine.Feed p.plates (nat_lt max_plates n) (Admitted n) e ruled) allow
    (λ q. admitted_leaves l J p s w t r.stations g (good_then l J (Admitted n) g q) rest z)

none_at : (o : Option ℕ) → is_some o ≡ false → o ≡ None
none_at o h = not_some_tells o h

deposit_signed : (l : BookLimits) (J : List Entry) (p : Plan) (s : Mind) (w : Simulated) (e : Option Entry)
    → AtBelt l J p machine.Deposit s w
    → IsRead J p machine.Deposit (Noted J p machine.Deposit s w) (after_reading w machine.Deposit)
    → Good J → shows_sign J machine.Deposit (shown w machine.Deposit) ≡ true
    → IsRuled l J machine.Deposit p.plates (signed J machine.Deposit) e → Free l J e
    → Turned J p machine.Deposit s w e
deposit_signed l J p s w e t r g h d allow =
    let green = deposit_sign J (shown w machine.Deposit) h in
    let v = after_reading w machine.Deposit in let f = Noted J p machine.Deposit s w in
    let before = green_rests J p to_deposit_end s.axis w t.begins.as_booked.tied t.begins.stations green in
    let rest = green_rests J p to_deposit_end f v r.tied r.stations green in
    let lit = deposit_lit_so J g green in let j = lit.plate_there in
    let gone = none_at (plate_at v station.DepEnd) (deposit_sensed J w s.axis before h) in
    let ruled = subst (λ (o : Option ℕ).
    IsRuled l J machine.Deposit p.plates (books (option_map (λ k. Delivered k) o)) e)
    (told_left J station.DepEnd g ∙ lit.there) d in
    decided_leaves l J p machine.Deposit s w e (Delivered j) ruled allow
    (λ q. delivered_leaves l J p s w j t r.stations g (good_then l J (Delivered j) g q) rest lit.there gone)

signed_leaves : (l : BookLimits) (J : List Entry) (p : Plan) (m : Machine) (s : Mind) (w : Simulated)
    (e : Option Entry) → AtBelt l J p m s w → IsRead J p m (Noted J p m s w) (after_reading w m) → Good J
    → shows_sign J m (shown w m) ≡ true → IsRuled l J m p.plates (signed J m) e → Free l J e → Turned J p m s w e
signed_leaves l J p machine.Feed s w e t r g h d allow = feed_signed l J p s w e t r g h d allow
signed_leaves l J p machine.Deposit s w e t r g h d allow = deposit_signed l J p s w e t r g h d allow
signed_leaves l J p machine.Table s w e t r g h d allow = let x : false ≡ true = t.belt in cc x
signed_leaves l J p machine.Robot s w e t r g h d allow = let x : false ≡ true = t.belt in cc x
signed_leaves l J p machine.Press1 s w e t r g h d allow = let x : false ≡ true = t.belt in cc x
signed_leaves l J p machine.Press2 s w e t r g h d allow = let x : false ≡ true = t.belt in cc x

-- A TURN

pub proposed_leaves : (l : BookLimits) (J : List Entry) (p : Plan) (m : Machine) (s : Mind) (w : Simulated)
    (e : Option Entry) → AtBelt l J p m s w → IsRead J p m (Noted J p m s w) (after_reading w m) → Good J
    → IsProposed l J m p.plates e → Free l J e → Turned J p m s w e
proposed_leaves l J p m s w None t r g d allow = none_leaves l J p m s w t r
proposed_leaves l J p m s w (Some x) t r g d allow =
    let h = proposed_wants l J p.plates m x d in
    kind_leaves l J p m s w x t r g (good_then l J x g allow) allow h
    (belt_kind l (situation_of J) p.plates m x t.belt h)

read_leaves : (l : BookLimits) (J : List Entry) (p : Plan) (m : Machine) (s : Mind) (w : Simulated)
    (e : Option Entry) (b : Bool) → (s.memory.sign && shows_sign J m (shown w m)) ≡ b → AtBelt l J p m s w
    → Verdicts J p m s (shown w m) ≡ Pending → IsRead J p m (Noted J p m s w) (after_reading w m) → Good J
    → IsDecided l J m p s (shown w m) e → Free l J e → Turned J p m s w e
read_leaves l J p m s w e false n t v r g d allow =
    proposed_leaves l J p m s w e t r g
    (subst (λ (k : Ruling). IsRuled l J m p.plates k e)
    (ruled_proposes J p m s (shown w m) t.begins.as_booked n v t.agreed) d) allow
read_leaves l J p m s w e true n t v r g d allow =
    signed_leaves l J p m s w e t r g (and_both s.memory.sign (shows_sign J m (shown w m)) n).1
    (subst (λ (k : Ruling). IsRuled l J m p.plates k e)
    (ruled_signed J p m s (shown w m) t.begins.as_booked n v t.agreed) d) allow

come_leaves : (l : BookLimits) (J : List Entry) (p : Plan) (c : Conveying) (k : Plate) (n : ℕ) (s : Mind)
    (w : Simulated) (e : Option Entry) → AtBelt l J p (machine_of c) s w → BeltGoes J p c k (more n 0) s.axis w
    → BeltCame J c k (Noted J p (machine_of c) s w) (after_reading w (machine_of c))
    → IsDecided l J (machine_of c) p s (shown w (machine_of c)) e → Free l J e → Turned J p (machine_of c) s w e
come_leaves l J p c k n s w e t goes came d allow =
    let m = machine_of c in let st = t.begins.stations in
    let red = sym (lit_as J p c w st) ∙ goes.red in
    let here : plate_of J (from_of c) ≡ Some k.number =
    sym (ends_booked J p c w st red).0 ∙ ap number_of goes.here in
    let rules = ruled_end J p m s (shown w m) (motion_by J p (belt_of c) (name_of c)) t.begins.as_booked
    (moves_as J p c goes.booked) came.verdict t.agreed
    ∙ ap books (ending_as J c k.number here) in
    decided_leaves l J p m s w e (conveying c k) (subst (λ (q : Ruling). IsRuled l J m p.plates q e) rules d) allow
    (λ q. came_leaves l J p c k n s w t goes came q)

turn_by : (l : BookLimits) (J : List Entry) (p : Plan) (m : Machine) (s : Mind) (w : Simulated) (e : Option Entry)
    → AtBelt l J p m s w → Good J → Went J p m s w → IsDecided l J m p s (shown w m) e → Free l J e
    → Turned J p m s w e
turn_by l J p m s w e t g (inl i) d allow =
    read_leaves l J p m s w e (s.memory.sign && shows_sign J m (shown w m)) refl t i.0 i.1 g d allow
turn_by l J p m s w e t g (inr c) d allow =
    subst (λ (y : Machine). AtBelt l J p y s w → BeltCame J c.way c.plate (Noted J p y s w) (after_reading w y)
    → IsDecided l J y p s (shown w y) e → Turned J p y s w e) c.of
    (λ q o i. come_leaves l J p c.way c.plate c.further s w e q c.goes o i allow) t c.came d

pub belt_turn_does : (l : BookLimits) (J : List Entry) (p : Plan) (m : Machine) (s : Mind) (w : Simulated)
    (e : Option Entry) → has_belt m ≡ true → BeltTurnBegins l J p m s w → IsDecided l J m p s (shown w m) e
    → Free l J e → Turned J p m s w e
belt_turn_does l J p m s w e b t d allow =
    turn_by l J p m s w e (record { belt = b; begins = t; agreed = belt_agreed l J p m s w b t })
    (good_when_legal l J t.legal)
    (belt_reads J p m s w b t.robot t.stations t.as_booked.tied) d allow

pub belt_turn_keeps : BeltTurnKeeps
belt_turn_keeps l J p m s w e b t d allow = (belt_turn_does l J p m s w e b t d allow).0
