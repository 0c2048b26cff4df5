-- One reading more of a belt
use Rattle.std.proofs.Common.{◌≡◌, ◌≢◌, Bool, true, false, not, ◌&&◌, ◌||◌, Option, Some, None, List, [], ◌∷◌, ◌++◌}
use Rattle.std.proofs.Common.{is_some, refl, arith, sym, ap, ◌∙◌, length-set, if◌then◌else◌, subst}
use Rattle.std.specs.Option.{option_map}
use Rattle.std.specs.Prelude.{ℕ, zero, suc, ◌+◌}
use Rattle.cell_types.specs.declared.words.Axis.TheVariants as axis
use Rattle.cell_types.specs.declared.words.Colour.TheVariants as colour
use Rattle.cell_types.specs.declared.words.Entry.{Entry}
use Rattle.cell_types.specs.declared.words.Pose.{Pose}
use Rattle.cell_types.specs.declared.words.Pose.TheVariants as pose
use Rattle.cell_types.specs.declared.words.Station.{Station}
use Rattle.cell_types.specs.declared.words.Station.TheVariants as station
use Rattle.cell_types.specs.Cell.{axes_of}
use Rattle.cell_types.specs.Same.{same_colour, station_number}
use Rattle.cell_rules.specs.Views.{at_of, going_of}
use Rattle.cell_diagnosis.specs.declared.reading.Reading.{Reading}
use Rattle.cell_diagnosis.specs.Readings.{Seen, seen, bit}
use Rattle.cell_diagnosis.specs.declared.motion.Motion.{Motion}
use Rattle.cell_ports.specs.declared.plan.Plan.{Plan}
use Rattle.cell_turns.specs.Following.{Following}
use Rattle.cell_turns.specs.Moving.{motion_of_machine}
use Rattle.cell_turns.specs.Observed.{axis_noted, followed, with_reading}
use Rattle.cell_sim.specs.declared.axis.AxisInWorld.{AxisInWorld}
use Rattle.cell_sim.specs.declared.motion.Moving.{Moving}
use Rattle.cell_sim.specs.declared.motion.Phase.TheVariants.{Seen as IsSeen, Between, Arrived}
use Rattle.cell_sim.specs.declared.world.Plate.{Plate}
use Rattle.cell_sim.specs.Simulated.{Simulated}
use Rattle.cell_sim.specs.Parts.{axis_at, has_plate, in_turn, plate_at, plate_here, plate_moved, with_motion}
use Rattle.cell_sim.specs.Parts.{with_plate}
use Rattle.cell_sim.specs.Readings.{advanced, after_reading, arrived, bit_if, by_the_hands, command_of, is_feed_empty}
use Rattle.cell_sim.specs.Readings.{is_plate_left, is_reading_missing, left_with, plate_laid, plate_taken, read_on}
use Rattle.cell_sim.specs.Readings.{senses}
use Rattle.cell_sim.specs.Readings.{shown, shown_now, shown_on}
use Rattle.cell_sim.specs.Looks.{can_lie, carrying_looked, looked}
use Rattle.cell_sim.specs.Moves.{goal_of, same_number as same_plate}
use Rattle.cell_world.specs.Tied.{Given, none, one, more, further_of, motion_along, motion_by, next_given, noted_of}
use Rattle.cell_world.specs.Tied.{IsFair, under_way}
use Rattle.cell_world.specs.Going.{IsPlain}
use Rattle.cell_world.specs.Belts.{Conveying, to_feed_end, to_table, to_deposit_end, belt_of, name_of, from_of}
use Rattle.cell_world.specs.Belts.{dest_of}
use Rattle.cell_world.specs.Belts.{machine_of, light_of, path_with, BeltCame, BeltGoes, BeltGoesOn, BeltStays}
use Rattle.cell_world.proofs.Steps.{more_arrived, more_pending, motion_then, noted_more, phase_then}
use Rattle.cell_world.proofs.Steps.{unless, readings_of, followed_as, seen_of, at_same, below_nine, unlooked}
use Rattle.cell_world.proofs.Agreeing.{first_bit, second_bit}
use Rattle.cell_world.proofs.Plates.{here_before, here_now, number_of, other_station, same_number}

-- the world after the reading
abbrev pub gone_to : Conveying → Plate → Given → Simulated → Simulated
gone_to c k (none n) w = with_motion (belt_of c) (Some (motion_along (path_with c k) n IsSeen)) w
gone_to c k (one n) w = with_motion (belt_of c) (Some (motion_along (path_with c k) n (Between n))) w
gone_to c k (more n zero) w =
    with_plate (dest_of c) (plate_here w (from_of c)) (with_plate (from_of c) None
    (with_motion (belt_of c) (Some (motion_along (path_with c k) (n + 0) Arrived)) w))
gone_to c k (more n (suc i)) w =
    with_motion (belt_of c) (Some (motion_along (path_with c k) (n + suc i) (Between i))) w

when : {X : Type 0} (b : Bool) (x y : X) → b ≡ true → (if b then x else y) ≡ x
when true x y h = refl
when false x y h = cc h

-- a world that isn't watched doesn't look where the plate comes to lie
pub unlooked_carrying : (from to : Station) (w : Simulated) → w.watch.is_on ≡ false → carrying_looked from to w ≡ w
unfolding carrying_looked
unlooked_carrying from to w u =
    unless (w.watch.is_on && not (can_lie w to)) _ w (ap (λ b. b && not (can_lie w to)) u)

-- the plate is brought to the empty end
brought : (c : Conveying) (k : Plate) (w : Simulated) → w.watch.is_on ≡ false → plate_here w (from_of c) ≡ Some k
    → plate_here w (dest_of c) ≡ None
    → arrived (belt_of c) (path_with c k) w
    ≡ with_plate (dest_of c) (plate_here w (from_of c)) (with_plate (from_of c) None w)
unfolding arrived
brought c k w u a b =
    when (same_plate (plate_at w (from_of c)) (Some k.number)) _ w
    (ap (λ (o : Option Plate). same_plate (number_of o) (Some k.number)) a ∙ same_number k.number k.number refl)
    ∙ (ap (λ (v : Simulated). plate_moved (from_of c) (dest_of c) v) (unlooked_carrying (from_of c) (dest_of c) w u)
    ∙ unless (has_plate w (dest_of c)) w _ (ap (λ (o : Option Plate). is_some (number_of o)) b))

abbrev Way : Conveying → Plate → Given → Simulated → Type 0
Way c k g w = (axis_at w (belt_of c)).motion ≡ Some (under_way (path_with c k) g)

belt_goes : (c : Conveying) (k : Plate) (g : Given) (w : Simulated) → w.watch.is_on ≡ false → Way c k g w
    → plate_here w (from_of c) ≡ Some k → plate_here w (dest_of c) ≡ None → advanced (belt_of c) w ≡ gone_to c k g w
unfolding advanced left_with
belt_goes c k (none n) w u h a b = rw h refl
belt_goes c k (one n) w u h a b = rw h refl
belt_goes c k (more n (suc i)) w u h a b = rw h refl
belt_goes c k (more n zero) w u h a b =
    let m = motion_along (path_with c k) (n + 0) (Between 0) in
    let o = command_of (belt_of c) (goal_of (belt_of c) m) in
    let v = with_motion (belt_of c) (Some (motion_along (path_with c k) (n + 0) Arrived)) w in
    let e = ap (λ (x : Simulated). looked o x) (brought c k v u a b) ∙ unlooked o (gone_to c k (more n 0) w) u in rw h e

-- under the red light no plate is laid in or taken
no_green : (x : Bool) (c : Conveying) (w : Simulated) → light_of c w ≡ colour.Red
    → (same_colour (light_of c w) colour.Green && x) ≡ false
no_green x c w red = ap (λ l. same_colour l colour.Green && x) red

pub none_by_hand : (c : Conveying) (w : Simulated) → light_of c w ≡ colour.Red → by_the_hands w (machine_of c) ≡ w
unfolding plate_laid plate_taken
none_by_hand to_feed_end w red =
    unless (same_colour w.feed_light colour.Green && (is_plate_left w && (is_feed_empty w || w.is_trusting))) _ w
    (no_green (is_plate_left w && (is_feed_empty w || w.is_trusting)) to_feed_end w red)
none_by_hand to_table w red =
    unless (same_colour w.feed_light colour.Green && (is_plate_left w && (is_feed_empty w || w.is_trusting))) _ w
    (no_green (is_plate_left w && (is_feed_empty w || w.is_trusting)) to_table w red)
none_by_hand to_deposit_end w red =
    unless (same_colour w.deposit_light colour.Green && has_plate w station.DepEnd) _ w
    (no_green (has_plate w station.DepEnd) to_deposit_end w red)

is_read : (c : Conveying) (k : Plate) (g : Given) (w : Simulated) → Way c k g w
    → is_reading_missing w (machine_of c) ≡ false
is_read to_feed_end k g w h = rw h refl
is_read to_table k g w h = rw h refl
is_read to_deposit_end k g w h = rw h refl

pub one_axis : (c : Conveying) (w : Simulated) → in_turn advanced (axes_of (machine_of c)) w ≡ advanced (belt_of c) w
one_axis to_feed_end w = refl
one_axis to_table w = refl
one_axis to_deposit_end w = refl

read_belt : (c : Conveying) (k : Plate) (g : Given) (w : Simulated) → w.watch.is_on ≡ false → Way c k g w
    → plate_here w (from_of c) ≡ Some k
    → plate_here w (dest_of c) ≡ None → read_on (machine_of c) w ≡ gone_to c k g w
unfolding read_on
read_belt c k g w u h a b =
    unless (is_reading_missing w (machine_of c)) _ _ (is_read c k g w h) ∙ (one_axis c w ∙ belt_goes c k g w u h a b)

pub after_belt : (J : List Entry) (p : Plan) (c : Conveying) (k : Plate) (g : Given) (f : Option Following)
    (w : Simulated) → BeltGoes J p c k g f w → after_reading w (machine_of c) ≡ gone_to c k g w
unfolding after_reading
after_belt J p c k g f w t =
    ap (λ (v : Simulated). read_on (machine_of c) v) (none_by_hand c w t.red)
    ∙ read_belt c k g w t.plain.unwatched t.goes t.here t.empty

pub shown_belt : (J : List Entry) (p : Plan) (c : Conveying) (k : Plate) (g : Given) (f : Option Following)
    (w : Simulated)
    → BeltGoes J p c k g f w
    → shown w (machine_of c) ≡ Some (shown_now (gone_to c k g w) (machine_of c))
unfolding shown shown_on
shown_belt J p c k g f w t =
    let m = machine_of c in
    ap (λ (v : Simulated). if is_reading_missing v m then None else Some (shown_now (read_on m v) m))
    (none_by_hand c w t.red)
    ∙ (unless (is_reading_missing w m) _ _ (is_read c k g w t.goes)
    ∙ ap (λ (v : Simulated). Some (shown_now v m)) (read_belt c k g w t.plain.unwatched t.goes t.here t.empty))

-- the belt's motion and the plates then
pub moves_then : (c : Conveying) (k : Plate) (g : Given) (w : Simulated) → IsPlain w
    → (axis_at (gone_to c k g w) (belt_of c)).motion
    ≡ Some (motion_along (path_with c k) (further_of g) (phase_then g))
moves_then c k (none n) w t =
    ap (λ (x : AxisInWorld). x.motion) (at_same w (belt_of c) _ (below_nine (belt_of c) _ t.axes))
moves_then c k (one n) w t =
    ap (λ (x : AxisInWorld). x.motion) (at_same w (belt_of c) _ (below_nine (belt_of c) _ t.axes))
moves_then c k (more n zero) w t =
    ap (λ (x : AxisInWorld). x.motion) (at_same w (belt_of c) _ (below_nine (belt_of c) _ t.axes))
moves_then c k (more n (suc i)) w t =
    ap (λ (x : AxisInWorld). x.motion) (at_same w (belt_of c) _ (below_nine (belt_of c) _ t.axes))

pub ends_apart : (c : Conveying) → station_number (from_of c) ≢ station_number (dest_of c)
ends_apart to_feed_end = omega arith
ends_apart to_table = omega arith
ends_apart to_deposit_end = omega arith

pub end_then : (c : Conveying) (k : Plate) (n : ℕ) (w : Simulated) → IsPlain w → plate_here w (from_of c) ≡ Some k
    → plate_here (gone_to c k (more n 0) w) (dest_of c) ≡ Some k
end_then c k n w t a =
    let v = with_motion (belt_of c) (Some (motion_along (path_with c k) (n + 0) Arrived)) w in
    here_now (dest_of c) (plate_here w (from_of c)) (with_plate (from_of c) None v) (length-set _ _ _ ∙ t.stations) ∙ a

pub in_then : (c : Conveying) (k : Plate) (n : ℕ) (w : Simulated) → IsPlain w
    → plate_here (gone_to c k (more n 0) w) (from_of c) ≡ None
in_then c k n w t =
    let v = with_motion (belt_of c) (Some (motion_along (path_with c k) (n + 0) Arrived)) w in
    here_before (dest_of c) (from_of c) (plate_here w (from_of c)) (with_plate (from_of c) None v) (ends_apart c)
    ∙ here_now (from_of c) None v t.stations

-- what the sensors at both ends show
abbrev first_shown : Given → Bool
first_shown (none n) = true
first_shown _ = false

abbrev last_shown : Given → Bool
last_shown (more n zero) = true
last_shown _ = false

and_false : (b : Bool) → (b && false) ≡ false
and_false true = refl
and_false false = refl

first_then : (c : Conveying) (k : Plate) (g : Given) (w : Simulated) → IsPlain w
    → plate_here w (from_of c) ≡ Some k → senses (gone_to c k g w) (belt_of c) (from_of c) ≡ first_shown g
first_then c k (none n) w t a = let h = moves_then c k (none n) w t in rw h (rw a refl)
first_then c k (one n) w t a =
    let h = moves_then c k (one n) w t in let e = same_number k.number k.number refl in
    let s = same_number (station_number (from_of c)) (station_number (from_of c)) refl in
    rw h (rw (a, e, s) refl)
first_then c k (more n (suc i)) w t a =
    let h = moves_then c k (more n (suc i)) w t in let e = same_number k.number k.number refl in
    let s = same_number (station_number (from_of c)) (station_number (from_of c)) refl in
    rw h (rw (a, e, s) refl)
first_then c k (more n zero) w t a =
    let h = moves_then c k (more n zero) w t in let e = in_then c k n w t in rw h (rw e refl)

last_then : (c : Conveying) (k : Plate) (g : Given) (w : Simulated) → IsPlain w
    → plate_here w (from_of c) ≡ Some k → plate_here w (dest_of c) ≡ None
    → senses (gone_to c k g w) (belt_of c) (dest_of c) ≡ last_shown g
last_then c k (none n) w t a b = let h = moves_then c k (none n) w t in rw h (rw b refl)
last_then c k (one n) w t a b =
    let h = moves_then c k (one n) w t in let s = other_station (dest_of c) (from_of c) (ends_apart c) in
    rw h (rw b (and_false _))
last_then c k (more n (suc i)) w t a b =
    let h = moves_then c k (more n (suc i)) w t in let s = other_station (dest_of c) (from_of c) (ends_apart c) in
    rw h (rw b (and_false _))
last_then c k (more n zero) w t a b =
    let h = moves_then c k (more n zero) w t in let e = end_then c k n w t a in rw h (rw e refl)

-- the bits of three sensors
pub bits_of_three : (x y z : Bool) → (bit (bit_if x 1 + (bit_if y 2 + bit_if z 4)) 0 ≡ x)
    × (bit (bit_if x 1 + (bit_if y 2 + bit_if z 4)) 1 ≡ y)
    × (bit (bit_if x 1 + (bit_if y 2 + bit_if z 4)) 2 ≡ z)
unfolding bit
bits_of_three true true true = (refl, refl, refl)
bits_of_three true true false = (refl, refl, refl)
bits_of_three true false true = (refl, refl, refl)
bits_of_three true false false = (refl, refl, refl)
bits_of_three false true true = (refl, refl, refl)
bits_of_three false true false = (refl, refl, refl)
bits_of_three false false true = (refl, refl, refl)
bits_of_three false false false = (refl, refl, refl)

two_shown : (b c x y : Bool) → b ≡ x → c ≡ y
    → Some (b ∷ c ∷ false ∷ false ∷ false ∷ false ∷ []) ≡ Some (x ∷ y ∷ false ∷ false ∷ false ∷ false ∷ [])
two_shown b c x y h k = rw (h, k) refl

seen_by : (J : List Entry) (p : Plan) (c : Conveying) (v : Simulated)
    → seen (motion_by J p (belt_of c) (name_of c)) (Some (shown_now v (machine_of c)))
    ≡ Some (senses v (belt_of c) (from_of c) ∷ senses v (belt_of c) (dest_of c) ∷ false ∷ false ∷ false ∷ false ∷ [])
unfolding seen
seen_by J p to_feed_end v =
    let b = bits_of_three (senses v axis.FeedBelt station.FeedIn) (senses v axis.FeedBelt station.FeedEnd)
    (senses v axis.FeedBelt station.Table) in two_shown _ _ _ _ b.0 b.1
seen_by J p to_table v =
    let b = bits_of_three (senses v axis.FeedBelt station.FeedIn) (senses v axis.FeedBelt station.FeedEnd)
    (senses v axis.FeedBelt station.Table) in two_shown _ _ _ _ b.1 b.2
seen_by J p to_deposit_end v =
    let x = senses v axis.DepositBelt station.DepIn in let y = senses v axis.DepositBelt station.DepEnd in
    two_shown _ _ _ _ (first_bit x y) (second_bit x y)

both_shown : (c : Conveying) (g : Given)
    → Some (first_shown g ∷ last_shown g ∷ false ∷ false ∷ false ∷ false ∷ []) ≡ seen_of pose.Rest (name_of c) g
both_shown c (none n) = refl
both_shown c (one n) = refl
both_shown c (more n (suc i)) = refl
both_shown to_feed_end (more n zero) = refl
both_shown to_table (more n zero) = refl
both_shown to_deposit_end (more n zero) = refl

abbrev belt_motion : List Entry → Plan → Conveying → Motion
belt_motion J p c = motion_by J p (belt_of c) (name_of c)

seen_belt : (J : List Entry) (p : Plan) (c : Conveying) (k : Plate) (g : Given) (f : Option Following) (w : Simulated)
    → BeltGoes J p c k g f w
    → seen (belt_motion J p c) (Some (shown_now (gone_to c k g w) (machine_of c))) ≡ seen_of pose.Rest (name_of c) g
seen_belt J p c k g f w t =
    seen_by J p c (gone_to c k g w)
    ∙ (two_shown _ _ _ _ (first_then c k g w t.plain t.here) (last_then c k g w t.plain t.here t.empty)
    ∙ both_shown c g)

pub moves_as : (J : List Entry) (p : Plan) (c : Conveying) → going_of J (belt_of c) ≡ Some (name_of c)
    → motion_of_machine J p (machine_of c) ≡ Some (belt_motion J p c)
moves_as J p to_feed_end h = rw h refl
moves_as J p to_table h = rw h refl
moves_as J p to_deposit_end h = rw h refl

noted_belt : (J : List Entry) (p : Plan) (c : Conveying) (k : Plate) (g : Given) (f : Option Following) (w : Simulated)
    → BeltGoes J p c k g f w
    → axis_noted J (machine_of c) p f (shown w (machine_of c))
    ≡ Some (record {
      motion = belt_motion J p c;
      readings = readings_of (belt_motion J p c) g ++ seen_of (at_of J (belt_of c)) (name_of c) g ∷ [];
    })
noted_belt J p c k g f w t =
    let m = belt_motion J p c in let n = machine_of c in
    ap (λ (x : Option Following). option_map (with_reading (shown w n)) (followed x (motion_of_machine J p n))) t.noted
    ∙ (ap (λ (x : Option Motion). option_map (with_reading (shown w n)) (followed (noted_of m g) x))
    (moves_as J p c t.booked)
    ∙ (ap (λ (x : Option Following). option_map (with_reading (shown w n)) x) (followed_as m g)
    ∙ (ap (λ (r : Option Reading). Some (with_reading r (record { motion = m; readings = readings_of m g })))
    (shown_belt J p c k g f w t)
    ∙ ap (λ (x : Seen). Some (record { motion = m; readings = readings_of m g ++ x ∷ [] }))
    (seen_belt J p c k g f w t ∙ ap (λ (q : Pose). seen_of q (name_of c) g) (sym t.home)))))

-- the world is as plain as before, and the lights are
pub gone_plain : (c : Conveying) (k : Plate) (g : Given) (w : Simulated) → IsPlain w → IsPlain (gone_to c k g w)
gone_plain c k (none n) w t =
    record { unwatched = t.unwatched; axes = length-set _ _ _ ∙ t.axes; stations = t.stations }
gone_plain c k (one n) w t =
    record { unwatched = t.unwatched; axes = length-set _ _ _ ∙ t.axes; stations = t.stations }
gone_plain c k (more n (suc i)) w t =
    record { unwatched = t.unwatched; axes = length-set _ _ _ ∙ t.axes; stations = t.stations }
gone_plain c k (more n zero) w t =
    record {
      unwatched = t.unwatched;
      axes = length-set _ _ _ ∙ t.axes;
      stations = length-set _ _ _ ∙ (length-set _ _ _ ∙ t.stations);
    }

gone_light : (c : Conveying) (k : Plate) (g : Given) (w : Simulated) → light_of c (gone_to c k g w) ≡ light_of c w
gone_light to_feed_end k (none n) w = refl
gone_light to_feed_end k (one n) w = refl
gone_light to_feed_end k (more n zero) w = refl
gone_light to_feed_end k (more n (suc i)) w = refl
gone_light to_table k (none n) w = refl
gone_light to_table k (one n) w = refl
gone_light to_table k (more n zero) w = refl
gone_light to_table k (more n (suc i)) w = refl
gone_light to_deposit_end k (none n) w = refl
gone_light to_deposit_end k (one n) w = refl
gone_light to_deposit_end k (more n zero) w = refl
gone_light to_deposit_end k (more n (suc i)) w = refl

-- while it isn't at its end no plate moves
gone_plates : (c : Conveying) (k : Plate) (g h : Given) (w : Simulated) (s : Station) → next_given g ≡ Some h
    → plate_here (gone_to c k g w) s ≡ plate_here w s
gone_plates c k (none n) h w s e = refl
gone_plates c k (one n) h w s e = refl
gone_plates c k (more n (suc i)) h w s e = refl
gone_plates c k (more n zero) h w s e = cc e

abbrev Noted : List Entry → Plan → Conveying → Option Following → Simulated → Option Following
Noted J p c f w = axis_noted J (machine_of c) p f (shown w (machine_of c))

-- the motion that is followed begins where the belt is at home
belt_noted : (J : List Entry) (p : Plan) (c : Conveying) (k : Plate) (g h : Given) (f : Option Following)
    (w : Simulated) → next_given g ≡ Some h → BeltGoes J p c k g f w → Noted J p c f w ≡ noted_of (belt_motion J p c) h
belt_noted J p c k g h f w e t = noted_belt J p c k g f w t ∙ noted_more (belt_motion J p c) g h e

stays_on : (J : List Entry) (p : Plan) (c : Conveying) (k : Plate) (g h : Given) (f : Option Following)
    (w : Simulated) → next_given g ≡ Some h → IsFair (belt_motion J p c) (further_of g) → BeltGoes J p c k g f w
    → BeltStays J p c k h (Noted J p c f w) (after_reading w (machine_of c))
stays_on J p c k g h f w e fair t =
    let v = gone_to c k g w in
    subst (λ (y : Simulated). BeltStays J p c k h (Noted J p c f w) y) (sym (after_belt J p c k g f w t))
    (subst (λ (x : Option Following). BeltStays J p c k h x v) (sym (belt_noted J p c k g h f w e t))
    (record {
      pending = more_pending (belt_motion J p c) g h e fair;
      goes = record {
        plain = gone_plain c k g w t.plain;
        booked = t.booked;
        home = t.home;
        red = gone_light c k g w ∙ t.red;
        here = gone_plates c k g h w (from_of c) e ∙ t.here;
        empty = gone_plates c k g h w (dest_of c) e ∙ t.empty;
        goes = moves_then c k g w t.plain ∙ ap (λ (m : Moving). Some m) (motion_then (path_with c k) g h e);
        noted = refl;
      };
    }))

comes_to : (J : List Entry) (p : Plan) (c : Conveying) (k : Plate) (n : ℕ) (f : Option Following) (w : Simulated)
    → IsFair (belt_motion J p c) (n + 0) → BeltGoes J p c k (more n zero) f w
    → BeltCame J c k (Noted J p c f w) (after_reading w (machine_of c))
comes_to J p c k n f w fair t =
    let g = more n zero in let v = gone_to c k g w in
    subst (λ (y : Simulated). BeltCame J c k (Noted J p c f w) y) (sym (after_belt J p c k g f w t))
    (subst (λ (x : Option Following). BeltCame J c k x v) (sym (noted_belt J p c k g f w t))
    (record {
      plain = gone_plain c k g w t.plain;
      booked = t.booked;
      red = gone_light c k g w ∙ t.red;
      gone = in_then c k n w t.plain;
      there = end_then c k n w t.plain t.here;
      verdict = more_arrived (belt_motion J p c) g refl fair;
    }))

pub belt_goes_on : BeltGoesOn
belt_goes_on J p c k (none n) f w fair t = stays_on J p c k (none n) (one n) f w refl fair t
belt_goes_on J p c k (one n) f w fair t = stays_on J p c k (one n) (more 0 n) f w refl fair t
belt_goes_on J p c k (more n (suc i)) f w fair t =
    stays_on J p c k (more n (suc i)) (more (suc n) i) f w refl fair t
belt_goes_on J p c k (more n zero) f w fair t = comes_to J p c k n f w fair t
