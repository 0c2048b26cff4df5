-- A reading of a belt agrees with what is expected
use Rattle.std.proofs.Common.{◌≡◌, ℕ, Bool, true, false, Option, Some, None, List, refl, sym, ap, ◌∙◌, subst, is_some}
use Rattle.cell_types.specs.declared.words.Axis.{Axis}
use Rattle.cell_types.specs.declared.words.Axis.TheVariants as axis
use Rattle.cell_types.specs.declared.words.Colour.TheVariants as colour
use Rattle.cell_types.specs.declared.words.Entry.{Entry}
use Rattle.cell_types.specs.declared.words.Machine.TheVariants as machine
use Rattle.cell_types.specs.declared.words.Pose.{Pose}
use Rattle.cell_types.specs.declared.words.Station.{Station}
use Rattle.cell_types.specs.declared.words.Station.TheVariants as station
use Rattle.cell_types.specs.Cell.{machine_of_station}
use Rattle.cell_rules.specs.Views.{going_of}
use Rattle.cell_diagnosis.specs.RestFacts.{agrees, noted}
use Rattle.cell_diagnosis.specs.declared.reading.Reading.{Reading}
use Rattle.cell_ports.specs.declared.plan.Plan.{Plan}
use Rattle.cell_turns.specs.Expected.{expected_of}
use Rattle.cell_turns.specs.Following.{Following}
use Rattle.cell_sim.specs.declared.motion.Moving.{Moving}
use Rattle.cell_sim.specs.declared.world.Plate.{Plate}
use Rattle.cell_sim.specs.Parts.{axis_at}
use Rattle.cell_sim.specs.Readings.{advanced, by_the_hands, is_reading_missing, read_on, senses, senses_by, shown}
use Rattle.cell_sim.specs.Readings.{shown_now, shown_on}
use Rattle.cell_sim.specs.Simulated.{Simulated}
use Rattle.cell_world.specs.Agreeing.{has_belt}
use Rattle.cell_world.specs.Belts.{BeltGoes, BeltRests, Conveying, belt_of, light_of, machine_of, name_of}
use Rattle.cell_world.specs.Belts.{to_deposit_end, to_feed_end, to_table}
use Rattle.cell_world.specs.Handing.{HasBooked}
use Rattle.cell_world.specs.Sensing.{BeltAgrees, ReadingAgreesAt, SensesBooked, belt_axis, is_looked_at}
use Rattle.cell_world.specs.Tied.{Given}
use Rattle.cell_world.proofs.Belts.{gone_to, none_by_hand, one_axis, shown_belt}
use Rattle.cell_world.proofs.Sensing.{sensed_agrees}
use Rattle.cell_world.proofs.Steps.{unless}

-- nothing is looked at where the belt goes
feed_unlooked : (J : List Entry) (to : Pose) (s : Station) → going_of J axis.FeedBelt ≡ Some to
    → machine_of_station s ≡ machine.Feed → is_looked_at J s ≡ false
feed_unlooked J to station.FeedIn h e = rw h refl
feed_unlooked J to station.FeedEnd h e = rw h refl
feed_unlooked J to station.DepIn h e = cc e
feed_unlooked J to station.DepEnd h e = cc e
feed_unlooked J to s h e = refl

deposit_unlooked : (J : List Entry) (to : Pose) (s : Station) → going_of J axis.DepositBelt ≡ Some to
    → machine_of_station s ≡ machine.Deposit → is_looked_at J s ≡ false
deposit_unlooked J to station.DepIn h e = rw h refl
deposit_unlooked J to station.DepEnd h e = rw h refl
deposit_unlooked J to station.FeedIn h e = cc e
deposit_unlooked J to station.FeedEnd h e = cc e
deposit_unlooked J to s h e = refl

unlooked_at : (J : List Entry) (c : Conveying) (s : Station) → going_of J (belt_of c) ≡ Some (name_of c)
    → machine_of_station s ≡ machine_of c → is_looked_at J s ≡ false
unlooked_at J to_feed_end s h e = feed_unlooked J (name_of to_feed_end) s h e
unlooked_at J to_table s h e = feed_unlooked J (name_of to_table) s h e
unlooked_at J to_deposit_end s h e = deposit_unlooked J (name_of to_deposit_end) s h e

nothing_looked : (J : List Entry) (c : Conveying) (v : Simulated) → going_of J (belt_of c) ≡ Some (name_of c)
    → SensesBooked J (machine_of c) v
nothing_looked J c v h s e l = let x : true ≡ false = sym l ∙ unlooked_at J c s h e in cc x

pub its_belt : (c : Conveying) → has_belt (machine_of c) ≡ true
its_belt to_feed_end = refl
its_belt to_table = refl
its_belt to_deposit_end = refl

pub its_axis : (c : Conveying) → belt_axis (machine_of c) ≡ belt_of c
its_axis to_feed_end = refl
its_axis to_table = refl
its_axis to_deposit_end = refl

pub agrees_at : (J : List Entry) (c : Conveying) (u : Bool) (w v : Simulated)
    → shown w (machine_of c) ≡ Some (shown_now v (machine_of c)) → SensesBooked J (machine_of c) v
    → ReadingAgreesAt J (machine_of c) u w
agrees_at J c u w v h t =
    let m = machine_of c in
    subst (λ (r : Option Reading). agrees (noted m (expected_of J m u) r) ≡ true) (sym h)
    (sensed_agrees J m u v (its_belt c) t)

goes_agrees : (J : List Entry) (p : Plan) (c : Conveying) (f : Option Following) (w : Simulated) (u : Bool) (k : Plate)
    (g : Given) → BeltGoes J p c k g f w → ReadingAgreesAt J (machine_of c) u w
goes_agrees J p c f w u k g t =
    agrees_at J c u w (gone_to c k g w) (shown_belt J p c k g f w t) (nothing_looked J c (gone_to c k g w) t.booked)

-- a belt that rests is read as it is
pub still_read : (c : Conveying) (w : Simulated) → (axis_at w (belt_of c)).motion ≡ None
    → is_reading_missing w (machine_of c) ≡ false
still_read to_feed_end w h = rw h refl
still_read to_table w h = rw h refl
still_read to_deposit_end w h = rw h refl

still_stays : (a : Axis) (w : Simulated) → (axis_at w a).motion ≡ None → advanced a w ≡ w
unfolding advanced
still_stays a w h = rw h refl

pub read_still : (c : Conveying) (w : Simulated) → (axis_at w (belt_of c)).motion ≡ None → read_on (machine_of c) w ≡ w
unfolding read_on
read_still c w h =
    unless (is_reading_missing w (machine_of c)) _ _ (still_read c w h) ∙ (one_axis c w ∙ still_stays (belt_of c) w h)

pub shown_still : (c : Conveying) (w : Simulated)
    → (axis_at (by_the_hands w (machine_of c)) (belt_of c)).motion ≡ None
    → shown w (machine_of c) ≡ Some (shown_now (by_the_hands w (machine_of c)) (machine_of c))
unfolding shown shown_on
shown_still c w h =
    let m = machine_of c in let u = by_the_hands w m in
    unless (is_reading_missing u m) None (Some (shown_now (read_on m u) m)) (still_read c u h)
    ∙ ap (λ (v : Simulated). Some (shown_now v m)) (read_still c u h)

rests_agrees : (J : List Entry) (c : Conveying) (f : Option Following) (w : Simulated) (u : Bool) → BeltRests J c f w
    → light_of c w ≡ colour.Red → ((s : Station) → machine_of_station s ≡ machine_of c → HasBooked J w s)
    → ReadingAgreesAt J (machine_of c) u w
rests_agrees J c f w u t red b =
    let m = machine_of c in let off = none_by_hand c w red in
    let still = ap (λ (v : Simulated). (axis_at v (belt_of c)).motion) off ∙ t.still in
    agrees_at J c u w w (shown_still c w still ∙ ap (λ (v : Simulated). Some (shown_now v m)) off)
    (λ s e l. ap (λ (a : Axis). senses w a s) (its_axis c)
    ∙ (ap (λ (o : Option Moving). senses_by w o s) t.still ∙ ap (λ (o : Option ℕ). is_some o) (b s e)))

pub belt_agrees : BeltAgrees
belt_agrees J p c f w u =
    (λ k g t. goes_agrees J p c f w u k g t, λ t red b. rests_agrees J c f w u t red b)
