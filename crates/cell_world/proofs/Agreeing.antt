-- What a machine without a belt shows agrees with the book
use Rattle.std.proofs.Common.{◌≡◌, ◌+◌, Bool, true, false, not, ◌&&◌, ◌||◌, Option, Some, None, List, refl, sym, ap}
use Rattle.std.proofs.Common.{◌∙◌, if◌then◌else◌}
use Rattle.std.specs.Prelude.{is_some}
use Rattle.cell_types.specs.declared.words.Axis.TheVariants as axis
use Rattle.cell_types.specs.declared.words.Machine.{Machine}
use Rattle.cell_types.specs.declared.words.Machine.TheVariants as machine
use Rattle.cell_types.specs.declared.words.Station.TheVariants as station
use Rattle.cell_types.specs.declared.words.Pose.{Pose}
use Rattle.cell_types.specs.declared.words.Entry.{Entry}
use Rattle.cell_rules.specs.Views.{at_of, going_of, plate_of}
use Rattle.cell_diagnosis.specs.Readings.{bit}
use Rattle.cell_diagnosis.specs.RestFacts.{agrees, disagrees, is_lost, is_strange, is_unread, noted, pose_disagrees}
use Rattle.cell_turns.specs.Expected.{expected_of}
use Rattle.cell_sim.specs.Simulated.{Simulated}
use Rattle.cell_sim.specs.Parts.{has_plate}
use Rattle.cell_sim.specs.Readings.{bit_if, shown_now}
use Rattle.cell_world.specs.Tied.{only}
use Rattle.cell_world.specs.Agreeing.{ShowsBooked, BookedAgrees}
use Rattle.cell_world.proofs.Verdicts.{shown_only, same_place, count_only}

-- a pose that is shown alone doesn't disagree
alone_agrees : (p : Pose) → pose_disagrees (Some p) (only p) ≡ false
alone_agrees p = rw (shown_only p p, same_place p, count_only p) refl

rest_agrees : (going : Option Pose) (p : Pose) (bits : List Bool) → (going ≡ None → bits ≡ only p)
    → pose_disagrees (if is_some going then None else Some p) bits ≡ false
rest_agrees None p bits h = ap (λ (b : List Bool). pose_disagrees (Some p) b) (h refl) ∙ alone_agrees p
rest_agrees (Some q) p bits h = refl

-- a bit that must be set as it is set is neither lost nor strange
not_lost : (b c m : Bool) → b ≡ c → (b && (not m && not c)) ≡ false
not_lost true true true h = refl
not_lost true true false h = refl
not_lost true false m h = cc h
not_lost false c m h = refl

not_strange : (b c m : Bool) → b ≡ c → (not b && (not m && c)) ≡ false
not_strange true c m h = refl
not_strange false true m h = cc h
not_strange false false true h = refl
not_strange false false false h = refl

pub first_bit : (b c : Bool) → bit (bit_if b 1 + bit_if c 2) 0 ≡ b
unfolding bit
first_bit true true = refl
first_bit true false = refl
first_bit false true = refl
first_bit false false = refl

pub second_bit : (b c : Bool) → bit (bit_if b 1 + bit_if c 2) 1 ≡ c
unfolding bit
second_bit true true = refl
second_bit true false = refl
second_bit false true = refl
second_bit false false = refl

only_bit : (b : Bool) → bit (bit_if b 1) 0 ≡ b
unfolding bit
only_bit true = refl
only_bit false = refl

-- the parts of a reading in which nothing disagrees
pub all_agree : (u a b c l m o x y z : Bool) → u ≡ false → a ≡ false → b ≡ false → c ≡ false → l ≡ false → m ≡ false
    → o ≡ false → x ≡ false → y ≡ false → z ≡ false
    → (not u && (not (a || (b || c)) && (not (l || (m || o)) && not (x || (y || z))))) ≡ true
all_agree u a b c l m o x y z hu ha hb hc hl hm ho hx hy hz = rw (hu, ha, hb, hc, hl, hm, ho, hx, hy, hz) refl

abbrev Shows : List Entry → Simulated → Machine → Type 0
Shows J w m = ShowsBooked J m w

table_agrees : (J : List Entry) (v : Bool) (w : Simulated) → Shows J w machine.Table
    → agrees (noted machine.Table (expected_of J machine.Table v) (Some (shown_now w machine.Table))) ≡ true
unfolding agrees is_unread disagrees is_lost is_strange noted
table_agrees J v w t =
    let s = first_bit (is_some (plate_of J station.Table)) false
    ∙ sym (only_bit (has_plate w station.Table) ∙ t.plates station.Table refl) in
    all_agree _ _ _ _ _ _ _ _ _ _ refl
    (rest_agrees (going_of J axis.TableLift) (at_of J axis.TableLift) _ (t.axes axis.TableLift refl))
    (rest_agrees (going_of J axis.TableTurn) (at_of J axis.TableTurn) _ (t.axes axis.TableTurn refl))
    refl
    (not_lost _ _ _ s) refl refl
    (not_strange _ _ _ s) refl refl

press1_agrees : (J : List Entry) (v : Bool) (w : Simulated) → Shows J w machine.Press1
    → agrees (noted machine.Press1 (expected_of J machine.Press1 v) (Some (shown_now w machine.Press1))) ≡ true
unfolding agrees is_unread disagrees is_lost is_strange noted
press1_agrees J v w t =
    let s = first_bit (is_some (plate_of J station.Press1)) false
    ∙ sym (only_bit (has_plate w station.Press1) ∙ t.plates station.Press1 refl) in
    all_agree _ _ _ _ _ _ _ _ _ _ refl
    (rest_agrees (going_of J axis.PressOne) (at_of J axis.PressOne) _ (t.axes axis.PressOne refl)) refl refl
    (not_lost _ _ _ s) refl refl
    (not_strange _ _ _ s) refl refl

press2_agrees : (J : List Entry) (v : Bool) (w : Simulated) → Shows J w machine.Press2
    → agrees (noted machine.Press2 (expected_of J machine.Press2 v) (Some (shown_now w machine.Press2))) ≡ true
unfolding agrees is_unread disagrees is_lost is_strange noted
press2_agrees J v w t =
    let s = first_bit (is_some (plate_of J station.Press2)) false
    ∙ sym (only_bit (has_plate w station.Press2) ∙ t.plates station.Press2 refl) in
    all_agree _ _ _ _ _ _ _ _ _ _ refl
    (rest_agrees (going_of J axis.PressTwo) (at_of J axis.PressTwo) _ (t.axes axis.PressTwo refl)) refl refl
    (not_lost _ _ _ s) refl refl
    (not_strange _ _ _ s) refl refl

robot_agrees : (J : List Entry) (v : Bool) (w : Simulated) → Shows J w machine.Robot
    → agrees (noted machine.Robot (expected_of J machine.Robot v) (Some (shown_now w machine.Robot))) ≡ true
unfolding agrees is_unread disagrees is_lost is_strange noted
robot_agrees J v w t =
    let b1 = is_some (plate_of J station.Arm1) in let b2 = is_some (plate_of J station.Arm2) in
    let w1 = has_plate w station.Arm1 in let w2 = has_plate w station.Arm2 in
    let s = first_bit b1 b2 ∙ sym (first_bit w1 w2 ∙ t.plates station.Arm1 refl) in
    let r = second_bit b1 b2 ∙ sym (second_bit w1 w2 ∙ t.plates station.Arm2 refl) in
    all_agree _ _ _ _ _ _ _ _ _ _ refl
    (rest_agrees (going_of J axis.RobotTurn) (at_of J axis.RobotTurn) _ (t.axes axis.RobotTurn refl))
    (rest_agrees (going_of J axis.ArmOne) (at_of J axis.ArmOne) _ (t.axes axis.ArmOne refl))
    (rest_agrees (going_of J axis.ArmTwo) (at_of J axis.ArmTwo) _ (t.axes axis.ArmTwo refl))
    (not_lost _ _ _ s) (not_lost _ _ _ r) refl
    (not_strange _ _ _ s) (not_strange _ _ _ r) refl

pub booked_agrees : BookedAgrees
booked_agrees J machine.Feed v w b t = cc b
booked_agrees J machine.Table v w b t = table_agrees J v w t
booked_agrees J machine.Robot v w b t = robot_agrees J v w t
booked_agrees J machine.Press1 v w b t = press1_agrees J v w t
booked_agrees J machine.Press2 v w b t = press2_agrees J v w t
booked_agrees J machine.Deposit v w b t = cc b
