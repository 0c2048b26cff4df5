-- What the switches of an axis show that has a fault
use Rattle.std.proofs.Common.{◌≡◌, ℕ, Bool, true, false, ◌&&◌, ◌==◌, Some, bit_or, get_or, refl, ap, ◌∙◌}
use Rattle.cell_types.specs.declared.words.Axis.{Axis}
use Rattle.cell_types.specs.declared.words.Axis.TheVariants as axis
use Rattle.cell_types.specs.declared.words.Pose.{Pose}
use Rattle.cell_types.specs.declared.words.Pose.TheVariants as pose
use Rattle.cell_types.specs.Cell.{is_pose_of}
use Rattle.cell_diagnosis.specs.AxisFacts.{count_shown, shows_alone}
use Rattle.cell_diagnosis.specs.Readings.{bit, place_in_axis}
use Rattle.cell_sim.specs.Looks.{is_belt}
use Rattle.cell_sim.specs.Moves.{all_switches, switch_bit}
use Rattle.cell_world.specs.Agreeing.{bits_at}
use Rattle.cell_world.specs.Tied.{only}
use Rattle.cell_world.proofs.Any.{bits_only, no_bit}

never_both : (b : Bool) → (b && false) ≡ false
never_both true = refl
never_both false = refl

-- not one switch alone is shown
not_one : (to : Pose) (a : Axis) (byte : ℕ) → (count_shown (bits_at a byte) == 1) ≡ false
    → shows_alone to (Some (bits_at a byte)) ≡ false
unfolding shows_alone
not_one to a byte h = rw h (never_both (get_or (bits_at a byte) (place_in_axis to) false))

-- no switch is
pub none_alone : (a : Axis) (to : Pose) → shows_alone to (Some (bits_at a 0)) ≡ false
none_alone a to = not_one to a 0 (ap (λ x. count_shown x == 1) (no_bit a))

-- the switch where the axis was is
other_alone : (from to : Pose) → get_or (only from) (place_in_axis to) false ≡ (place_in_axis to == place_in_axis from)
other_alone from pose.Rest = refl
other_alone from pose.ToEnd = refl
other_alone from pose.ToTable = refl
other_alone from pose.Low = refl
other_alone from pose.High = refl
other_alone from pose.Belt = refl
other_alone from pose.Robot = refl
other_alone from pose.Table1 = refl
other_alone from pose.P1Load = refl
other_alone from pose.P1Unload = refl
other_alone from pose.P2Load = refl
other_alone from pose.P2Unload = refl
other_alone from pose.Deposit2 = refl
other_alone from pose.In = refl
other_alone from pose.Out = refl
other_alone from pose.Middle = refl
other_alone from pose.Top = refl
other_alone from pose.Bottom = refl

only_from : (from to : Pose) → (place_in_axis to == place_in_axis from) ≡ false
    → shows_alone to (Some (only from)) ≡ false
unfolding shows_alone
only_from from to e = let x = other_alone from to ∙ e in rw x refl

pub from_alone : (a : Axis) (from to : Pose) → is_belt a ≡ false → is_pose_of a from ≡ true
    → (place_in_axis to == place_in_axis from) ≡ false → shows_alone to (Some (bits_at a (switch_bit from))) ≡ false
from_alone a from to s h e =
    ap (λ x. shows_alone to (Some x)) (bits_only a from s h) ∙ only_from from to e

-- all switches are
all_shown : (a : Axis) → is_belt a ≡ false → (count_shown (bits_at a (all_switches a)) == 1) ≡ false
unfolding bit
all_shown axis.FeedBelt s = cc s
all_shown axis.DepositBelt s = cc s
all_shown axis.TableLift s = refl
all_shown axis.TableTurn s = refl
all_shown axis.RobotTurn s = refl
all_shown axis.ArmOne s = refl
all_shown axis.ArmTwo s = refl
all_shown axis.PressOne s = refl
all_shown axis.PressTwo s = refl

pub all_alone : (a : Axis) (to : Pose) → is_belt a ≡ false → shows_alone to (Some (bits_at a (all_switches a))) ≡ false
all_alone a to s = not_one to a (all_switches a) (all_shown a s)

-- the switch of the end and that where the axis was are
two_of_arm : (from to : Pose) → is_pose_of axis.ArmOne from ≡ true → is_pose_of axis.ArmOne to ≡ true
    → (place_in_axis to == place_in_axis from) ≡ false
    → (count_shown (bits_at axis.ArmOne (bit_or (switch_bit to) (switch_bit from))) == 1) ≡ false
unfolding bit
two_of_arm pose.In pose.In h k e = cc e
two_of_arm pose.In pose.Out h k e = refl
two_of_arm pose.In to h k e = cc k
two_of_arm pose.Out pose.In h k e = refl
two_of_arm pose.Out pose.Out h k e = cc e
two_of_arm pose.Out to h k e = cc k
two_of_arm from to h k e = cc h

two_of_press : (from to : Pose) → is_pose_of axis.PressOne from ≡ true → is_pose_of axis.PressOne to ≡ true
    → (place_in_axis to == place_in_axis from) ≡ false
    → (count_shown (bits_at axis.PressOne (bit_or (switch_bit to) (switch_bit from))) == 1) ≡ false
unfolding bit
two_of_press pose.Middle pose.Middle h k e = cc e
two_of_press pose.Middle pose.Top h k e = refl
two_of_press pose.Middle pose.Bottom h k e = refl
two_of_press pose.Middle to h k e = cc k
two_of_press pose.Top pose.Middle h k e = refl
two_of_press pose.Top pose.Top h k e = cc e
two_of_press pose.Top pose.Bottom h k e = refl
two_of_press pose.Top to h k e = cc k
two_of_press pose.Bottom pose.Middle h k e = refl
two_of_press pose.Bottom pose.Top h k e = refl
two_of_press pose.Bottom pose.Bottom h k e = cc e
two_of_press pose.Bottom to h k e = cc k
two_of_press from to h k e = cc h

two_shown : (a : Axis) (from to : Pose) → is_belt a ≡ false → is_pose_of a from ≡ true → is_pose_of a to ≡ true
    → (place_in_axis to == place_in_axis from) ≡ false
    → (count_shown (bits_at a (bit_or (switch_bit to) (switch_bit from))) == 1) ≡ false
unfolding bit
two_shown axis.FeedBelt from to s h k e = cc s
two_shown axis.DepositBelt from to s h k e = cc s
two_shown axis.TableLift pose.Low pose.Low s h k e = cc e
two_shown axis.TableLift pose.Low pose.High s h k e = refl
two_shown axis.TableLift pose.Low to s h k e = cc k
two_shown axis.TableLift pose.High pose.Low s h k e = refl
two_shown axis.TableLift pose.High pose.High s h k e = cc e
two_shown axis.TableLift pose.High to s h k e = cc k
two_shown axis.TableLift from to s h k e = cc h
two_shown axis.TableTurn pose.Belt pose.Belt s h k e = cc e
two_shown axis.TableTurn pose.Belt pose.Robot s h k e = refl
two_shown axis.TableTurn pose.Belt to s h k e = cc k
two_shown axis.TableTurn pose.Robot pose.Belt s h k e = refl
two_shown axis.TableTurn pose.Robot pose.Robot s h k e = cc e
two_shown axis.TableTurn pose.Robot to s h k e = cc k
two_shown axis.TableTurn from to s h k e = cc h
two_shown axis.RobotTurn pose.Table1 pose.Table1 s h k e = cc e
two_shown axis.RobotTurn pose.Table1 pose.P1Load s h k e = refl
two_shown axis.RobotTurn pose.Table1 pose.P1Unload s h k e = refl
two_shown axis.RobotTurn pose.Table1 pose.P2Load s h k e = refl
two_shown axis.RobotTurn pose.Table1 pose.P2Unload s h k e = refl
two_shown axis.RobotTurn pose.Table1 pose.Deposit2 s h k e = refl
two_shown axis.RobotTurn pose.Table1 to s h k e = cc k
two_shown axis.RobotTurn pose.P1Load pose.Table1 s h k e = refl
two_shown axis.RobotTurn pose.P1Load pose.P1Load s h k e = cc e
two_shown axis.RobotTurn pose.P1Load pose.P1Unload s h k e = refl
two_shown axis.RobotTurn pose.P1Load pose.P2Load s h k e = refl
two_shown axis.RobotTurn pose.P1Load pose.P2Unload s h k e = refl
two_shown axis.RobotTurn pose.P1Load pose.Deposit2 s h k e = refl
two_shown axis.RobotTurn pose.P1Load to s h k e = cc k
two_shown axis.RobotTurn pose.P1Unload pose.Table1 s h k e = refl
two_shown axis.RobotTurn pose.P1Unload pose.P1Load s h k e = refl
two_shown axis.RobotTurn pose.P1Unload pose.P1Unload s h k e = cc e
two_shown axis.RobotTurn pose.P1Unload pose.P2Load s h k e = refl
two_shown axis.RobotTurn pose.P1Unload pose.P2Unload s h k e = refl
two_shown axis.RobotTurn pose.P1Unload pose.Deposit2 s h k e = refl
two_shown axis.RobotTurn pose.P1Unload to s h k e = cc k
two_shown axis.RobotTurn pose.P2Load pose.Table1 s h k e = refl
two_shown axis.RobotTurn pose.P2Load pose.P1Load s h k e = refl
two_shown axis.RobotTurn pose.P2Load pose.P1Unload s h k e = refl
two_shown axis.RobotTurn pose.P2Load pose.P2Load s h k e = cc e
two_shown axis.RobotTurn pose.P2Load pose.P2Unload s h k e = refl
two_shown axis.RobotTurn pose.P2Load pose.Deposit2 s h k e = refl
two_shown axis.RobotTurn pose.P2Load to s h k e = cc k
two_shown axis.RobotTurn pose.P2Unload pose.Table1 s h k e = refl
two_shown axis.RobotTurn pose.P2Unload pose.P1Load s h k e = refl
two_shown axis.RobotTurn pose.P2Unload pose.P1Unload s h k e = refl
two_shown axis.RobotTurn pose.P2Unload pose.P2Load s h k e = refl
two_shown axis.RobotTurn pose.P2Unload pose.P2Unload s h k e = cc e
two_shown axis.RobotTurn pose.P2Unload pose.Deposit2 s h k e = refl
two_shown axis.RobotTurn pose.P2Unload to s h k e = cc k
two_shown axis.RobotTurn pose.Deposit2 pose.Table1 s h k e = refl
two_shown axis.RobotTurn pose.Deposit2 pose.P1Load s h k e = refl
two_shown axis.RobotTurn pose.Deposit2 pose.P1Unload s h k e = refl
two_shown axis.RobotTurn pose.Deposit2 pose.P2Load s h k e = refl
two_shown axis.RobotTurn pose.Deposit2 pose.P2Unload s h k e = refl
two_shown axis.RobotTurn pose.Deposit2 pose.Deposit2 s h k e = cc e
two_shown axis.RobotTurn pose.Deposit2 to s h k e = cc k
two_shown axis.RobotTurn from to s h k e = cc h
two_shown axis.ArmOne from to s h k e = two_of_arm from to h k e
two_shown axis.ArmTwo from to s h k e = two_of_arm from to h k e
two_shown axis.PressOne from to s h k e = two_of_press from to h k e
two_shown axis.PressTwo from to s h k e = two_of_press from to h k e

pub both_alone : (a : Axis) (from to : Pose) → is_belt a ≡ false → is_pose_of a from ≡ true → is_pose_of a to ≡ true
    → (place_in_axis to == place_in_axis from) ≡ false
    → shows_alone to (Some (bits_at a (bit_or (switch_bit to) (switch_bit from)))) ≡ false
both_alone a from to s h k e =
    not_one to a (bit_or (switch_bit to) (switch_bit from)) (two_shown a from to s h k e)

-- the old switch that is kept where it is shown anyway, or where none is
pub same_kept : (p : Pose) → bit_or (switch_bit p) (switch_bit p) ≡ switch_bit p
same_kept pose.Rest = refl
same_kept pose.ToEnd = refl
same_kept pose.ToTable = refl
same_kept pose.Low = refl
same_kept pose.High = refl
same_kept pose.Belt = refl
same_kept pose.Robot = refl
same_kept pose.Table1 = refl
same_kept pose.P1Load = refl
same_kept pose.P1Unload = refl
same_kept pose.P2Load = refl
same_kept pose.P2Unload = refl
same_kept pose.Deposit2 = refl
same_kept pose.In = refl
same_kept pose.Out = refl
same_kept pose.Middle = refl
same_kept pose.Top = refl
same_kept pose.Bottom = refl

pub none_kept : (p : Pose) → bit_or 0 (switch_bit p) ≡ switch_bit p
none_kept pose.Rest = refl
none_kept pose.ToEnd = refl
none_kept pose.ToTable = refl
none_kept pose.Low = refl
none_kept pose.High = refl
none_kept pose.Belt = refl
none_kept pose.Robot = refl
none_kept pose.Table1 = refl
none_kept pose.P1Load = refl
none_kept pose.P1Unload = refl
none_kept pose.P2Load = refl
none_kept pose.P2Unload = refl
none_kept pose.Deposit2 = refl
none_kept pose.In = refl
none_kept pose.Out = refl
none_kept pose.Middle = refl
none_kept pose.Top = refl
none_kept pose.Bottom = refl
