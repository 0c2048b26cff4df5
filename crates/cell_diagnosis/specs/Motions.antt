-- The poses on the way of a motion
use Rattle.std.specs.Prelude.{ℕ, Bool, false, ◌&&◌, ◌||◌, ◌==◌, nat_lt}
use Rattle.cell_types.specs.declared.words.Axis.{Axis}
use Rattle.cell_types.specs.declared.words.Pose.{Pose}
use Rattle.cell_types.specs.declared.words.Axis.TheVariants as axis
use Rattle.cell_types.specs.declared.words.Pose.TheVariants as pose
use Rattle.cell_diagnosis.specs.declared.motion.Motion.{Motion}
use Rattle.cell_diagnosis.specs.Readings.{place_in_axis}

-- place i is strictly between two places
abbrev pub is_between : ℕ → ℕ → ℕ → Bool
is_between a i b = (nat_lt a i && nat_lt i b) || (nat_lt b i && nat_lt i a)

-- a press goes from Top to Bottom by Middle
abbrev pub is_press_passed : Pose → Pose → ℕ → Bool
is_press_passed pose.Top pose.Bottom i = i == place_in_axis pose.Middle
is_press_passed _ _ i = false

-- the axis passes place i on the way: the robot's turn the poses between, a press Middle on its way down, others none
abbrev pub is_passed : Axis → Pose → Pose → ℕ → Bool
is_passed axis.RobotTurn from to i = is_between (place_in_axis from) i (place_in_axis to)
is_passed axis.PressOne from to i = is_press_passed from to i
is_passed axis.PressTwo from to i = is_press_passed from to i
is_passed _ from to i = false

-- place i is that of `from`, of `to` or of a passing pose
abbrev pub is_on_way : Motion → ℕ → Bool
is_on_way m i = i == place_in_axis m.from || (i == place_in_axis m.to || is_passed m.axis m.from m.to i)
