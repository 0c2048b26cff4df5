-- What a watched world looks at, by the safety rules, and what a broken one does to plates
use Rattle.std.specs.Prelude.{ℕ, Bool, true, false, not, ◌&&◌, ◌||◌, Option, Some, None, List, [], ◌∷◌, is_some, map}
use Rattle.std.specs.Prelude.{slice_index_or, slice_set, if◌then◌else◌}
use Rattle.std.specs.List.{list_any}
use Rattle.cell_types.specs.declared.words.Arm.{Arm}
use Rattle.cell_types.specs.declared.words.Arm.TheVariants as arm
use Rattle.cell_types.specs.declared.words.Axis.{Axis}
use Rattle.cell_types.specs.declared.words.Axis.TheVariants as axis
use Rattle.cell_types.specs.declared.words.Command.{Command}
use Rattle.cell_types.specs.declared.words.Command.TheVariants.{On, MagnetOff}
use Rattle.cell_types.specs.declared.words.Machine.{Machine}
use Rattle.cell_types.specs.declared.words.Machine.TheVariants as machine
use Rattle.cell_types.specs.declared.words.Pose.{Pose}
use Rattle.cell_types.specs.declared.words.Pose.TheVariants as pose
use Rattle.cell_types.specs.declared.words.Station.{Station}
use Rattle.cell_types.specs.declared.words.Station.TheVariants as station
use Rattle.cell_types.specs.declared.cell.BeltMotion.{BeltMotion}
use Rattle.cell_types.specs.Cell.{Faced, axis_of_arm, faced, is_pose_of, motion_named, press_of, station_of_arm}
use Rattle.cell_types.specs.Same.{same_machine, same_pose, same_station}
use Rattle.cell_sim.specs.declared.watch.SafetyRule.{SafetyRule}
use Rattle.cell_sim.specs.declared.watch.SafetyRule.TheVariants as rule
use Rattle.cell_sim.specs.declared.watch.Watch.{Watch}
use Rattle.cell_sim.specs.declared.watch.rules.Situation.{Situation}
use Rattle.cell_sim.specs.declared.watch.rules.Situation.TheVariants.{ArmInPress, ArmOverTable, ArmOverBelt}
use Rattle.cell_sim.specs.declared.watch.rules.Situation.TheVariants.{TurnWithArmOut, TableNotReady}
use Rattle.cell_sim.specs.Parts.{broke, has_plate, in_turn, is_axis_moving, is_machine_moving, plate_lost}
use Rattle.cell_sim.specs.Parts.{state_of}
use Rattle.cell_sim.specs.Simulated.{Simulated}

-- WHAT IS LOOKED AT

-- an axis is at rest at a pose
abbrev pub is_at_rest : Simulated → Axis → Pose → Bool
is_at_rest w a p = same_pose (state_of w a).at p && not (is_some (state_of w a).going)

abbrev pub is_in : Simulated → Arm → Bool
is_in w a = is_at_rest w (axis_of_arm a) pose.In

-- what an arm faces that isn't in; while the robot turns, its arms face what they faced before
unfoldable pub reached : Simulated → Arm → Option Faced
reached w a = if is_in w a then None else faced a (state_of w axis.RobotTurn).at

-- an axis isn't at rest at a pose
abbrev pub is_away : Simulated → Axis × Pose → Bool
is_away w p = not (is_at_rest w p.0 p.1)

-- what is faced is a press that moves or isn't where the arm serves it
abbrev pub is_unready_press : Simulated → Option Faced → Bool
is_unready_press w None = false
is_unready_press w (Some f) = is_some (press_of f.owner) && list_any (is_away w) f.after

-- what is faced is of this machine, which moves
abbrev pub is_moving_owner : Simulated → Machine → Option Faced → Bool
is_moving_owner w m None = false
is_moving_owner w m (Some f) = same_machine f.owner m && is_machine_moving w m

-- the table is at rest low and turned to the belt, and has no plate
unfoldable pub can_table_take : Simulated → Bool
can_table_take w =
    is_at_rest w axis.TableLift pose.Low && (is_at_rest w axis.TableTurn pose.Belt && not (has_plate w station.Table))

abbrev pub leads_to : Pose → Option Pose → Bool
leads_to p None = false
leads_to p (Some q) = same_pose q p

-- the feed belt goes to the table, which can't take a plate
abbrev pub is_table_not_ready : Simulated → Bool
is_table_not_ready w =
    leads_to pose.ToTable (state_of w axis.FeedBelt).going
    && (is_axis_moving w axis.FeedBelt && not (can_table_take w))

-- what breaks a rule as the cell stands
unfoldable pub is_so : Simulated → Situation → Bool
is_so w (ArmInPress a) = is_unready_press w (reached w a)
is_so w (ArmOverTable a) = is_moving_owner w machine.Table (reached w a)
is_so w (ArmOverBelt a) = is_moving_owner w machine.Deposit (reached w a)
is_so w (TurnWithArmOut a) = is_axis_moving w axis.RobotTurn && not (is_in w a)
is_so w TableNotReady = is_table_not_ready w

abbrev pub rule_of : Situation → SafetyRule
rule_of (ArmInPress a) = rule.ArmInPress
rule_of (ArmOverTable a) = rule.ArmOverTable
rule_of (ArmOverBelt a) = rule.ArmOverBelt
rule_of (TurnWithArmOut a) = rule.TurnWithArmOut
rule_of TableNotReady = rule.TableNotReady

-- the arm that is where it mustn't be
abbrev pub arm_of : Situation → Option Arm
arm_of (ArmInPress a) = Some a
arm_of (ArmOverTable a) = Some a
arm_of (ArmOverBelt a) = Some a
arm_of (TurnWithArmOut a) = Some a
arm_of TableNotReady = None

-- the second arm never faces the table, nor the first the deposit belt
abbrev pub all_situation : List Situation
all_situation =
    ArmInPress arm.Arm1 ∷ ArmInPress arm.Arm2 ∷ ArmOverTable arm.Arm1 ∷ ArmOverBelt arm.Arm2
    ∷ TurnWithArmOut arm.Arm1 ∷ TurnWithArmOut arm.Arm2 ∷ TableNotReady ∷ []

-- a situation's place among all
abbrev pub situation_number : Situation → ℕ
situation_number (ArmInPress arm.Arm1) = 0
situation_number (ArmInPress arm.Arm2) = 1
situation_number (ArmOverTable a) = 2
situation_number (ArmOverBelt a) = 3
situation_number (TurnWithArmOut arm.Arm1) = 4
situation_number (TurnWithArmOut arm.Arm2) = 5
situation_number TableNotReady = 6

-- THE LOOK AFTER A COMMAND, A MOTION'S END OR THE OPERATOR'S HANDS

abbrev pub was_so : Watch → Situation → Bool
was_so t s = slice_index_or t.standing (situation_number s) false

abbrev pub now_so : Situation → Bool → Watch → Watch
now_so s so t = record t { standing = slice_set t.standing (situation_number s) so }

abbrev pub plate_of_arm_lost : Option Arm → Simulated → Simulated
plate_of_arm_lost None w = w
plate_of_arm_lost (Some a) w = plate_lost (station_of_arm a) w

-- what is so and wasn't breaks its rule, and the plate of an arm where it mustn't be is gone
abbrev pub new_broke : Situation → Option Command → Bool → Simulated → Simulated
new_broke s c new w = if new then plate_of_arm_lost (arm_of s) (broke (rule_of s) c w) else w

unfoldable pub situation_looked : Option Command → Situation → Simulated → Simulated
situation_looked c s w =
    new_broke s c (is_so w s && not (was_so w.watch s)) (record w { watch = now_so s (is_so w s) w.watch })

-- a watched world looks at each situation
unfoldable pub looked : Option Command → Simulated → Simulated
looked c w = if w.watch.is_on then in_turn (situation_looked c) all_situation w else w

-- a world that is watched from here on: what is so already isn't counted as broken anew
abbrev pub with_watch : Simulated → Simulated
with_watch w = record w { watch = record w.watch { is_on = true; standing = map (is_so w) all_situation } }

-- THE LOOK AT A COMMAND BEFORE IT IS CARRIED OUT

abbrev pub is_belt : Axis → Bool
is_belt axis.FeedBelt = true
is_belt axis.DepositBelt = true
is_belt _ = false

-- an axis can't go to a pose: a belt has motions, and rests where they end
abbrev pub is_no_such_pose : Axis → Pose → Bool
is_no_such_pose a to = if is_belt a then not (is_some (motion_named a to)) else not (is_pose_of a to)

-- a belt is sent to its end, which has a plate
abbrev pub is_full_end_of : Simulated → Pose → Option BeltMotion → Bool
is_full_end_of w to None = false
is_full_end_of w to (Some m) = same_pose to pose.ToEnd && has_plate w m.dest

abbrev pub press_station : Axis → Option Station
press_station axis.PressOne = Some station.Press1
press_station axis.PressTwo = Some station.Press2
press_station _ = None

-- a press is sent on in another order than the one
abbrev pub is_out_of_order : Simulated → Axis → Pose → Bool → Bool
is_out_of_order w a to full =
    if same_pose to pose.Top then not (is_at_rest w a pose.Middle) || not full
    else if same_pose to pose.Bottom then not (is_at_rest w a pose.Top)
    else not (is_at_rest w a pose.Bottom) || full

abbrev pub is_other_order : Simulated → Axis → Pose → Option Station → Bool
is_other_order w a to None = false
is_other_order w a to (Some s) = is_out_of_order w a to (has_plate w s)

-- the rule that a command to move an axis breaks
unfoldable pub broken_by_start : Simulated → Axis → Pose → Option SafetyRule
broken_by_start w a to =
    if is_no_such_pose a to then Some rule.NoSuchPose
    else if is_full_end_of w to (motion_named a to) then Some rule.FullEnd
    else if is_other_order w a to (press_station a) then Some rule.PressOrder
    else None

abbrev pub broke_by : Option SafetyRule → Command → Simulated → Simulated
broke_by None c w = w
broke_by (Some rule) c w = broke rule (Some c) w

unfoldable pub start_looked : Axis → Pose → Simulated → Simulated
start_looked a to w = if w.watch.is_on then broke_by (broken_by_start w a to) (On a to) w else w

-- THE LOOK AT A PLATE

-- the rule that an arm with a plate breaks where it lets go over a full station or none
abbrev pub broken_over : Simulated → Option Station → Option SafetyRule
broken_over w None = Some rule.PlateDropped
broken_over w (Some s) = if has_plate w s then Some rule.PlateOnPlate else None

unfoldable pub broken_by_release : Simulated → Arm → Option Station → Option SafetyRule
broken_by_release w a below = if has_plate w (station_of_arm a) then broken_over w below else None

-- the plate that a magnet held which let go so is gone
abbrev pub plate_dropped : Arm → Option SafetyRule → Simulated → Simulated
plate_dropped a None w = w
plate_dropped a (Some rule) w = plate_lost (station_of_arm a) (broke rule (Some (MagnetOff a)) w)

unfoldable pub release_looked : Arm → Option Station → Simulated → Simulated
release_looked a below w = if w.watch.is_on then plate_dropped a (broken_by_release w a below) w else w

-- a plate that a belt brings can lie at the end
abbrev pub can_lie : Simulated → Station → Bool
can_lie w to = if same_station to station.Table then can_table_take w else not (has_plate w to)

-- else it is gone
unfoldable pub carrying_looked : Station → Station → Simulated → Simulated
carrying_looked from to w = if w.watch.is_on && not (can_lie w to) then plate_lost from w else w
