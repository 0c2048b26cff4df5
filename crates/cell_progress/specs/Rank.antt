-- How many entries can still come at most, as a sum over the parts of the cell
use Rattle.std.specs.Prelude.{ℕ, ◌+◌, ◌-◌, ◌*◌, nat_lt, Bool, false, ◌&&◌, ◌||◌, Option, Some, None, is_some, is_none}
use Rattle.std.specs.Prelude.{if◌then◌else◌}
use Rattle.cell_types.specs.declared.words.Machine.{Machine}
use Rattle.cell_types.specs.declared.words.Machine.TheVariants as machine
use Rattle.cell_types.specs.declared.words.Station.{Station}
use Rattle.cell_types.specs.declared.words.Station.TheVariants as station
use Rattle.cell_types.specs.declared.words.Axis.TheVariants as axis
use Rattle.cell_types.specs.declared.words.Pose.{Pose}
use Rattle.cell_types.specs.declared.words.Pose.TheVariants as pose
use Rattle.cell_types.specs.declared.words.Zone.{Zone}
use Rattle.cell_types.specs.declared.words.Zone.TheVariants as zone
use Rattle.cell_types.specs.declared.words.Belt.{Belt}
use Rattle.cell_types.specs.declared.words.Belt.TheVariants as belt
use Rattle.cell_types.specs.declared.words.Colour.{Colour}
use Rattle.cell_types.specs.declared.words.Colour.TheVariants as colour
use Rattle.cell_types.specs.Same.{same_pose}
use Rattle.cell_types.specs.After.{is_machine}
use Rattle.cell_rules.specs.First.{is_pose}
use Rattle.cell_rules.specs.Situations.{Situation}
use Rattle.cell_machines.specs.Jobs.{has_job, has_job_in, is_robots}
use Rattle.cell_machines.specs.Robot.{holds_a_zone}

abbrev pub weight : ℕ → Bool → ℕ
weight n b = if b then n else 0

-- the sum of the weights of those stations, and of those machines, that the test passes
abbrev pub stations_sum : (Station → ℕ) → (Station → Bool) → ℕ
stations_sum w o =
    weight (w station.FeedIn) (o station.FeedIn) + weight (w station.FeedEnd) (o station.FeedEnd)
    + weight (w station.Table) (o station.Table) + weight (w station.Arm1) (o station.Arm1)
    + weight (w station.Arm2) (o station.Arm2) + weight (w station.Press1) (o station.Press1)
    + weight (w station.Press2) (o station.Press2) + weight (w station.DepIn) (o station.DepIn)
    + weight (w station.DepEnd) (o station.DepEnd)

abbrev pub machines_sum : (Machine → ℕ) → (Machine → Bool) → ℕ
machines_sum w o =
    weight (w machine.Feed) (o machine.Feed) + weight (w machine.Table) (o machine.Table)
    + weight (w machine.Robot) (o machine.Robot) + weight (w machine.Press1) (o machine.Press1)
    + weight (w machine.Press2) (o machine.Press2) + weight (w machine.Deposit) (o machine.Deposit)

-- a plate costs what is still to be done with it, but for what its machine's own part counts already
abbrev pub plate_weight : Station → ℕ
plate_weight station.FeedIn = 74
plate_weight station.FeedEnd = 72
plate_weight station.Table = 60
plate_weight station.Arm1 = 43
plate_weight station.Arm2 = 15
plate_weight station.Press1 = 28
plate_weight station.Press2 = 28
plate_weight station.DepIn = 2
plate_weight station.DepEnd = 2

unfoldable pub plates_of : (Station → Bool) → ℕ
plates_of o = stations_sum plate_weight o

abbrev pub lamp_rank : Colour → ℕ
lamp_rank colour.Red = 1
lamp_rank colour.Green = 0

unfoldable pub lamps_rank : (Belt → Colour) → ℕ
lamps_rank lamp = lamp_rank (lamp belt.Feed) + lamp_rank (lamp belt.Deposit)

-- the feed belt, and Z1: while Feed holds it, whether the table is full or failed
abbrev pub feed_rank : Option Pose → Bool → Bool → ℕ
feed_rank g h o = weight 1 (is_none g) + (if h then weight 2 o else 1)

abbrev pub off : Option Pose → Pose → Pose → ℕ
off (Some p) at target = 1
off None at target = if same_pose at target then 0 else 2

abbrev pub zone_rank : ℕ → Bool → ℕ
zone_rank m h = if nat_lt 0 m then (if h then 1 else 2) else weight 1 h

-- the table: the moves to its target, and the zones that it has to claim and to yield
abbrev pub table_by : ℕ → Bool → Bool → ℕ
table_by m h1 h2 = m + (zone_rank m h1 + zone_rank m h2)

abbrev pub table_rank : Bool → Option Pose → Pose → Option Pose → Pose → Bool → Bool → ℕ
table_rank o g1 a1 g2 a2 h1 h2 =
    table_by (off g1 a1 (if o then pose.High else pose.Low) + off g2 a2 (if o then pose.Robot else pose.Belt)) h1 h2

abbrev pub press_rank : Option Pose → Pose → Bool → Bool → ℕ
press_rank (Some pose.Top) at h o = 4
press_rank (Some _) at h o = 2
press_rank None pose.Middle h o = if o then (if h then 5 else 6) else weight 1 h
press_rank None pose.Top h o = 3
press_rank None _ h o = if o then weight 1 h else (if h then 3 else 4)

abbrev pub deposit_rank : Option Pose → Bool → Bool → ℕ
deposit_rank (Some _) h o = 2
deposit_rank None h o = if o then (if h then 3 else 4) else weight 1 h

-- the robot holds a zone with a job
abbrev pub works_in : Situation → Zone → Bool
works_in c z = is_robots c z && has_job_in c z

abbrev pub any_zone : (Zone → Bool) → Bool
any_zone f = f zone.Z1 || (f zone.Z2 || (f zone.Z3 || (f zone.Z4 || f zone.Z5)))

unfoldable pub has_work : Situation → Bool
has_work c = any_zone (works_in c)

-- and is turned to it
abbrev pub turned_to : Situation → Pose → Bool
turned_to c p = same_pose (c.at axis.RobotTurn) p && has_job c p

unfoldable pub is_turned_in : Situation → Zone → Bool
is_turned_in c zone.Z1 = false
is_turned_in c zone.Z2 = turned_to c pose.Table1
is_turned_in c zone.Z3 = turned_to c pose.P1Load || turned_to c pose.P1Unload
is_turned_in c zone.Z4 = turned_to c pose.P2Load || turned_to c pose.P2Unload
is_turned_in c zone.Z5 = turned_to c pose.Deposit2

abbrev pub there_in : Situation → Zone → Bool
there_in c z = is_robots c z && is_turned_in c z

unfoldable pub is_there : Situation → Bool
is_there c = any_zone (there_in c)

-- drawing in, some arm under way, some arm out, turning, work, a zone held, turned to the work
abbrev pub robot_by : Bool → Bool → Bool → Bool → Bool → Bool → Bool → ℕ
robot_by inward going out turning work holds there =
    if inward then 7
    else (if going then (if work then 1 else 9)
    else (if out then (if work then 0 else 8)
    else (if turning then (if work then 3 else 7)
    else (if holds then (if work then (if there then 2 else 4) else 6) else 5))))

abbrev pub robot_rank : Situation → ℕ
robot_rank c =
    robot_by (is_pose pose.In (c.going axis.ArmOne) || is_pose pose.In (c.going axis.ArmTwo))
    (is_some (c.going axis.ArmOne) || is_some (c.going axis.ArmTwo))
    (same_pose (c.at axis.ArmOne) pose.Out || same_pose (c.at axis.ArmTwo) pose.Out)
    (is_some (c.going axis.RobotTurn)) (has_work c) (holds_a_zone c) (is_there c)

-- the part of each machine
abbrev pub part : Machine → Situation → ℕ
part machine.Feed c =
    feed_rank (c.going axis.FeedBelt) (is_machine machine.Feed (c.holder zone.Z1))
    (c.occupied station.Table || c.failed machine.Table)
part machine.Table c =
    table_rank (c.occupied station.Table) (c.going axis.TableLift) (c.at axis.TableLift) (c.going axis.TableTurn)
    (c.at axis.TableTurn) (is_machine machine.Table (c.holder zone.Z1)) (is_machine machine.Table (c.holder zone.Z2))
part machine.Robot c = robot_rank c
part machine.Press1 c =
    press_rank (c.going axis.PressOne) (c.at axis.PressOne) (is_machine machine.Press1 (c.holder zone.Z3))
    (c.occupied station.Press1)
part machine.Press2 c =
    press_rank (c.going axis.PressTwo) (c.at axis.PressTwo) (is_machine machine.Press2 (c.holder zone.Z4))
    (c.occupied station.Press2)
part machine.Deposit c =
    deposit_rank (c.going axis.DepositBelt) (is_machine machine.Deposit (c.holder zone.Z5)) (c.occupied station.DepIn)

-- what may come of the failure of a machine: while it may fail, and while it has failed
abbrev pub may_weight : Machine → ℕ
may_weight machine.Feed = 5
may_weight machine.Table = 10
may_weight machine.Robot = 7
may_weight machine.Press1 = 10
may_weight machine.Press2 = 10
may_weight machine.Deposit = 11

abbrev pub failed_weight : Machine → ℕ
failed_weight machine.Feed = 3
failed_weight machine.Robot = 6
failed_weight _ = 1

abbrev pub most_failures : (Machine → Bool) → ℕ
most_failures may = machines_sum may_weight may

unfoldable pub fail_rank : (Machine → Bool) → (Machine → Bool) → ℕ
fail_rank may failed = most_failures may + machines_sum failed_weight failed

-- what is left to admit, the plates, the lights, the machines' parts and the failures
abbrev pub sum_of : ℕ → ℕ → ℕ → (Machine → ℕ) → ℕ → ℕ
sum_of n p l f m =
    76 * n + (p + (l + (f machine.Feed + (f machine.Table + (f machine.Robot + (f machine.Press1 + (f machine.Press2
    + (f machine.Deposit + m))))))))

-- falls with every entry
unfoldable pub rank : ℕ → (Machine → Bool) → Situation → ℕ
rank plan may c =
    sum_of (plan - c.admitted) (plates_of c.occupied) (lamps_rank c.lamp) (λ m. part m c) (fail_rank may c.failed)
