-- The names of the cell's words in English
use Rattle.std.specs.Prelude.{ℕ, List, [], codes}
use Rattle.cell_types.specs.declared.words.Machine.{Machine}
use Rattle.cell_types.specs.declared.words.Machine.TheVariants as machine
use Rattle.cell_types.specs.declared.words.Station.{Station}
use Rattle.cell_types.specs.declared.words.Station.TheVariants as station
use Rattle.cell_types.specs.declared.words.Axis.{Axis}
use Rattle.cell_types.specs.declared.words.Axis.TheVariants as axis
use Rattle.cell_types.specs.declared.words.Pose.{Pose}
use Rattle.cell_types.specs.declared.words.Pose.TheVariants as pose
use Rattle.cell_types.specs.declared.words.Zone.{Zone}
use Rattle.cell_types.specs.declared.words.Zone.TheVariants as zone
use Rattle.cell_types.specs.declared.words.Arm.{Arm}
use Rattle.cell_types.specs.declared.words.Arm.TheVariants as arm
use Rattle.cell_types.specs.declared.words.Belt.{Belt}
use Rattle.cell_types.specs.declared.words.Belt.TheVariants as belt
use Rattle.cell_types.specs.declared.words.Colour.{Colour}
use Rattle.cell_types.specs.declared.words.Colour.TheVariants as colour
use Rattle.cell_types.specs.declared.words.Cause.{Cause}
use Rattle.cell_types.specs.declared.words.Cause.TheVariants as cause

-- the name of a machine, as a sentence's actor
abbrev pub machine_name : Machine → List ℕ
machine_name machine.Feed = codes "feed belt"
machine_name machine.Table = codes "table"
machine_name machine.Robot = codes "robot"
machine_name machine.Press1 = codes "press 1"
machine_name machine.Press2 = codes "press 2"
machine_name machine.Deposit = codes "deposit belt"

-- a machine within a sentence
abbrev pub the_machine : Machine → List ℕ
the_machine machine.Feed = codes "the feed belt"
the_machine machine.Table = codes "the table"
the_machine machine.Robot = codes "the robot"
the_machine machine.Press1 = codes "press 1"
the_machine machine.Press2 = codes "press 2"
the_machine machine.Deposit = codes "the deposit belt"

-- a station within a sentence
abbrev pub station_name : Station → List ℕ
station_name station.FeedIn = codes "the feed belt's start"
station_name station.FeedEnd = codes "the feed belt's end"
station_name station.Table = codes "the table"
station_name station.Arm1 = codes "arm 1"
station_name station.Arm2 = codes "arm 2"
station_name station.Press1 = codes "press 1"
station_name station.Press2 = codes "press 2"
station_name station.DepIn = codes "the deposit belt's start"
station_name station.DepEnd = codes "the deposit belt's end"

-- an axis within a sentence
abbrev pub axis_name : Axis → List ℕ
axis_name axis.FeedBelt = codes "the feed belt"
axis_name axis.TableLift = codes "the table's lift"
axis_name axis.TableTurn = codes "the table's turn"
axis_name axis.RobotTurn = codes "the robot's turn"
axis_name axis.ArmOne = codes "arm 1"
axis_name axis.ArmTwo = codes "arm 2"
axis_name axis.PressOne = codes "press 1"
axis_name axis.PressTwo = codes "press 2"
axis_name axis.DepositBelt = codes "the deposit belt"

-- an axis within a sentence about its machine, with a blank after it; nothing for a machine of one axis
abbrev pub axis_of_its_machine : Axis → List ℕ
axis_of_its_machine axis.FeedBelt = []
axis_of_its_machine axis.TableLift = codes "the lift "
axis_of_its_machine axis.TableTurn = codes "the turn "
axis_of_its_machine axis.RobotTurn = codes "the turn "
axis_of_its_machine axis.ArmOne = codes "arm 1 "
axis_of_its_machine axis.ArmTwo = codes "arm 2 "
axis_of_its_machine axis.PressOne = []
axis_of_its_machine axis.PressTwo = []
axis_of_its_machine axis.DepositBelt = []

-- the name of a pose, or of a belt's motion
abbrev pub pose_name : Pose → List ℕ
pose_name pose.Rest = codes "rest"
pose_name pose.ToEnd = codes "to its end"
pose_name pose.ToTable = codes "to the table"
pose_name pose.Low = codes "low"
pose_name pose.High = codes "high"
pose_name pose.Belt = codes "at the feed belt"
pose_name pose.Robot = codes "at the robot"
pose_name pose.Table1 = codes "at the table"
pose_name pose.P1Load = codes "at press 1 to load it"
pose_name pose.P1Unload = codes "at press 1 to unload it"
pose_name pose.P2Load = codes "at press 2 to load it"
pose_name pose.P2Unload = codes "at press 2 to unload it"
pose_name pose.Deposit2 = codes "at the deposit belt"
pose_name pose.In = codes "in"
pose_name pose.Out = codes "out"
pose_name pose.Middle = codes "middle"
pose_name pose.Top = codes "top"
pose_name pose.Bottom = codes "bottom"

-- where an axis goes that goes to a pose
abbrev pub way_to_pose : Pose → List ℕ
way_to_pose pose.Rest = codes "to rest"
way_to_pose pose.ToEnd = codes "to its end"
way_to_pose pose.ToTable = codes "to the table"
way_to_pose pose.Low = codes "low"
way_to_pose pose.High = codes "high"
way_to_pose pose.Belt = codes "to the feed belt"
way_to_pose pose.Robot = codes "to the robot"
way_to_pose pose.Table1 = codes "to the table"
way_to_pose pose.P1Load = codes "to press 1 to load it"
way_to_pose pose.P1Unload = codes "to press 1 to unload it"
way_to_pose pose.P2Load = codes "to press 2 to load it"
way_to_pose pose.P2Unload = codes "to press 2 to unload it"
way_to_pose pose.Deposit2 = codes "to the deposit belt"
way_to_pose pose.In = codes "in"
way_to_pose pose.Out = codes "out"
way_to_pose pose.Middle = codes "to the middle"
way_to_pose pose.Top = codes "to the top"
way_to_pose pose.Bottom = codes "to the bottom"

-- a zone within a sentence
abbrev pub zone_name : Zone → List ℕ
zone_name zone.Z1 = codes "zone z1"
zone_name zone.Z2 = codes "zone z2"
zone_name zone.Z3 = codes "zone z3"
zone_name zone.Z4 = codes "zone z4"
zone_name zone.Z5 = codes "zone z5"

-- an arm within a sentence
abbrev pub arm_name : Arm → List ℕ
arm_name arm.Arm1 = codes "arm 1"
arm_name arm.Arm2 = codes "arm 2"

-- a belt's light within a sentence
abbrev pub light_name : Belt → List ℕ
light_name belt.Feed = codes "the feed light"
light_name belt.Deposit = codes "the deposit light"

-- a colour within a sentence
abbrev pub colour_name : Colour → List ℕ
colour_name colour.Red = codes "red"
colour_name colour.Green = codes "green"

-- a cause of a failure, after "since"
abbrev pub cause_name : Cause → List ℕ
cause_name cause.StuckSwitch = codes "a switch stays shown though the axis moves"
cause_name cause.Contradictory = codes "an axis shows two switches or more"
cause_name cause.StrayPosition = codes "a switch outside the motion is shown"
cause_name cause.NoDeparture = codes "an axis is still where it started"
cause_name cause.MissingMotion = codes "an axis didn't arrive in time"
cause_name cause.LostPosition = codes "an axis at rest isn't shown at its pose"
cause_name cause.PlateLost = codes "a booked plate isn't shown"
cause_name cause.StrangePlate = codes "a plate is shown where none is booked"
cause_name cause.Silent = codes "its readings are missing"
cause_name cause.CommandFault = codes "a command to it failed"
cause_name cause.OperatorStop = codes "the operator asked for the stop"
