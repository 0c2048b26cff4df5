-- The ends of motions
use Rattle.std.specs.Prelude.{Option, Some}
use Rattle.std.specs.Option.{option_and_then, option_map, option_or}
use Rattle.cell_types.specs.declared.words.Machine.{Machine}
use Rattle.cell_types.specs.declared.words.Machine.TheVariants as machine
use Rattle.cell_types.specs.declared.words.Station.{Station}
use Rattle.cell_types.specs.declared.words.Station.TheVariants as station
use Rattle.cell_types.specs.declared.words.Axis.{Axis}
use Rattle.cell_types.specs.declared.words.Axis.TheVariants as axis
use Rattle.cell_types.specs.declared.words.Pose.{Pose}
use Rattle.cell_types.specs.declared.words.Pose.TheVariants as pose
use Rattle.cell_types.specs.declared.words.Entry.{Entry}
use Rattle.cell_types.specs.declared.words.Entry.TheVariants.{Arrived, Conveyed, Forged}
use Rattle.cell_rules.specs.Situations.{Situation}

-- a belt brings the plate that it carries from one station to another
abbrev pub brought : Situation → Axis → Station → Station → Option Entry
brought c a from dest = option_map (λ k. Conveyed a k dest) (c.plate from)

-- a press that goes up forges its plate
abbrev pub struck : Situation → Machine → Station → Option Entry
struck c press s = option_map (λ k. Forged press k) (c.plate s)

-- the end of an axis's motion to a pose; neither a belt nor a press that goes up ends it without its plate
abbrev pub end_at : Situation → Axis → Pose → Option Entry
end_at c axis.FeedBelt pose.ToEnd = brought c axis.FeedBelt station.FeedIn station.FeedEnd
end_at c axis.FeedBelt to = brought c axis.FeedBelt station.FeedEnd station.Table
end_at c axis.DepositBelt to = brought c axis.DepositBelt station.DepIn station.DepEnd
end_at c axis.PressOne pose.Top = struck c machine.Press1 station.Press1
end_at c axis.PressTwo pose.Top = struck c machine.Press2 station.Press2
end_at c a to = Some (Arrived a to)

-- the end of an axis's motion, if it moves
abbrev pub end_of : Situation → Axis → Option Entry
end_of c a = option_and_then (end_at c a) (c.going a)

-- the end of a motion of a machine's, if one of its axes moves
abbrev pub end_of_motion : Situation → Machine → Option Entry
end_of_motion c machine.Feed = end_of c axis.FeedBelt
end_of_motion c machine.Table = option_or (end_of c axis.TableLift) (end_of c axis.TableTurn)
end_of_motion c machine.Robot =
    option_or (end_of c axis.RobotTurn) (option_or (end_of c axis.ArmOne) (end_of c axis.ArmTwo))
end_of_motion c machine.Press1 = end_of c axis.PressOne
end_of_motion c machine.Press2 = end_of c axis.PressTwo
end_of_motion c machine.Deposit = end_of c axis.DepositBelt
