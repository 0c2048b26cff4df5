-- What a healthy machine that moves carries: a belt the plate of its motion's first station, a press that goes to Top a
-- plate
use Rattle.std.specs.Prelude.{◌≡◌, true, false, Option, Some, None, List}
use Rattle.cell_types.specs.declared.words.Station.{Station}
use Rattle.cell_types.specs.declared.words.Axis.{Axis}
use Rattle.cell_types.specs.declared.words.Pose.{Pose}
use Rattle.cell_types.specs.declared.words.Entry.{Entry}
use Rattle.cell_types.specs.declared.words.Station.TheVariants as station
use Rattle.cell_types.specs.declared.words.Axis.TheVariants as axis
use Rattle.cell_types.specs.declared.words.Pose.TheVariants as pose
use Rattle.cell_types.specs.Cell.{machine_of_axis}
use Rattle.cell_rules.specs.Views.{going_of, is_failed, is_occupied}

-- the station whose plate a motion carries
abbrev pub carries_from : Axis → Pose → Option Station
carries_from axis.FeedBelt pose.ToEnd = Some station.FeedIn
carries_from axis.FeedBelt pose.ToTable = Some station.FeedEnd
carries_from axis.DepositBelt pose.ToEnd = Some station.DepIn
carries_from axis.PressOne pose.Top = Some station.Press1
carries_from axis.PressTwo pose.Top = Some station.Press2
carries_from _ _ = None

-- where an axis of a healthy machine goes with a motion that carries a plate, that plate is there
abbrev pub IsCarrying : List Entry → Type 0
IsCarrying J = (a : Axis) (to : Pose) (s : Station) → going_of J a ≡ Some to → carries_from a to ≡ Some s
    → is_failed J (machine_of_axis a) ≡ false → is_occupied J s ≡ true
