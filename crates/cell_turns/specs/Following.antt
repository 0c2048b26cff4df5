-- What the two watches of a machine stand for: the readings that each noted
use Rattle.std.specs.Prelude.{◌≡◌, Option, Some, None, List}
use Rattle.cell_diagnosis.specs.declared.motion.Motion.{Motion}
use Rattle.cell_diagnosis.specs.declared.axis_watch.AxisWatch.{AxisWatch}
use Rattle.cell_diagnosis.specs.declared.rest_watch.RestWatch.{RestWatch}
use Rattle.cell_diagnosis.specs.Readings.{Seen}
use Rattle.cell_diagnosis.specs.RestFacts.{Noted}
use Rattle.cell_diagnosis.specs.AxisWatches.{motion_of, Fits}
use Rattle.cell_diagnosis.specs.RestWatches.{RestFits}

-- a motion that is followed, and its readings so far
pub record Following : Type 0 where
  pub motion : Motion
  pub readings : List Seen

-- an axis watch, if there is one, follows the motion and fits its readings
abbrev pub FitsAxis : Option AxisWatch → Option Following → Type 0
FitsAxis None None = Unit {0}
FitsAxis (Some w) (Some f) = (motion_of w ≡ f.motion) × Fits w f.readings
FitsAxis _ _ = ⊥

-- there are readings that both watches fit
pub record IsFitted (axis : Option AxisWatch) (rest : RestWatch) : Type 0 where
  pub following : Option Following
  pub noted : List Noted
  pub axis_fits : FitsAxis axis following
  pub rest_fits : RestFits rest noted
