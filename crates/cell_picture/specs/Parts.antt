-- What the facts of a picture show of one station, axis, zone, machine or light: each list is in the order of its words
use Rattle.std.specs.Prelude.{◌≡◌, Bool, false, Option, None, length, slice_index_or}
use Rattle.cell_types.specs.declared.words.Machine.{Machine}
use Rattle.cell_types.specs.declared.words.Station.{Station}
use Rattle.cell_types.specs.declared.words.Axis.{Axis}
use Rattle.cell_types.specs.declared.words.AxisState.{AxisState}
use Rattle.cell_types.specs.declared.words.Zone.{Zone}
use Rattle.cell_types.specs.declared.words.Belt.{Belt}
use Rattle.cell_types.specs.declared.words.Colour.{Colour}
use Rattle.cell_types.specs.declared.words.Colour.TheVariants as colour
use Rattle.cell_types.specs.Same.{axis_number, station_number, zone_number, machine_number, belt_number}
use Rattle.cell_journal.specs.Snapshots.{no_axis}
use Rattle.cell_picture.specs.declared.facts.ShownPlate.{ShownPlate}
use Rattle.cell_picture.specs.declared.facts.Facts.{Facts}

-- the plate that is shown at a station
abbrev pub plate_shown : Facts → Station → Option ShownPlate
plate_shown f t = slice_index_or f.plates (station_number t) None

-- the pose that is shown of an axis, and where it is going
abbrev pub axis_shown : Facts → Axis → AxisState
axis_shown f a = slice_index_or f.axes (axis_number a) no_axis

-- the machine that is shown as a zone's holder
abbrev pub holder_shown : Facts → Zone → Option Machine
holder_shown f z = slice_index_or f.holders (zone_number z) None

-- whether a machine is shown as failed
abbrev pub failed_shown : Facts → Machine → Bool
failed_shown f m = slice_index_or f.failed (machine_number m) false

-- whether a machine is shown as asked to stop
abbrev pub asked_shown : Facts → Machine → Bool
asked_shown f m = slice_index_or f.asked (machine_number m) false

-- the colour that is shown of a belt's light
abbrev pub lamp_shown : Facts → Belt → Colour
lamp_shown f b = slice_index_or f.lamps (belt_number b) colour.Red

-- each list has a place for each of its words
pub record IsWhole (f : Facts) : Type 0 where
  pub plates : length f.plates ≡ 9
  pub axes : length f.axes ≡ 9
  pub holders : length f.holders ≡ 5
  pub failed : length f.failed ≡ 6
  pub asked : length f.asked ≡ 6
  pub lamps : length f.lamps ≡ 2
