-- What a picture of the cell shows of a state, and what it shows of a journal
use Rattle.std.specs.Prelude.{◌-◌, Bool, true, false, not, Option, map}
use Rattle.std.specs.Option.{option_map}
use Rattle.cell_types.specs.declared.words.Station.{Station}
use Rattle.cell_types.specs.declared.words.Axis.{Axis}
use Rattle.cell_types.specs.declared.words.Pose.{Pose}
use Rattle.cell_types.specs.declared.words.Station.TheVariants as station
use Rattle.cell_types.specs.declared.words.Axis.TheVariants as axis
use Rattle.cell_types.specs.declared.words.Pose.TheVariants as pose
use Rattle.cell_types.specs.Same.{same_pose}
use Rattle.cell_types.specs.Texts.{all_belt, all_station}
use Rattle.cell_types.specs.After.{Snapshot as State}
use Rattle.cell_journal.specs.declared.snapshot.Snapshot.{Snapshot}
use Rattle.cell_journal.specs.Snapshots.{state_of}
use Rattle.cell_picture.specs.declared.facts.ShownPlate.{ShownPlate}
use Rattle.cell_picture.specs.declared.facts.Facts.{Facts}

-- whether a plate at a station is forged: a press goes from Middle to Top, where it forges the plate, and from there to
-- Bottom, where the plate is gripped
abbrev pub is_forged : (Axis → Pose) → Station → Bool
is_forged at station.Press1 = not (same_pose (at axis.PressOne) pose.Middle)
is_forged at station.Press2 = not (same_pose (at axis.PressTwo) pose.Middle)
is_forged at station.Arm2 = true
is_forged at station.DepIn = true
is_forged at station.DepEnd = true
is_forged at _ = false

-- the plate at a station, and whether it is forged
abbrev pub shown_at : State → Station → Option ShownPlate
shown_at s t = option_map (λ k. record { plate = k; forged = is_forged s.at t }) (s.plate t)

-- what a picture shows of a snapshot
abbrev pub facts_of : Snapshot → Facts
facts_of s =
    record {
      plates = map (shown_at (state_of s)) all_station;
      axes = s.axes;
      holders = s.holders;
      failed = s.failed;
      asked = s.asked;
      lamps = map (state_of s).lamp all_belt;
      expected = s.expected;
      quarantine = s.totals.quarantined - s.totals.reinstated;
      totals = s.totals;
    }
