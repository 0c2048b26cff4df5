-- What a picture shows of a journal, as a function of the journal alone
use Rattle.std.specs.Prelude.{◌-◌, Option, List, map, length, nat_lt, slice_get}
use Rattle.std.specs.List.{count_by}
use Rattle.std.specs.Option.{option_map}
use Rattle.cell_types.specs.declared.words.Station.{Station}
use Rattle.cell_types.specs.declared.words.Entry.{Entry}
use Rattle.cell_types.specs.Texts.{all_station, all_axis, all_zone, all_machine, all_belt}
use Rattle.cell_rules.specs.Views.{plate_of, pose_of, holder_of, is_failed, is_asked, lamp_of, expected_of, count_of}
use Rattle.cell_rules.specs.Safety.{is_forged_as}
use Rattle.cell_picture.specs.declared.facts.ShownPlate.{ShownPlate}
use Rattle.cell_picture.specs.declared.facts.Facts.{Facts}

-- the plate that a journal tells at a station, and whether one of its entries books that it was forged
abbrev pub told_at : List Entry → Station → Option ShownPlate
told_at J t = option_map (λ k. record { plate = k; forged = nat_lt 0 (count_by (is_forged_as k) J) }) (plate_of J t)

-- what a picture shows of a journal: what its views tell of each station, axis, zone, machine and light, in the order
-- of the cell's words, the expected plate, how many plates are in quarantine, and the totals
unfoldable pub facts_told : List Entry → Facts
facts_told J =
    record {
      plates = map (told_at J) all_station;
      axes = map (pose_of J) all_axis;
      holders = map (holder_of J) all_zone;
      failed = map (is_failed J) all_machine;
      asked = map (is_asked J) all_machine;
      lamps = map (lamp_of J) all_belt;
      expected = expected_of J;
      quarantine = (count_of J).quarantined - (count_of J).reinstated;
      totals = count_of J;
    }

-- the last entry of a journal, if there is one
abbrev pub last_of : List Entry → Option Entry
last_of J = slice_get J (length J - 1)
