-- The cell as a state tells it
use Rattle.std.specs.Prelude.{not, ◌&&◌, is_some}
use Rattle.cell_types.specs.After.{Snapshot, is_plate}
use Rattle.cell_rules.specs.Situations.{Situation}

-- the cell as a state tells it
abbrev pub situation_in : Snapshot → Situation
situation_in s =
    record {
      entries = s.entries;
      admitted = s.admitted;
      at = s.at;
      going = s.going;
      holder = s.holder;
      failed = s.failed;
      asked = s.asked;
      lamp = s.lamp;
      expected = s.expected;
      waits = s.waits;
      holds = λ t k. is_plate k (s.plate t);
      occupied = λ t. is_some (s.plate t);
      other = λ t k. is_some (s.plate t) && not (is_plate k (s.plate t));
      plate = s.plate;
      forged_by = s.forged_by;
    }
