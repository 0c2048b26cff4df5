-- The records of a text, as csv reads them
use Rattle.std.specs.Prelude.{◌+◌, ℕ, List, length}
use Rattle.csv.specs.Reading.{default_config, records, records_from, strip_bom}
use Rattle.csv.specs.declared.parser.State.{State}

-- a record: its fields, each its bytes
abbrev pub Row : Type 0
Row = List (List ℕ)

-- the records of a text, as csv reads them: no header row, records of any length, no trimming
abbrev pub rows_of : List ℕ → List Row
rows_of text = records default_config (strip_bom text)

-- the records that a text goes on with, from a state of csv's machine
abbrev pub rows_from : State → List ℕ → List Row
rows_from s xs = records_from default_config (length xs + 1) s xs
