-- The records that a reader of records has left, and the one that it read last
use Rattle.std.specs.Prelude.{◌≡◌, Bool, true, false, ℕ, List, [], ◌∷◌, Option, Some, None, option_map, ⊤}
use Rattle.csv.specs.Reading.{Ready, default_config, is_flexible, reader_config, reader_source, reader_state}
use Rattle.csv.specs.Reading.{reader_trim, source_of}
use Rattle.csv.specs.Records.{fields_of}
use Rattle.csv.specs.declared.reader.Trim.TheVariants as trim
use Rattle.cell_rows.specs.declared.rows.RowReader.{RowReader}
use Rattle.cell_rows.specs.declared.rows.Source.{Source}
use Rattle.cell_rows.specs.declared.rows.Source.TheVariants.{Plain, Csv, Moved}
pub use Rattle.cell_rows.specs.Texts.{Row, rows_of, rows_from}
use Rattle.cell_rows.specs.Sights.{InSight, bytes_left, plain_row}

-- the records left: those of the text that is left, or, once csv reads it, those that it goes on with
abbrev pub rows_in : {R : Type 0} → (R → Option (List ℕ)) → Source R → Option (List Row)
rows_in rem (Plain ahead) = option_map rows_of (bytes_left rem ahead)
rows_in rem (Csv reader) = option_map (rows_from (reader_state reader)) (source_of (bytes_left rem) reader)
rows_in rem Moved = None

-- the records that a reader has left, where its bytes are known
unfoldable pub rows_left : {R : Type 0} → (R → Option (List ℕ)) → RowReader R → Option (List Row)
rows_left rem r = rows_in rem r.source

abbrev pub row_in : {R : Type 0} → Source R → Row → Row
row_in (Plain ahead) row = plain_row ahead
row_in _ row = row

-- the record that was read last
abbrev pub current_row : {R : Type 0} → RowReader R → Row
current_row r = row_in r.source (fields_of r.row)

abbrev pub failed_in : {R : Type 0} → (R → Bool) → Source R → Bool
failed_in failed (Plain ahead) = failed ahead.source
failed_in failed (Csv reader) = failed (reader_source reader).source
failed_in failed Moved = false

-- a read of the reader underneath failed
abbrev pub device_failed : {R : Type 0} → (R → Bool) → RowReader R → Bool
device_failed failed r = failed_in failed r.source

abbrev pub open_in : {R : Type 0} → Source R → Type 0
open_in (Plain ahead) = InSight ahead
open_in (Csv reader) = (reader_trim reader ≡ trim.None) × Ready reader × (reader_config reader ≡ default_config)
    × (is_flexible reader ≡ true)
open_in Moved = ⊥

abbrev pub is_csv : {R : Type 0} → Source R → Bool
is_csv (Csv reader) = true
is_csv _ = false

-- the reader is set up as texts are read here, and may be read on
unfoldable pub IsOpen : {R : Type 0} → RowReader R → Type 0
IsOpen r = open_in r.source

-- a read took the first of the records left (true), or found that none is left (false)
abbrev pub Takes : List Row → Option (List Row) → Row → Bool → Type 0
Takes old None row found = ⊥
Takes old (Some new) row true = old ≡ row ∷ new
Takes old (Some new) row false = old ≡ []

-- the same, where the records left are known
abbrev pub TakesRow : Option (List Row) → Option (List Row) → Row → Bool → Type 0
TakesRow None new row found = ⊤
TakesRow (Some old) new row found = Takes old new row found
