-- The lines of a text, and where the records that csv reads in it stand
use Rattle.std.specs.Prelude.{◌≡◌, ◌⊎◌, ◌==◌, ◌&&◌, ◌||◌, ◌+◌, ◌≤◌, ℕ, Bool, not, true, false, List, [], ◌∷◌}
use Rattle.std.specs.Prelude.{if◌then◌else◌, length, slice_range, take}
use Rattle.csv.specs.Machine.{ends_at_end, is_end, step}
use Rattle.csv.specs.Reading.{default_config, strip_bom}
use Rattle.csv.specs.declared.parser.State.{State}
use Rattle.csv.specs.declared.parser.State.TheVariants as st
use Rattle.cell_rows.specs.Rows.{rows_of}

-- whether a line ends with a byte: with a return, or with a line feed that doesn't come right after one
abbrev pub ends_line : Bool → ℕ → Bool
ends_line after_return byte = byte == 13 || (byte == 10 && not after_return)

-- how many lines end in bytes of which the first may come right after a return
abbrev pub lines_ended : Bool → List ℕ → ℕ
lines_ended after_return [] = 0
lines_ended after_return (byte ∷ rest) =
    (if ends_line after_return byte then 1 else 0) + lines_ended (byte == 13) rest

-- the line, counted from 1, in which the byte comes that stands behind these
abbrev pub line_after : List ℕ → ℕ
line_after before = lines_ended false before + 1

-- csv's state behind bytes that it reads from a state
abbrev pub state_behind : State → List ℕ → State
state_behind s [] = s
state_behind s (byte ∷ rest) = state_behind (step default_config s byte).0 rest

-- how many records end in bytes that csv reads from a state
abbrev pub records_in : State → List ℕ → ℕ
records_in s [] = 0
records_in s (byte ∷ rest) =
    (if is_end (step default_config s byte).1 then 1 else 0) + records_in (step default_config s byte).0 rest

-- how many records end in the first bytes of a text
abbrev pub records_ended : List ℕ → ℕ
records_ended first = records_in st.StartRecord (strip_bom first)

-- whether a record goes on behind the first bytes of a text
abbrev pub is_inside : List ℕ → Bool
is_inside first = ends_at_end (state_behind st.StartRecord (strip_bom first))

-- the record of a number, counted from 0, stands in a text from its first byte up to the one that ends it, or up to the
-- text's end
pub record Stands (text : List ℕ) (number start end : ℕ) : Type 0 where
  pub ordered : start ≤ end
  pub within : end ≤ length text
  pub before : records_ended (take start text) ≡ number
  pub between : is_inside (take start text) ≡ false
  pub begins : is_inside (take (start + 1) text) ≡ true
  pub goes_on : is_inside (take end text) ≡ true
  pub same : records_ended (take end text) ≡ number
  pub ends : (end ≡ length text) ⊎ (records_ended (take (end + 1) text) ≡ number + 1)

-- that record has these bytes, and begins in this line
abbrev pub IsRecord : List ℕ → ℕ → ℕ → List ℕ → Type 0
IsRecord text number line bytes =
    (start : ℕ) × (end : ℕ) × Stands text number start end × (bytes ≡ slice_range text start end)
    × (line ≡ line_after (take start text))

-- where a record is told: where it stands, and in the first line with no bytes where the text has no such record
abbrev pub HasRecord : List ℕ → ℕ → ℕ → List ℕ → Type 0
HasRecord text number line bytes =
    IsRecord text number line bytes ⊎ ((length (rows_of text) ≤ number) × (line ≡ 1) × (bytes ≡ []))

-- where the line of a record is told alone
abbrev pub HasLine : List ℕ → ℕ → ℕ → Type 0
HasLine text number line = (bytes : List ℕ) × HasRecord text number line bytes
