-- Scripts: texts each of whose records is a line, and what the answer of their reader says
use Rattle.std.specs.Prelude.{◌≡◌, ◌≤◌, ◌+◌, ℕ, List, [], ◌∷◌, ◌++◌, length, nat_lt, Option, Some, None, IsSome, Result}
use Rattle.std.specs.Prelude.{Ok, Err, ⊤, if◌then◌else◌}
use Rattle.cell_rows.specs.Texts.{Row}
use Rattle.cell_rows.specs.Fitting.{Fits}
use Rattle.cell_rows.specs.declared.script.LineError.{LineError}
use Rattle.cell_rows.specs.declared.script.LineError.TheVariants as error

-- a reading of lines: the line that four fields write after these lines, if they write one
abbrev pub Reading : Type 0 → Type 0
Reading L = List L → List ℕ → List ℕ → List ℕ → List ℕ → Option L

-- the line of a record after these lines; a record of other than four fields is none
abbrev pub line_of_row : {L : Type 0} → Reading L → List L → Row → Option L
line_of_row read before (first ∷ second ∷ third ∷ fourth ∷ []) = read before first second third fourth
line_of_row read before _ = None

-- the fields that write a line are short
abbrev pub FitLines : {L : Type 0} → Reading L → Type 0
FitLines {L} read = (before : List L) (first second third fourth : List ℕ)
    → IsSome (read before first second third fourth) → Fits (first ∷ second ∷ third ∷ fourth ∷ [])

-- the most lines that a script may have
abbrev pub max_lines : ℕ
max_lines = 1000

-- the answer at a record: that it is no line, or what follows of its line
abbrev pub with_line : {L : Type 0} → ℕ → Option L → (L → Result (List L) LineError) → Result (List L) LineError
with_line place None more = Err (error.Unreadable place)
with_line place (Some line) more = more line

-- these lines and those of the records after them: no more than a script may have, and each record a line
unfoldable pub lines_after : {L : Type 0} → Reading L → List L → List Row → Result (List L) LineError
lines_after read lines [] = Ok lines
lines_after read lines (row ∷ rest) =
    if nat_lt (length lines) max_lines then with_line (length lines + 1) (line_of_row read lines row)
    (λ line. lines_after read (lines ++ line ∷ []) rest)
    else Err error.TooManyLines

-- the lines of a text's records, or the first fault
abbrev pub lines_of : {L : Type 0} → Reading L → List Row → Result (List L) LineError
lines_of read rows = lines_after read [] rows

-- the status by which a program tells a script's error
abbrev pub script_status : LineError → ℕ
script_status (error.Unreadable i) = 1
script_status error.TooManyLines = 1
script_status error.OutOfMemory = 4

-- the answer is the one that is due, unless memory was refused
abbrev pub Gives : {X : Type 0} → Result X LineError → Result X LineError → Type 0
Gives (Ok x) due = due ≡ Ok x
Gives (Err (error.Unreadable place)) due = due ≡ Err (error.Unreadable place)
Gives (Err error.TooManyLines) due = due ≡ Err error.TooManyLines
Gives (Err error.OutOfMemory) due = ⊤

-- each of these records, read after the lines that come before it, is the next of these lines
abbrev pub AreLines : {L : Type 0} → Reading L → List L → List Row → List L → Type 0
AreLines read before [] [] = ⊤
AreLines read before (row ∷ rows) (line ∷ lines) = (line_of_row read before row ≡ Some line)
    × AreLines read (before ++ line ∷ []) rows lines
AreLines read before _ _ = ⊥

-- the record at a place, counted from 1 and at most 1,000, is no line, and those before it are lines
abbrev pub StopsUnread : {L : Type 0} → Reading L → List Row → ℕ → Type 0
StopsUnread {L} read rows place = (before : List Row) × (row : Row) × (rest : List Row) × (lines : List L)
    × (rows ≡ before ++ row ∷ rest) × AreLines read [] before lines × (line_of_row read lines row ≡ None)
    × (length lines + 1 ≡ place) × (place ≤ max_lines)

-- 1,000 records are lines, and one more follows
abbrev pub HasMore : {L : Type 0} → Reading L → List Row → Type 0
HasMore {L} read rows = (before : List Row) × (row : Row) × (rest : List Row) × (lines : List L)
    × (rows ≡ before ++ row ∷ rest) × AreLines read [] before lines × (length lines ≡ max_lines)

-- what an answer says of the records; want of memory says nothing
abbrev pub Means : {L : Type 0} → Reading L → List Row → Result (List L) LineError → Type 0
Means read rows (Ok lines) = AreLines read [] rows lines × (length lines ≤ max_lines)
Means read rows (Err (error.Unreadable place)) = StopsUnread read rows place
Means read rows (Err error.TooManyLines) = HasMore read rows
Means read rows (Err error.OutOfMemory) = ⊤
