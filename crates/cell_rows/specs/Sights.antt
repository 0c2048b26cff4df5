-- A reader whose next bytes are in sight
use Rattle.std.specs.Prelude.{◌≡◌, ◌⊎◌, ℕ, ◌≤◌, ◌<◌, ◌+◌, List, [], ◌∷◌, Option, Some, None, option_map, slice_range, ⊤}
use Rattle.std.specs.Io.KnownBytes.{prepend_known}
use Rattle.cell_rows.specs.Texts.{Row, rows_of}
use Rattle.cell_rows.specs.Plain.{row_at}
use Rattle.cell_rows.specs.declared.ahead.ReadAhead.{ReadAhead}

-- the bytes in sight are part of the buffer
abbrev pub InSight : {R : Type 0} → ReadAhead R → Type 0
InSight l = (l.at ≤ l.filled) × (l.filled ≤ 16384)

-- the bytes that are left: those in sight, and then those of the reader, where they are known
abbrev pub bytes_left : {R : Type 0} → (R → Option (List ℕ)) → ReadAhead R → Option (List ℕ)
bytes_left rem l = prepend_known (slice_range l.buffer l.at l.filled) (rem l.source)

-- the record that was taken last
abbrev pub plain_row : {R : Type 0} → ReadAhead R → Row
plain_row l = row_at l.buffer l.places

-- the records that are left, where the bytes are known
abbrev pub rows_ahead : {R : Type 0} → (R → Option (List ℕ)) → ReadAhead R → Option (List Row)
rows_ahead rem l = option_map rows_of (bytes_left rem l)

-- the same records, where they are known
abbrev pub KeepsRows : Option (List Row) → Option (List Row) → Type 0
KeepsRows None new = ⊤
KeepsRows (Some xs) None = ⊥
KeepsRows (Some xs) (Some ys) = ys ≡ xs

-- two line feeds come next
abbrev pub FeedsTwice : List ℕ → ℕ → ℕ → Type 0
FeedsTwice text at to = (at + 1 < to) × (slice_range text at to ≡ 10 ∷ slice_range text (at + 1) to)
    × (slice_range text (at + 1) to ≡ 10 ∷ slice_range text (at + 2) to)

-- nothing, or the line feed of the line before
abbrev pub HasNoLine : List ℕ → Type 0
HasNoLine xs = (xs ≡ []) ⊎ (xs ≡ 10 ∷ [])
