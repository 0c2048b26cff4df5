-- A writer that notes whether a write of it was refused
use Rattle.std.specs.Prelude.{◌≡◌, ◌≢◌, ◌<◌, Bool, ℕ, List, Option, Result, Ok, Err, length, take}
use Rattle.std.specs.Borrow.{MutBor}
use Rattle.std.specs.IoError.{error_kind}
use Rattle.std.specs.Io.KnownBytes.{Appends}
use Rattle.std.specs.declared.io.Error.{Error}
use Rattle.std.specs.declared.io.ErrorKind.TheVariants as kind
use Rattle.cell_output.specs.declared.watched.WatchedWriter.{WatchedWriter}

-- it writes to this writer, which is as it was
abbrev pub Watches : {W : Type 0} → WatchedWriter W → MutBor W → Type 0
Watches w writer = (w.writer.ghost_name ≡ writer.ghost_name) × (w.writer.now ≡ writer.now)

-- it still writes to the same writer
abbrev pub IsSameWriter : {W : Type 0} → WatchedWriter W → WatchedWriter W → Type 0
IsSameWriter old new = new.writer.ghost_name ≡ old.writer.ghost_name

-- the bytes that the writer holds, where it tells them
abbrev pub bytes_held : {W : Type 0} → (W → Option (List ℕ)) → WatchedWriter W → Option (List ℕ)
bytes_held contents w = contents w.writer.now

-- a write was refused
abbrev pub has_refused : {W : Type 0} → WatchedWriter W → Bool
has_refused w = w.refused

-- the error of its last call that failed and wasn't interrupted, if one did
abbrev pub error_noted : {W : Type 0} → WatchedWriter W → Option Error
error_noted w = w.error

-- an answer to a write of some bytes that refuses them: none was taken, or the write failed and wasn't interrupted
abbrev pub Refuses : Result ℕ Error → Type 0
Refuses (Ok count) = count ≡ 0
Refuses (Err e) = error_kind e ≢ kind.Interrupted

-- how many bytes a write took
abbrev pub taken_of : Result ℕ Error → ℕ
taken_of (Ok count) = count
taken_of (Err e) = 0

-- a first part of a text was written, and not all of it
abbrev pub WritesPart : Option (List ℕ) → Option (List ℕ) → List ℕ → Type 0
WritesPart old new text = (n : ℕ) × (n < length text) × Appends old new (take n text)
