-- A reader with what it takes to tell whether a read of it failed
use Rattle.std.specs.Prelude.{Bool, ℕ, List, Option, is_some}
use Rattle.std.specs.declared.io.Error.{Error}
use Rattle.cell_rows.specs.declared.watched.Watched.{Watched}

-- the bytes that are left of the reader underneath, where they are known
abbrev pub bytes_under : {R : Type 0} → (R → Option (List ℕ)) → Watched R → Option (List ℕ)
bytes_under rem w = rem w.source

-- the error of its last read that failed, if one did
abbrev pub error_noted : {R : Type 0} → Watched R → Option Error
error_noted w = w.error

-- a read of it failed
abbrev pub read_failed : {R : Type 0} → Watched R → Bool
read_failed w = is_some w.error
