-- The rows of a machine's table that hold and are sought, one by one
use Rattle.std.specs.Prelude.{Bool, ◌&&◌, Option, Some, None, List, [], ◌∷◌, if◌then◌else◌}
use Rattle.cell_types.specs.declared.words.Entry.{Entry}
use Rattle.cell_rules.specs.Situations.{Situation}
use Rattle.cell_waits.specs.declared.sought.Sought.{Sought}
use Rattle.cell_waits.specs.Waits.{is_sought}

-- the entry of the first row that holds and is sought
unfoldable pub first_sought : Situation → Sought → List (Bool × Entry) → Option Entry
first_sought c s [] = None
first_sought c s (r ∷ rs) = if r.0 && is_sought c s r.1 then Some r.1 else first_sought c s rs

-- an entry, if it is sought
abbrev pub kept : Situation → Sought → Option Entry → Option Entry
kept c s None = None
kept c s (Some e) = if is_sought c s e then Some e else None
