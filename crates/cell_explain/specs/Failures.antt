-- What is told of the machines that are failed
use Rattle.std.specs.Prelude.{ℕ, List, [], ◌∷◌, ◌++◌, Option, Some, None, codes, decimal, if◌then◌else◌}
use Rattle.std.specs.List.{flat_map}
use Rattle.cell_types.specs.declared.words.Cause.{Cause}
use Rattle.cell_types.specs.declared.words.Entry.{Entry}
use Rattle.cell_types.specs.declared.words.Entry.TheVariants.{Declared}
use Rattle.cell_types.specs.declared.words.Machine.{Machine}
use Rattle.cell_types.specs.Same.{same_machine}
use Rattle.cell_types.specs.Texts.{all_machine}
use Rattle.cell_rules.specs.Last.{when}
use Rattle.cell_rules.specs.Views.{is_failed}
use Rattle.cell_sentences.specs.Names.{cause_name, the_machine}
use Rattle.cell_explain.specs.Numbered.{last_numbered}

-- an entry's number and its cause, where it declares m failed
abbrev pub declares : Machine → ℕ → Entry → Option (ℕ × Cause)
declares m n (Declared k cause) = when (same_machine k m) (n, cause)
declares m n _ = None

-- the last entry that declares m failed: its number, counted from 1, and its cause
abbrev pub declared_last : List Entry → Machine → Option (ℕ × Cause)
declared_last J m = last_numbered (declares m) 1 J

-- the line of a failed machine: since which entry it is failed, and why
abbrev pub failed_line : Machine → Option (ℕ × Cause) → List ℕ
failed_line m None = []
failed_line m (Some (n, cause)) = the_machine m
    ++ (codes " is failed since entry " ++ (decimal n ++ (codes ": " ++ (cause_name cause ++ 10 ∷ []))))

-- what is told of a machine: its line, where it is failed
abbrev pub failure_of : List Entry → Machine → List ℕ
failure_of J m = if is_failed J m then failed_line m (declared_last J m) else []

-- what is told of the machines, in their order
abbrev pub failures_of : List Entry → List ℕ
failures_of J = flat_map (failure_of J) all_machine
