-- The loop that searches the journal for the last declaration
use Rattle.std.proofs.Common.{◌≡◌, ◌+◌, drop}
use Rattle.std.specs.Option.{option_or}
use Rattle.cell_explain.specs.Numbered.{last_numbered}
use Rattle.cell_explain.specs.Failures.{declared_last, declares}
use Rattle.cell_explain.proofs.endings.failures.declared_last.Given as goal

-- what the entries that are left declare goes before what was found, as the last of all counts
abbrev pub invariant-loop-place : goal.invariant-loop-place
invariant-loop-place l = option_or (last_numbered (declares l.machine) (l.place + 1) (drop l.place l.journal.entries))
    l.found ≡ declared_last l.journal.entries l.machine
