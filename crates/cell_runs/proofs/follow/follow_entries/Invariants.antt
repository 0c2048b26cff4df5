-- The loop over the entries of the journal that is followed
use Rattle.std.proofs.Common.{◌≡◌, take}
use Rattle.cell_types.specs.declared.words.Machine.{Machine}
use Rattle.cell_turns.specs.declared.six.Six.{Six}
use Rattle.cell_turns.specs.Minds.{Mind, machine_of_watch}
use Rattle.cell_turns.specs.Six.{at}
use Rattle.cell_turns.specs.Schedules.{FitAll, now}
use Rattle.cell_runs.specs.Rounds.{Reaches, place}
use Rattle.cell_runs.specs.Followed.{Follows}
use Rattle.cell_runs.proofs.follow.follow_entries.Given as goal

-- the first entries are followed, whatever the watches fitted at the start, and the book has kept its limits
abbrev pub invariant-loop-i : goal.invariant-loop-i
invariant-loop-i g l =
    let was = l.initial.cell in
    record {
      machines : (m : Machine) → machine_of_watch (at l.cell.watches m) ≡ m;
      limits : l.cell.kept.limits ≡ was.kept.limits;
      follows : (minds : Six Mind) → FitAll was.watches minds
          → Reaches (Follows was.kept.limits l.plan (place (now was.kept.entries minds) was.script was.lost)
          (take l.i l.journal.entries)) l.cell.kept.entries l.cell.watches l.cell.script l.cell.lost;
    }
