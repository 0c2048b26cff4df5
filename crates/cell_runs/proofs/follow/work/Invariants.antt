-- The loop over the turns of a machine
use Rattle.std.proofs.Common.{◌≡◌}
use Rattle.cell_types.specs.declared.words.Machine.{Machine}
use Rattle.cell_turns.specs.declared.six.Six.{Six}
use Rattle.cell_turns.specs.Minds.{Mind, machine_of_watch}
use Rattle.cell_turns.specs.Six.{at}
use Rattle.cell_turns.specs.Schedules.{FitAll, now}
use Rattle.cell_runs.specs.Followed.{ReachesNow, Waits}
use Rattle.cell_runs.proofs.follow.work.Given as goal

-- all turns so far waited, and left the book's limits and the operator's script and hands alone
abbrev pub invariant-loop-turn : goal.invariant-loop-turn
invariant-loop-turn g l =
    let was = l.initial.cell in
    record {
      machines : (m : Machine) → machine_of_watch (at l.cell.watches m) ≡ m;
      limits : l.cell.kept.limits ≡ was.kept.limits;
      same : (l.cell.script ≡ was.script) × (l.cell.lost ≡ was.lost);
      waits : (minds : Six Mind) → FitAll was.watches minds
          → ReachesNow (Waits was.kept.limits l.plan l.machine (now was.kept.entries minds) l._turn) l.cell.kept.entries
          l.cell.watches;
    }
