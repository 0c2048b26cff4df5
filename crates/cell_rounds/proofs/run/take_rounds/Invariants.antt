-- The loop over the rounds of a run
use Rattle.std.proofs.Common.{◌≡◌}
use Rattle.std.specs.Prelude.{None, List}
use Rattle.cell_types.specs.declared.words.Entry.{Entry}
use Rattle.cell_types.specs.declared.words.Machine.{Machine}
use Rattle.cell_turns.specs.Minds.{machine_of_watch}
use Rattle.cell_turns.specs.Six.{at}
use Rattle.cell_rounds.specs.Moves.{terms_of}
use Rattle.cell_rounds.specs.Runs.{Runs}
use Rattle.cell_rounds.specs.Stands.{Between, place, state}
use Rattle.cell_rounds.proofs.run.take_rounds.Given as goal

-- so many rounds were closed
abbrev pub invariant-loop-round : goal.invariant-loop-round
invariant-loop-round g l =
    let was = l.initial.cell in
    record {
      own : (m : Machine) → machine_of_watch (at l.cell.watches m) ≡ m;
      limits : l.cell.kept.limits ≡ was.kept.limits;
      led : (J : List Entry) → (K : List Entry) × Runs g.C.Plant.told g.K.Keeper.keeps
          (terms_of was.kept.limits l.leg.terms.plan.now l.leg.terms.waits) None (place l.closed J Between)
          (place l._round K Between)
          (state l.initial.plant l.initial.keeper was.kept.entries was.watches was.pending was.script was.lost)
          (state l.plant l.keeper l.cell.kept.entries l.cell.watches l.cell.pending l.cell.script l.cell.lost);
    }
