-- The loop over the machines of a round
use Rattle.std.proofs.Common.{◌≡◌, drop}
use Rattle.std.specs.Prelude.{None}
use Rattle.cell_types.specs.Texts.{all_machine}
use Rattle.cell_types.specs.declared.words.Machine.{Machine}
use Rattle.cell_turns.specs.Minds.{machine_of_watch}
use Rattle.cell_turns.specs.Six.{at}
use Rattle.cell_rounds.specs.Runs.{Goes}
use Rattle.cell_rounds.specs.Stands.{Turning, state}
use Rattle.cell_rounds.proofs.turning.take_turns.Given as goal

-- the machines so far had their turns, or were looked at
abbrev pub invariant-loop-machine : goal.invariant-loop-machine
invariant-loop-machine g l =
    let was = l.initial.cell in
    record {
      machines : (m : Machine) → machine_of_watch (at l.cell.watches m) ≡ m;
      limits : l.cell.kept.limits ≡ was.kept.limits;
      led : Goes g.C.Plant.told g.K.Keeper.keeps was.kept.limits l.plan None (Turning all_machine)
          (Turning (drop l.machine-index all_machine))
          (state l.initial.plant l.initial.keeper was.kept.entries was.watches was.pending was.script was.lost)
          (state l.plant l.keeper l.cell.kept.entries l.cell.watches l.cell.pending l.cell.script l.cell.lost);
    }
