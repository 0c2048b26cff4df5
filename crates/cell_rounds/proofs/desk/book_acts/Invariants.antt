-- The loop over what was done at the cell
use Rattle.std.proofs.Common.{◌≡◌}
use Rattle.std.specs.Prelude.{None}
use Rattle.cell_types.specs.declared.words.Machine.{Machine}
use Rattle.cell_ports.specs.declared.plan.Plan.{Plan}
use Rattle.cell_turns.specs.Minds.{machine_of_watch}
use Rattle.cell_turns.specs.Six.{at}
use Rattle.cell_rounds.specs.Runs.{Goes}
use Rattle.cell_rounds.specs.Stands.{Noting, state}
use Rattle.cell_rounds.proofs.desk.book_acts.Given as goal

-- so much was heard, and booked or not
abbrev pub invariant-loop-count : goal.invariant-loop-count
invariant-loop-count g l =
    let was = l.initial.cell in
    record {
      machines : (m : Machine) → machine_of_watch (at l.cell.watches m) ≡ m;
      limits : l.cell.kept.limits ≡ was.kept.limits;
      led : (p : Plan) → Goes g.C.Plant.told g.K.Keeper.keeps was.kept.limits p None (Noting 0) (Noting l._count)
          (state l.initial.plant l.initial.keeper was.kept.entries was.watches was.pending was.script was.lost)
          (state l.plant l.keeper l.cell.kept.entries l.cell.watches l.cell.pending l.cell.script l.cell.lost);
    }
