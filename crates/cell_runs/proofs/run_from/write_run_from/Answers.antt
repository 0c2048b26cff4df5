-- What is written and kept is of the run of the simulated cell from where the book's journal left it
use Rattle.std.proofs.Common.{◌∙◌, ap, refl}
use Rattle.cell_sim.specs.Simulated.{Simulated}
use Rattle.sim_plant.specs.Answers.{sim_cell}
use Rattle.cell_runs.specs.Runs.{world_after}
use Rattle.cell_runs.proofs.Simulating.{part-simulated, whole-simulated}
use Rattle.cell_runs.proofs.run_from.write_run_from.Goals as goal

pub returns-clause-whole : goal.returns-clause-whole
returns-clause-whole g c =
    let inputs = c.args.inputs in
    whole-simulated inputs (world_after inputs c.args.book.entries) c.new-cell.result c.simulate_from-outcome.new.cell
    c.args.book.entries c.simulate_from-outcome.result.book.entries c.simulate_from-outcome.result.end c.args.journal
    _ _ _ _ (c.new-cell.ensures ∙ ap (λ (w : Simulated). sim_cell w inputs.faults) c.from_book-world.ensures)
    c.simulate_from-outcome.ensures.simulated c.in_ok-status.ensures.whole c.in_ok-status.ensures.run

pub returns-in_err-status-clause-part : goal.returns-in_err-status-clause-part
returns-in_err-status-clause-part g c = λ failed.
    let inputs = c.args.inputs in
    part-simulated inputs (world_after inputs c.args.book.entries) c.new-cell.result c.simulate_from-outcome.new.cell
    c.args.book.entries c.simulate_from-outcome.result.book.entries c.simulate_from-outcome.result.end c.args.journal
    _ _ (c.new-cell.ensures ∙ ap (λ (w : Simulated). sim_cell w inputs.faults) c.from_book-world.ensures)
    c.simulate_from-outcome.ensures.simulated (c.in_err-status.ensures.part refl)
