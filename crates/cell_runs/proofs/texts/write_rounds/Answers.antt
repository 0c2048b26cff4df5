-- What is written and kept is of the run of the simulated cell from the opening
use Rattle.std.proofs.Common.{◌∙◌, [], ap, refl}
use Rattle.cell_sim.specs.Simulated.{Simulated}
use Rattle.sim_plant.specs.Answers.{sim_cell}
use Rattle.cell_runs.specs.Runs.{opening_of}
use Rattle.cell_runs.proofs.Simulating.{part-simulated, whole-simulated}
use Rattle.cell_runs.proofs.texts.write_rounds.Goals as goal

pub returns-in-Ok-clause-whole : goal.returns-in-Ok-clause-whole
returns-in-Ok-clause-whole g c =
    let inputs = c.args.inputs in
    whole-simulated inputs (opening_of inputs) c.new-cell.result c.simulate.new.cell [] c.in-Ok.outcome.book.entries
    c.in-Ok.outcome.end c.args.journal _ _ _ _ (c.new-cell.ensures
    ∙ ap (λ (w : Simulated). sim_cell w inputs.faults) (c.with_durations-world.ensures
    ∙ ap (λ (w : Simulated). record w { durations = inputs.durations }) c.new.ensures)) c.in-Ok.ensures.simulated
    c.in_ok-status-in-Ok.ensures.whole c.in_ok-status-in-Ok.ensures.run

pub returns-in_err-status-in-Ok-clause-part : goal.returns-in_err-status-in-Ok-clause-part
returns-in_err-status-in-Ok-clause-part g c = λ failed.
    let inputs = c.args.inputs in
    part-simulated inputs (opening_of inputs) c.new-cell.result c.simulate.new.cell [] c.in-Ok.outcome.book.entries
    c.in-Ok.outcome.end c.args.journal _ _ (c.new-cell.ensures
    ∙ ap (λ (w : Simulated). sim_cell w inputs.faults) (c.with_durations-world.ensures
    ∙ ap (λ (w : Simulated). record w { durations = inputs.durations }) c.new.ensures)) c.in-Ok.ensures.simulated
    (c.in_err-status-in-Ok.ensures.part refl)
