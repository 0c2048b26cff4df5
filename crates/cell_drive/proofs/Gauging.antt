-- The cell that is measured is always reached, and nobody does or wants anything there
use Rattle.std.proofs.Common.{◌≡◌, ◌∙◌, List, [], ap, subst}
use Rattle.cell_types.specs.declared.words.Entry.{Entry}
use Rattle.cell_workers.specs.declared.ends.End.{End}
use Rattle.cell_sim.specs.Simulated.{Simulated, watched_opening}
use Rattle.sim_plant.specs.Answers.{SimCell, sim_cell}
use Rattle.cell_plant.specs.Asked.{Acted, Asked, Closed, Handed, Opened, Ordered, Refused, Replied, Shown, Wished}
use Rattle.cell_runs.specs.Cells.{IsReached}
use Rattle.cell_runs.proofs.Reached.{reached as simulated-reached}
use Rattle.cell_runs.specs.Runs.{limits_of}
use Rattle.cell_runs.specs.declared.inputs.Inputs.{Inputs}
use Rattle.cell_drive.specs.Gauged.{Gauges, IsGauged, LeadsGauged}

pub reached : IsReached Gauges
reached old new (Opened ok) told = told.0
reached old new (Shown m r) told = simulated-reached old new (Shown m r) told
reached old new (Ordered m c r) told = simulated-reached old new (Ordered m c r) told
reached old new (Handed a r) told = simulated-reached old new (Handed a r) told
reached old new (Acted task) told = simulated-reached old new (Acted task) told
reached old new (Refused task why) told = simulated-reached old new (Refused task why) told
reached old new (Wished wish) told = simulated-reached old new (Wished wish) told
reached old new (Replied reply ok) told = simulated-reached old new (Replied reply ok) told
reached old new (Closed ok) told = told.0

-- a run from a cell that is watched from the opening on is one by what the texts say
pub leads : (inputs : Inputs) (watched world : Simulated) (cell left : SimCell) (J : List Entry) (e : End)
    → watched ≡ watched_opening inputs.plan.plates → world ≡ record watched { durations = inputs.durations }
    → cell ≡ sim_cell world inputs.faults
    → IsGauged (limits_of inputs.plan) inputs.plan cell [] inputs.script left J e → LeadsGauged inputs J e
leads inputs watched world cell left J e watches lasts is run = (
  left,
  subst (λ (old : SimCell). IsGauged (limits_of inputs.plan) inputs.plan old [] inputs.script left J e)
      (is ∙ ap (λ (w : Simulated). sim_cell w inputs.faults)
      (lasts ∙ ap (λ (w : Simulated). record w { durations = inputs.durations }) watches)) run,
)
