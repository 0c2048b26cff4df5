-- A run in rounds of the simulated cell whose rounds are told apart where the next one begins
use Rattle.std.specs.Prelude.{◌≡◌, ◌⊎◌, true, Bool, List, [], ℕ, Option}
use Rattle.cell_types.specs.declared.words.Entry.{Entry}
use Rattle.cell_rules.specs.declared.limits.BookLimits.{BookLimits}
use Rattle.cell_ports.specs.declared.plan.Plan.{Plan}
use Rattle.cell_plant.specs.Asked.{Asked, Closed, Opened}
use Rattle.cell_sim.specs.Readings.{after_round}
use Rattle.cell_sim.specs.Simulated.{Simulated, watched_opening}
use Rattle.cell_workers.specs.declared.ends.End.{End}
use Rattle.operator_desk.specs.declared.line.Line.{Line}
use Rattle.sim_plant.specs.Answers.{AnswersSo, SimCell, sim_cell}
use Rattle.cell_runs.specs.Cells.{Ran}
use Rattle.cell_runs.specs.Rounds.{IsRunFrom}
use Rattle.cell_runs.specs.Runs.{Kept, PartOfSome, WritesSome, limits_of}
use Rattle.cell_runs.specs.declared.inputs.Inputs.{Inputs}

-- it answers as the simulated cell, but its world ends a round where the next one is opened, if there was one, and not
-- where it is closed
abbrev pub Gauges : SimCell → SimCell → Asked → Type 0
Gauges old new (Opened ok) =
    (ok ≡ true) × ((new ≡ old) ⊎ (new ≡ sim_cell (after_round old.world) old.faults))
Gauges old new (Closed ok) = (ok ≡ true) × (new ≡ old)
Gauges old new asked = AnswersSo old new asked

-- a run in rounds of such a cell leads from a cell and a journal to a cell, a journal and an end
pub record IsGauged (l : BookLimits) (p : Plan) (old : SimCell) (before : List Entry) (script : List Line)
    (new : SimCell) (J : List Entry) (e : End) : Type 0 where
  pub run : IsRunFrom l p before script J e
  pub ran : Ran Gauges l p old before script new J e

-- the watched world in which a measured run begins
abbrev pub watched_of : Inputs → Simulated
watched_of inputs = record (watched_opening inputs.plan.plates) { durations = inputs.durations }

-- such a cell leads from there, by what the texts of a run say, to this journal and this end
abbrev pub LeadsGauged : Inputs → List Entry → End → Type 0
LeadsGauged inputs J e =
    (left : SimCell) × IsGauged (limits_of inputs.plan) inputs.plan (sim_cell (watched_of inputs) inputs.faults) []
    inputs.script left J e

-- what is written of such a run, without its measures, and kept of it
abbrev pub WritesGauged : Bool → Inputs → Option (List ℕ) → Option (List ℕ) → ℕ → Option Kept → Type 0
WritesGauged journal inputs old new status run =
    WritesSome (LeadsGauged inputs) journal inputs.plan old new status run

-- a first part of that was written, and not all of it
abbrev pub PartOfGauged : Bool → Inputs → Option (List ℕ) → Option (List ℕ) → Type 0
PartOfGauged journal inputs old new = PartOfSome (LeadsGauged inputs) journal old new
