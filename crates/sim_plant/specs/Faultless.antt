-- What a simulated cell without faults answers, as far as one with faults in later motions does the same
use Rattle.std.specs.Prelude.{◌≡◌, ◌≤◌, ℕ, true, List}
use Rattle.cell_types.specs.declared.words.Axis.{Axis}
use Rattle.cell_plant.specs.Asked.{Asked}
use Rattle.cell_sim.specs.declared.fault.PlannedFault.{PlannedFault}
use Rattle.cell_sim.specs.Script.{are_later, latest_of}
use Rattle.cell_sim.specs.Simulated.{Simulated}
use Rattle.sim_plant.specs.Answers.{Answers}

-- its world, and the number of each axis's latest motion in the order of the axes
pub record FaultlessCell : Type 0 where
  pub world : Simulated
  pub latest : List ℕ

abbrev pub faultless_cell : Simulated → List ℕ → FaultlessCell
faultless_cell world latest = record { world = world; latest = latest }

-- no axis's latest motion is an earlier one
abbrev pub IsNoEarlier : FaultlessCell → FaultlessCell → Type 0
IsNoEarlier old new = (a : Axis) → latest_of old.latest a ≤ latest_of new.latest a

-- it answers as a cell does whose faults are in motions behind the latest
abbrev pub AnswersYet : FaultlessCell → FaultlessCell → Asked → Type 0
AnswersYet old new asked =
    IsNoEarlier old new × ((faults : List PlannedFault) → are_later new.latest faults ≡ true
    → Answers faults old.world new.world asked)
