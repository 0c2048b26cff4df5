-- Where the run without faults is paused
use Rattle.std.specs.Prelude.{◌≡◌, ◌≤◌, [], false, All, List, None, replicate}
use Rattle.cell_ports.specs.declared.plan.Plan.{Plan}
use Rattle.operator_desk.specs.declared.line.Line.{Line}
use Rattle.cell_plant.specs.declared.keeper.Unkept.{Unkept}
use Rattle.cell_sim.specs.Simulated.{opening_with}
use Rattle.sim_plant.specs.Faultless.{AnswersYet, FaultlessCell, faultless_cell}
use Rattle.cell_rounds.specs.Moves.{terms_of}
use Rattle.cell_rounds.specs.Pauses.{IsPaused, Paused}
use Rattle.cell_rounds.specs.Stands.{start}
use Rattle.cell_runs.specs.Cells.{AllKept}
use Rattle.cell_runs.specs.Runs.{limits_of}
use Rattle.cell_branches.specs.declared.trunk.Stop.{Stop}

-- by what the run without faults goes, and where it was paused
pub record TrunkOf : Type 0 where
  pub plan : Plan
  pub script : List Line
  pub stops : List Stop

-- the run without faults by this plan and script, from the opening, is paused so, with this cell
abbrev pub IsOnWay : Plan → List Line → FaultlessCell → Paused → Type 0
IsOnWay p script c q =
    (q.limits ≡ limits_of p) × (q.rounds ≤ p.turns)
    × ((before : Unkept) × (after : Unkept) × IsPaused AnswersYet AllKept (terms_of (limits_of p) p false)
    (start (faultless_cell (opening_with p.plates) (replicate 9 0)) before [] script None) c after q)

abbrev pub IsStop : Plan → List Line → Stop → Type 0
IsStop p script s = IsOnWay p script s.cell s.pause

-- each of its stops is on its way
abbrev pub IsTrunk : TrunkOf → Type 0
IsTrunk t = All (IsStop t.plan t.script) t.stops
