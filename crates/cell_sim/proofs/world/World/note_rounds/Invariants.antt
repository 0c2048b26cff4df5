-- The loop over machines
use Rattle.std.proofs.Common.{◌≡◌, drop}
use Rattle.cell_sim.specs.Parts.{in_turn}
use Rattle.cell_sim.specs.Readings.{round_noted}
use Rattle.cell_sim.proofs.world.World.note_rounds.Given as goal

-- what those left do now is what all do from the beginning
abbrev pub invariant-loop-machine : goal.invariant-loop-machine
invariant-loop-machine l =
    in_turn round_noted (drop l.machine-index l.machines) l.self ≡ in_turn round_noted l.machines l.initial.self
