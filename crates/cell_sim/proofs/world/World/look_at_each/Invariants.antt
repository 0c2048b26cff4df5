-- The loop over situations
use Rattle.std.proofs.Common.{◌≡◌, drop}
use Rattle.cell_sim.specs.Looks.{situation_looked}
use Rattle.cell_sim.specs.Parts.{in_turn}
use Rattle.cell_sim.proofs.world.World.look_at_each.Given as goal

-- what those left do now is what all do from the beginning
abbrev pub invariant-loop-situation : goal.invariant-loop-situation
invariant-loop-situation l =
    in_turn (situation_looked l.fn.command) (drop l.situation-index l.situations) l.self
    ≡ in_turn (situation_looked l.fn.command) l.situations l.initial.self
