-- The loop that searches for a machine that moves
use Rattle.std.proofs.Common.{◌≡◌, drop}
use Rattle.std.specs.List.{list_any}
use Rattle.cell_sim.specs.Parts.{is_machine_moving}
use Rattle.cell_drive.proofs.by_commands.is_any_moving.Given as goal

-- none of those so far moves, so if one does it is one of those left
abbrev pub invariant-loop-machine : goal.invariant-loop-machine
invariant-loop-machine l =
    list_any (is_machine_moving l.world) (drop l.machine-index l.machines)
    ≡ list_any (is_machine_moving l.world) l.machines
