use Rattle.std.proofs.Common.{◌≡◌, List, ℕ, ◌++◌, drop}
use Rattle.std.specs.Io.KnownBytes.{Appends}
use Rattle.cell_types.specs.Texts.{all_machine}
use Rattle.cell_drive.specs.Commanded.{after_readings, readings_told}
use Rattle.cell_drive.proofs.by_commands.show_readings.Given as goal

-- the machines so far were read and told, and those left are to be
abbrev pub invariant-loop-machine : goal.invariant-loop-machine
invariant-loop-machine g l = record {
  world : after_readings all_machine l.fn.world ≡ after_readings (drop l.machine-index all_machine) l.world;
  told : (first : List ℕ) × Appends (g.W.Write.contents l.fn.writer) (g.W.Write.contents l.writer) first
      × (readings_told all_machine l.fn.world ≡ first ++ readings_told (drop l.machine-index all_machine) l.world);
}
