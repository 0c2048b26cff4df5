-- The loop over the machines
use Rattle.std.proofs.Common.{◌≡◌, take}
use Rattle.std.specs.Io.KnownBytes.{Appends}
use Rattle.std.specs.List.{flat_map}
use Rattle.cell_types.specs.Texts.{all_machine}
use Rattle.cell_explain.specs.Failures.{failure_of}
use Rattle.cell_explain.proofs.endings.failures.write_failures.Given as goal

-- the machines so far are told
abbrev pub invariant-loop-machine : goal.invariant-loop-machine
invariant-loop-machine g l = record {
  all : l.machine-items ≡ all_machine;
  told : Appends (g.W.Write.contents l.fn.writer) (g.W.Write.contents l.writer)
      (flat_map (failure_of l.book.entries) (take l.machine-index l.machine-items));
}
