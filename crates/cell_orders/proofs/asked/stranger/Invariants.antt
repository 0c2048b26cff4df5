-- The loop that searches for a word that names no machine
use Rattle.std.proofs.Common.{take}
use Rattle.cell_orders.specs.Asked.{AreMachines}
use Rattle.cell_orders.proofs.asked.stranger.Given as goal

-- the words so far name machines
abbrev pub invariant-loop-word : goal.invariant-loop-word
invariant-loop-word l = AreMachines (take l.word-index l.words)
