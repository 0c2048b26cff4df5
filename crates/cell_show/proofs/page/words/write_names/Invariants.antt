-- The loop over the words of a list
use Rattle.cell_show.specs.Page.{AppendsSome}
use Rattle.cell_show.proofs.page.words.write_names.Given as goal

-- some text is written
abbrev pub invariant-loop-place : goal.invariant-loop-place
invariant-loop-place g l = AppendsSome (g.W.Write.contents l.fn.writer) (g.W.Write.contents l.writer)
