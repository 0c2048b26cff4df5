-- What is written word after word is some text
use Rattle.cell_show.proofs.Pages.{some_more}
use Rattle.cell_show.proofs.page.words.write_names.Goals as goal

pub loop-place-init : goal.loop-place-init
loop-place-init g c = record { text = _; whole = c.in_ok-write.ensures.bytes }

pub loop-place-preserved : goal.loop-place-preserved
loop-place-preserved g c = some_more _ _ _ _ c.loop-place.invariant c.in_ok-write-2.ensures.bytes

pub returns-clause-some : goal.returns-clause-some
returns-clause-some g c = some_more _ _ _ _ c.loop-place.invariant c.in_ok-writeln.ensures.bytes
