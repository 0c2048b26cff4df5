-- What is told is what was written for the texts that were read
use Rattle.std.proofs.Common.{inl, inr}
use Rattle.cellctl.proofs.sweep.sweep_files.Goals as goal

pub returns-in_default : goal.returns-in_default
returns-in_default g c = rw c.told.ensures (inr c.tell_too_long.ensures)

pub returns : goal.returns
returns g c =
    rw c.told-2.ensures
    (inl (c.as_slice.result.now, c.as_slice-operator.result.now, c.sweep_texts.ensures.whole))
