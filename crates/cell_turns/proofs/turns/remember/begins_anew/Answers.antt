use Rattle.cell_turns.proofs.turns.remember.begins_anew.Goals as goal

pub returns : goal.returns
returns c = rw c.requires c.is_mended.ensures
