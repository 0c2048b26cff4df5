-- The script of one fault is read back as that fault
use Rattle.cell_sim.proofs.Said.{said_back}
use Rattle.cell_sim.proofs.laws.a_fault_is_read_back.Goals as goal

pub returns : goal.returns
returns c = said_back
