-- The text with one fault is its script
use Rattle.std.proofs.Common.{◌∙◌}
use Rattle.cell_sweep.proofs.Steps.{text_of-one}
use Rattle.cell_sweep.proofs.sweep.faults_of.Goals as goal

pub fault_alone-requires : goal.fault_alone-requires
fault_alone-requires c =
    c.requires ∙ text_of-one c.args.faults.now _ c.in-len1.len_at_least c.in-len1.len_below
