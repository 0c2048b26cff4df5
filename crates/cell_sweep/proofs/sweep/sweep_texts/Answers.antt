-- Texts that are good have a sweep, which is whole or breaks off
use Rattle.std.proofs.Common.{◌∙◌}
use Rattle.cell_sweep.proofs.Steps.{blamed, grows-twice, swept-grows, sweeps-or-breaks}
use Rattle.cell_sweep.proofs.sweep.sweep_texts.Goals as goal

pub returns-clause-writer : goal.returns-clause-writer
returns-clause-writer g c = c.end_sweep.ensures.writer ∙ c.write_sweep-swept.ensures.writer

pub returns-clause-whole : goal.returns-clause-whole
returns-clause-whole g c =
    sweeps-or-breaks c.write_sweep-swept.result c.end_sweep.result _ _ _ _ _ _ _ c.in-Ok.inputs
    c.in-Ok.ensures.inputs c.write_sweep-swept.ensures.told c.write_sweep-swept.ensures.part
    c.write_sweep-swept.ensures.stops c.end_sweep.ensures.status

pub returns-clause-part : goal.returns-clause-part
returns-clause-part g c = λ failed. grows-twice _ _ _
    (swept-grows c.write_sweep-swept.result _ _ _ _ _ c.write_sweep-swept.ensures.told c.write_sweep-swept.ensures.part)
    (c.end_sweep.ensures.part failed)

pub returns-clause-fault : goal.returns-clause-fault
returns-clause-fault g c =
    c.end_sweep.ensures.fault
    (blamed c.write_sweep-swept.result c.args.settings.now c.args.operator.now c.args.sweep.choice c.args.sweep.service
    _ c.write_sweep-swept.ensures.stops)
