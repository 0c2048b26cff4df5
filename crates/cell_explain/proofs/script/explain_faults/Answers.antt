-- What is written is what is said of the script of faults, with its status
use Rattle.cell_explain.proofs.Ends.{ended, script-end, tells}
use Rattle.std.specs.Prelude.{codes}
use Rattle.cell_sim.specs.Script.{next_fault}
use Rattle.cell_explain.specs.Scripts.{SaysScript}
use Rattle.cell_explain.proofs.script.explain_faults.Goals as goal

pub returns-clause-status : goal.returns-clause-status
returns-clause-status g c = ended c.write.result _ _ _ _ _ c.write.ensures.whole
    (script-end _ _ _ (codes "faults") _ c.say_script-said.ensures)

pub returns-clause-told : goal.returns-clause-told
returns-clause-told g c = tells c.write.result _ _ _ _ (SaysScript (codes "faults") next_fault c.args.text.now)
    c.write.ensures.whole c.say_script-said.ensures
