-- What is written is what is said of the operator's script, with its status
use Rattle.cell_explain.proofs.Ends.{ended, script-end, tells}
use Rattle.std.specs.Prelude.{codes}
use Rattle.operator_desk.specs.Lines.{line_of}
use Rattle.cell_explain.specs.Scripts.{SaysScript}
use Rattle.cell_explain.proofs.script.explain_operator.Goals as goal

pub returns-clause-status : goal.returns-clause-status
returns-clause-status g c = ended c.write.result _ _ _ _ _ c.write.ensures.whole
    (script-end _ _ _ (codes "operator") _ c.say_script-said.ensures)

pub returns-clause-told : goal.returns-clause-told
returns-clause-told g c = tells c.write.result _ _ _ _ (SaysScript (codes "operator") line_of c.args.text.now)
    c.write.ensures.whole c.say_script-said.ensures
