-- What is written is what is said of the settings, with its status
use Rattle.cell_explain.proofs.Ends.{settings-end, ended, tells}
use Rattle.cell_explain.specs.Settings.{SaysSettings}
use Rattle.cell_explain.proofs.settings.explain_settings.Goals as goal

pub returns-clause-status : goal.returns-clause-status
returns-clause-status g c = ended c.write.result _ _ _ _ _ c.write.ensures.whole
    (settings-end _ _ _ c.say_settings-said.ensures)

pub returns-clause-told : goal.returns-clause-told
returns-clause-told g c = tells c.write.result _ _ _ _ (SaysSettings c.args.text.now) c.write.ensures.whole
    c.say_settings-said.ensures
