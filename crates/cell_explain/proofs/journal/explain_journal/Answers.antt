-- What is written is what is said of the journal's text, with its status
use Rattle.cell_explain.proofs.Ends.{journal-end, ended, legal-lines, tells}
use Rattle.cell_explain.specs.Told.{SaysJournal}
use Rattle.cell_explain.proofs.journal.explain_journal.Goals as goal

pub returns-clause-status : goal.returns-clause-status
returns-clause-status g c = ended c.write.result _ _ _ _ _ c.write.ensures.whole
    (journal-end _ _ _ c.say_journal-said.ensures)

pub returns-clause-told : goal.returns-clause-told
returns-clause-told g c = tells c.write.result _ _ _ _ (SaysJournal c.args.text.now) c.write.ensures.whole
    c.say_journal-said.ensures

pub returns-clause-legal : goal.returns-clause-legal
returns-clause-legal g c = legal-lines c.write.result _ _ _ _ _ c.write.ensures.whole c.say_journal-said.ensures

pub returns-clause-part : goal.returns-clause-part
returns-clause-part g c = λ failed. (
  c.say_journal-said.result.status,
  (c.say_journal-said.result.text.items, c.say_journal-said.ensures, c.write.ensures.part failed),
)
