-- A step says what one entry more leaves
use Rattle.std.proofs.Common.{◌∙◌}
use Rattle.cell_journal.specs.Snapshots.{state_of}
use Rattle.cell_journal.proofs.JournalLaws.{after_more}
use Rattle.cell_explain.proofs.facts.left_after.Goals as goal

pub returns-then-has_room : goal.returns-then-has_room
returns-then-has_room c = c.change.ensures
    ∙ after_more (state_of c.args.left) c.args.journal.now.entries c.args.place c.at.result c.requires.left c.at.ensures
