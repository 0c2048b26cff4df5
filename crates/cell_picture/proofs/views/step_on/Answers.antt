-- There is room for one more entry in the counts, and the snapshot then says what it leaves
use Rattle.std.proofs.Common.{ap, arith, rules, ◌∙◌, ◌≡◌, Some}
use Rattle.std.specs.Prelude.{slice_get}
use Rattle.cell_journal.specs.Snapshots.{state_of}
use Rattle.cell_journal.proofs.JournalLaws.{after_more}
use Rattle.cell_picture.proofs.Stepping.{room_left}
use Rattle.cell_picture.proofs.views.step_on.Goals as goal

pub change-requires : goal.change-requires
change-requires c =
    room_left (state_of c.args.snapshot.now) c.args.book.now.entries c.args.i c.requires.left c.requires.next
    (search rules)

pub returns : goal.returns
returns c =
    let J = c.args.book.now.entries in
    let next : slice_get J c.args.i ≡ Some c.at.result = search rules in
    c.change.ensures ∙ after_more (state_of c.args.snapshot.now) J c.args.i c.at.result c.requires.left next
