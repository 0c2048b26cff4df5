-- One more entry is told: there is room for it in all counts, and what is left is what all entries so far leave
use Rattle.std.proofs.Common.{◌≡◌, List, Some, length, subst, ap, ◌∙◌, arith}
use Rattle.std.specs.Prelude.{slice_get}
use Rattle.cell_types.specs.declared.words.Entry.{Entry}
use Rattle.cell_journal.specs.Stored.{Stored}
use Rattle.cell_journal.specs.Snapshots.{state_of}
use Rattle.cell_journal.proofs.JournalLaws.{after_more}
use Rattle.cell_waits.proofs.Telling.{counts_law, counts_more, room_law, taken_few}
use Rattle.cell_waits.proofs.past.Past.step.Goals as goal

pub note_forging-requires : goal.note_forging-requires
note_forging-requires c = λ m. counts_law _ _ m (c.args.self.now.counts m)
    (taken_few c.args.self.now.book.now.entries c.args.self.now.taken c.len.result c.if-self-len.true (omega arith))

pub change-requires : goal.change-requires
change-requires c = room_law _ _ c.args.self.now.leaves
    (taken_few c.args.self.now.book.now.entries c.args.self.now.taken c.len.result c.if-self-len.true (omega arith))

pub invariant_of-self : goal.invariant_of-self
invariant_of-self c =
    let p = c.args.self.now in
    let same = ap (λ (j : Stored). j.entries) c.journal-journal.ensures in
    let at = subst (λ (J : List Entry). slice_get J p.taken ≡ Some c.at-entry.result) same c.at-entry.ensures in
    let count = c.len.ensures.value ∙ ap length same in
    record {
      within = omega (arith, count, c.if-self-len.true);
      leaves = c.change.ensures ∙ after_more (state_of p.left) p.book.now.entries p.taken c.at-entry.result p.leaves at;
      counts = λ m. counts_more p.book.now.entries p.taken c.at-entry.result m _ _ at (p.counts m)
          (c.note_forging.ensures m);
    }
