-- The snapshot's parts are the views of the first entries, and the marks are those of the invariant on forging
use Rattle.std.proofs.Common.{ap, drop, length, take, take-append-drop}
use Rattle.plate_book.specs.Seen.{SeesViews}
use Rattle.plate_book.proofs.Seen.{viewed_when_legal}
use Rattle.cell_picture.specs.declared.facts.Facts.{Facts}
use Rattle.cell_picture.specs.Parts.{IsWhole}
use Rattle.cell_picture.proofs.Showing.{shows_views, marks_forged}
use Rattle.cell_picture.proofs.Telling.{facts_are_told}
use Rattle.cell_picture.proofs.views.facts_left.Goals as goal

pub returns-clause-views : goal.returns-clause-views
returns-clause-views c =
    let first = take c.args.i c.args.book.now.entries in
    let seen : SeesViews c.args.snapshot.now first =
    viewed_when_legal c.args.book.now.limits c.args.book.now.entries c.args.i _ c.is_lawful.ensures.legal
    c.requires.left in
    rw c.facts_of-facts.ensures (shows_views c.args.snapshot.now first seen)

pub returns-clause-forged : goal.returns-clause-forged
returns-clause-forged c =
    let J = c.args.book.now.entries in
    let first = take c.args.i J in
    let seen : SeesViews c.args.snapshot.now first =
    viewed_when_legal c.args.book.now.limits J c.args.i _ c.is_lawful.ensures.legal c.requires.left in
    let kept = c.is_lawful.ensures.kept.states first (drop c.args.i J) (take-append-drop c.args.i J) in
    rw c.facts_of-facts.ensures (marks_forged c.args.snapshot.now first seen kept)

pub returns-clause-told : goal.returns-clause-told
returns-clause-told c =
    let its = c.is_whole.ensures in
    let whole : IsWhole c.facts_of-facts.result =
    record {
      plates = ap (λ (f : Facts). length f.plates) c.facts_of-facts.ensures;
      axes = its.axes;
      holders =
          its.holders;
      failed = its.failed;
      asked = its.asked;
      lamps =
          ap (λ (f : Facts). length f.lamps) c.facts_of-facts.ensures;
    } in
    facts_are_told c.facts_of-facts.result (take c.args.i c.args.book.now.entries) whole (returns-clause-views c)
    (returns-clause-forged c)
