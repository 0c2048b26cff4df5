-- A run with an empty book starts where runs start, and how it ended tells what was booked
use Rattle.std.proofs.Common.{◌∙◌, ap, rules, sym}
use Rattle.cell_rules.specs.History.{History}
use Rattle.cell_runs.proofs.Acting.{ends_match, ends_started}
use Rattle.cell_runs.proofs.follow.follow_over.Goals as goal

pub returns-clause-followed : goal.returns-clause-followed
returns-clause-followed g c =
    let journal = c.args.journal.now.entries in
    let opened = c.in_ok-book.ensures in
    let booked = c.into_book.result.entries in
    let how = c.follow_entries-followed.result in
    let kept = c.new-kept.ensures.book in
    let ends =
    ends_started g.R.Run.limits c.new-kept.result.0.limits c.args.plan.now c.args.script _
    c.new-kept.result.0.entries journal c.follow_entries-followed.new.cell.kept.entries booked
    c.start-watches.result how
    (ap (λ (h : History). h.entries) kept) (ap (λ (h : History). h.entries) opened)
    (ap (λ (h : History). h.limits) kept ∙ (ap (λ (h : History). h.limits) opened ∙ sym c.requires.limits))
    (ap (λ (h : History). h.entries) c.into_book.ensures) c.start-watches.ensures.fits
    c.follow_entries-followed.ensures.ends in
    record {
      legal = search rules;
      ends = ends;
      matches = ends_match g.R.Run.limits c.args.plan.now c.args.script journal booked how ends;
    }
