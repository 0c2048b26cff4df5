use Rattle.std.proofs.Common.{ap, ◌∙◌, rules, sym}
use Rattle.cell_rules.specs.History.{History}
use Rattle.cell_turns.proofs.Minds.{ruling_is, decided, fits_turned}
use Rattle.cell_turns.proofs.Declared.{fault_booked}
use Rattle.cell_turns.proofs.OwnTurns.{own_turn, own_actor}
use Rattle.cell_turns.proofs.Excused.{excused, past_last}
use Rattle.cell_turns.proofs.turns.note_and_book.Goals as goal

pub returns-clause-booked : goal.returns-clause-booked
returns-clause-booked g c =
    let observed = c.notice-findings in
    let before = c.args.watch.now in
    let book = c.book-book.result.now in
    let turn = c.args.turn.now in
    let k = c.decide-ruling.result in
    let e = c.in-Ok.entry in
    let after = ap (λ (h : History). h.entries) (c.book.ensures ∙ c.in_default.ensures.kept) in
    rw (sym c.book-book.ensures, sym c.requires.watch)
    (record {
      decided = λ s fit. decided book.limits before book.entries turn.plan.now s turn.reading k e observed.result
          observed.ensures.motion observed.ensures.sign c.decide-ruling.ensures fit observed.ensures.at_axis
          observed.ensures.at_rest c.in-Ok.ensures.ok;
      actor = own_actor book.limits book.entries before.machine e
          (own_turn book.limits before book.entries turn.plan.now turn.reading k e observed.result
          c.useful_is_own.ensures c.useful_is_bookable.ensures (rw c.book-book.ensures c.is_lawful.ensures.told)
          observed.ensures.motion observed.ensures.sign c.decide-ruling.ensures c.in-Ok.ensures.ok);
      allowed = rw c.book-book.ensures c.in_default.ensures.allowed;
      journal = rw c.book-book.ensures c.in_default.ensures.kept;
      list = search rules;
      shares = c.in_default.ensures.shares;
      fits = λ s fit. fits_turned before book.entries c.book.result.now.entries turn.plan.now s turn.reading e
          c.keep.new.watch observed.new.watch.axis observed.new.watch.rest c.begins_anew-anew.result
          observed.result.sign c.begins_anew-anew.ensures observed.ensures.sign (rw c.book-book.ensures after) fit
          observed.ensures.axis observed.ensures.rest c.keep.ensures.axis c.keep.ensures.rest
          (c.keep.ensures.memory ∙ c.memory_after-memory.ensures);
      fault = fault_booked book.limits book.entries before.machine turn.plan.now before turn.reading e
          (λ s fit. decided book.limits before book.entries turn.plan.now s turn.reading k e observed.result
          observed.ensures.motion observed.ensures.sign c.decide-ruling.ensures fit observed.ensures.at_axis
          observed.ensures.at_rest c.in-Ok.ensures.ok);
      flag = search rules;
    })

pub returns-in-Err-clause-excused : goal.returns-in-Err-clause-excused
returns-in-Err-clause-excused g c =
    let observed = c.notice-findings in
    rw (sym c.book-book.ensures, sym c.requires.watch)
    (past_last c.book-book.result.now.limits c.book-book.result.now.entries c.args.watch.now.machine
    c.args.turn.now.plan.now
    c.args.turn.now.reading c.args.watch.now c.decide-ruling.result c.in-Err.refusal
    (λ s fit. ruling_is c.args.watch.now c.book-book.result.now.entries c.args.turn.now.plan.now s
    c.args.turn.now.reading
    c.decide-ruling.result observed.result
    observed.ensures.motion observed.ensures.sign c.decide-ruling.ensures fit observed.ensures.at_axis
    observed.ensures.at_rest)
    c.in-Err.ensures.err)

pub returns-in-Err-book_entry-clause-excused : goal.returns-in-Err-book_entry-clause-excused
returns-in-Err-book_entry-clause-excused g c =
    let observed = c.notice-findings in
    rw (sym c.book-book.ensures, sym c.requires.watch)
    (excused c.book-book.result.now.limits c.book-book.result.now.entries c.args.watch.now.machine
    c.args.turn.now.plan.now
    c.args.turn.now.reading c.args.watch.now c.in-Ok.entry c.in-Err-book_entry.refusal
    (λ s fit. decided c.book-book.result.now.limits c.args.watch.now c.book-book.result.now.entries
    c.args.turn.now.plan.now s
    c.args.turn.now.reading c.decide-ruling.result c.in-Ok.entry observed.result
    observed.ensures.motion observed.ensures.sign c.decide-ruling.ensures fit observed.ensures.at_axis
    observed.ensures.at_rest c.in-Ok.ensures.ok)
    (own_turn c.book-book.result.now.limits c.args.watch.now c.book-book.result.now.entries c.args.turn.now.plan.now
    c.args.turn.now.reading c.decide-ruling.result c.in-Ok.entry observed.result
    c.useful_is_own.ensures c.useful_is_bookable.ensures (rw c.book-book.ensures c.is_lawful.ensures.told)
    observed.ensures.motion observed.ensures.sign c.decide-ruling.ensures c.in-Ok.ensures.ok)
    (rw c.book-book.ensures c.in-Err-book_entry.ensures.refused))
