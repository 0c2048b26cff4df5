-- The machine's own watch is noted in, and no other
use Rattle.std.proofs.Common.{rules, ◌≡◌, ap, inl, inr, refl, subst, sym}
use Rattle.cell_rules.specs.History.{History}
use Rattle.cell_turns.specs.Minds.{FitsMind}
use Rattle.cell_turns.specs.Six.{at}
use Rattle.cell_turns.specs.Turns.{mind_after}
use Rattle.cell_turns.specs.declared.turns.TurnError.TheVariants.{Refused}
use Rattle.cell_turns.specs.declared.watch.Watch.{Watch}
use Rattle.cell_rounds.proofs.Moving.{fits_put, machines_put}
use Rattle.cell_rounds.proofs.Turns.{away_by}
use Rattle.cell_rounds.proofs.turning.turn.Goals as goal

pub returns-in-Ok-clause-machines : goal.returns-in-Ok-clause-machines
returns-in-Ok-clause-machines g c =
    machines_put c.args.cell.now.watches c.args.machine c.book_turn-booked.new.watch c.requires
    c.book_turn-booked.ensures.machine

pub returns-in-Ok-clause-turned : goal.returns-in-Ok-clause-turned
returns-in-Ok-clause-turned g c = λ minds fits.
    let cell = c.args.cell.now in
    let m = c.args.machine in
    let s = at minds m in
    let fit = subst (λ (w : Watch). FitsMind w s) (sym c.pick.ensures.value) (fits.each m) in (
      c.in-Ok.ensures.booked.decided s fit,
      c.in-Ok.ensures.booked.allowed,
      ap (λ (h : History). h.entries) c.in-Ok.ensures.booked.journal,
      fits_put cell.watches minds m c.book_turn-booked.new.watch
          (mind_after cell.kept.entries m c.args.plan.now s c.args.reading c.in-Ok.booked) fits
          (c.in-Ok.ensures.booked.fits s fit),
    )

pub returns-in-Err-OutOfMemory-clause-machines : goal.returns-in-Err-OutOfMemory-clause-machines
returns-in-Err-OutOfMemory-clause-machines g c =
    machines_put c.args.cell.now.watches c.args.machine c.book_turn-booked.new.watch c.requires
    c.book_turn-booked.ensures.machine

pub returns-in-Err-Refused-clause-machines : goal.returns-in-Err-Refused-clause-machines
returns-in-Err-Refused-clause-machines g c =
    machines_put c.args.cell.now.watches c.args.machine c.book_turn-booked.new.watch c.requires
    c.book_turn-booked.ensures.machine

pub returns-in-Err-OutOfMemory-clause-halts : goal.returns-in-Err-OutOfMemory-clause-halts
returns-in-Err-OutOfMemory-clause-halts g c = inl refl

pub returns-in-Err-Refused-clause-halts : goal.returns-in-Err-Refused-clause-halts
returns-in-Err-Refused-clause-halts g c =
    let cell = c.args.cell.now in
    let m = c.args.machine in
    let why : c.in-Err-Refused.field-0 ≡ Refused c.in-Err-Refused.field-0-0 = search rules in
    inr (
      refl,
      λ minds fits. (
        c.in-Err-Refused.field-0-0,
        away_by cell.kept.limits cell.kept.entries m c.args.plan.now c.args.reading c.pick.result.now
            c.book_turn-booked.result c.in-Err-Refused.field-0 c.in-Err-Refused.field-0-0
            c.book_turn-booked.ensures.excused c.in-Err-Refused.is why (at minds m)
            (subst (λ (w : Watch). FitsMind w (at minds m)) (sym c.pick.ensures.value) (fits.each m)),
      ),
    )
