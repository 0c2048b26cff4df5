use Rattle.std.proofs.Common.{rules, tests, ◌≡◌, ◌<◌, ◌∙◌, true, false, ap, refl, subst}
use Rattle.cell_method.specs.Asked.{ask_of, to_book}
use Rattle.cell_method.specs.Lines.{TakesLine, current, lines_left}
use Rattle.cell_method.specs.Order.{Acting, Over, Talking}
use Rattle.cell_method.proofs.Runs.{dry-end, answers-limits, broke-here, broke-line, goes-close, goes-end, goes-line}
use Rattle.cell_method.proofs.Runs.{goes-nothing}
use Rattle.cell_method.proofs.booking.take_lines.Goals as goal
use Rattle.cell_method.proofs.booking.take_lines.Goals.{in-Book, in-Nothing}

pub loop-count-init : goal.loop-count-init
loop-count-init g c = record {
  writer = refl;
  limits = refl;
  goes = λ s fits. goes-nothing g.P.Port.tells g.P.Port.log c.args.book.now.limits s (Talking 0)
      (lines_left g.R.Read.remaining c.args.method.now.lines) c.args.book.now.entries c.args.ports.now
      (g.W.Write.contents c.args.method.now.writer.now) fits;
}

pub returns-in_err-advance-clause-broke : goal.returns-in_err-advance-clause-broke
returns-in_err-advance-clause-broke g c =
    λ _ s fits. broke-here _ _ _ _ _ _ _ _ _ _ _ _ _ (c.loop-count.invariant.goes s fits)

pub returns-then-not-branch-clause-goes : goal.returns-then-not-branch-clause-goes
returns-then-not-branch-clause-goes g c = λ s fits.
    let found : c.in_ok-advance.field-0 ≡ false = search rules in
    let goes = c.loop-count.invariant.goes s fits in
    let takes : TakesLine (lines_left g.R.Read.remaining c.loop-count.method.lines)
    (lines_left g.R.Read.remaining c.advance.new.self) (current c.advance.new.self) false =
    (subst (TakesLine (lines_left g.R.Read.remaining c.loop-count.method.lines)
    (lines_left g.R.Read.remaining c.advance.new.self)
    (current c.advance.new.self)) found c.in_ok-advance.ensures.line) in (
      Talking c.loop-count._count,
      dry-end _ _ _ _ (current c.advance.new.self) goes.leads.read takes,
      goes-end _ _ _ _ _ _ _ _ _ _ _ _ _ _ (current c.advance.new.self) goes takes,
    )

-- such a line asks for nothing, so the run stands where it stood; so does the next one
pub returns-in-Done-clause-goes : goal.returns-in-Done-clause-goes
returns-in-Done-clause-goes g c = λ s fits.
    let found : c.in_ok-advance.field-0 ≡ true = search rules in
    let few : c.loop-count._count < 10000 = search (rules, tests) in (
      Acting,
      refl,
      goes-close _ _ _ _ _ _ _ _ _ _ _ _ _ _ (current c.advance.new.self) _ (c.loop-count.invariant.goes s fits)
          (subst (TakesLine (lines_left g.R.Read.remaining c.loop-count.method.lines)
          (lines_left g.R.Read.remaining c.advance.new.self)
          (current c.advance.new.self)) found c.in_ok-advance.ensures.line)
          few c.in-Done.ensures (λ t. refl),
    )

pub returns-in-Quit-clause-goes : goal.returns-in-Quit-clause-goes
returns-in-Quit-clause-goes g c = λ s fits.
    let found : c.in_ok-advance.field-0 ≡ true = search rules in
    let few : c.loop-count._count < 10000 = search (rules, tests) in (
      Over,
      tt,
      goes-close _ _ _ _ _ _ _ _ _ _ _ _ _ _ (current c.advance.new.self) _ (c.loop-count.invariant.goes s fits)
          (subst (TakesLine (lines_left g.R.Read.remaining c.loop-count.method.lines)
          (lines_left g.R.Read.remaining c.advance.new.self)
          (current c.advance.new.self)) found c.in_ok-advance.ensures.line)
          few c.in-Quit.ensures (λ t. refl),
    )

-- what the line asked for was done, but its answer wasn't written
pub returns-in_err-tell-clause-broke : goal.returns-in_err-tell-clause-broke
returns-in_err-tell-clause-broke g c =
    let found : c.in_ok-advance.field-0 ≡ true = search rules in
    let asks : to_book c.match-ask_of.wanted ≡ ask_of (current c.advance.new.self) =
    elim c.match-ask_of.branch [
      | in-Book w ↦ ap to_book w.wanted-is
          ∙ w.in-Book.ensures
      | in-Nothing w ↦ ap to_book w.wanted-is ∙ w.in-Nothing.ensures
    ] in
    let few : c.loop-count._count < 10000 = search (rules, tests) in
    let (failed, answers) = c.take-reply.ensures.answers in
    λ _ s fits. broke-line _ _ _ _ _ _ _ _ _ _ _ _ _ _ _ (current c.advance.new.self) c.match-ask_of.wanted
    failed c.take-reply.result (c.loop-count.invariant.goes s fits)
    (subst (TakesLine (lines_left g.R.Read.remaining c.loop-count.method.lines)
    (lines_left g.R.Read.remaining c.advance.new.self)
    (current c.advance.new.self)) found c.in_ok-advance.ensures.line)
    few asks (answers-limits _ _ _ _ _ _ _ _ _ _ _ c.loop-count.invariant.limits answers)

pub loop-count-preserved : goal.loop-count-preserved
loop-count-preserved g c =
    let found : c.in_ok-advance.field-0 ≡ true = search rules in
    let asks : to_book c.match-ask_of.wanted ≡ ask_of (current c.advance.new.self) =
    elim c.match-ask_of.branch [
      | in-Book w ↦ ap to_book w.wanted-is
          ∙ w.in-Book.ensures
      | in-Nothing w ↦ ap to_book w.wanted-is ∙ w.in-Nothing.ensures
    ] in
    let few : c.loop-count._count < 10000 = search (rules, tests) in
    let (failed, answers) = c.take-reply.ensures.answers in
    record {
      writer = c.loop-count.invariant.writer;
      limits = c.take-reply.ensures.limits ∙ c.loop-count.invariant.limits;
      goes = λ s fits. goes-line _ _ _ _ _ _ _ _ _ _ _ _ _ _ _ _ (current c.advance.new.self)
          c.match-ask_of.wanted failed c.take-reply.result (c.loop-count.invariant.goes s fits)
          (subst (TakesLine (lines_left g.R.Read.remaining c.loop-count.method.lines)
          (lines_left g.R.Read.remaining c.advance.new.self) (current c.advance.new.self)) found
          c.in_ok-advance.ensures.line)
          few asks (answers-limits _ _ _ _ _ _ _ _ _ _ _ c.loop-count.invariant.limits answers)
          c.in_ok-tell.ensures.told;
    }

-- as many lines came as may
pub returns-clause-goes : goal.returns-clause-goes
returns-clause-goes g c = λ s fits.
    let all : c.loop-count._count ≡ 10000 = search (rules, tests) in
    (Talking c.loop-count._count, ap Talking all, c.loop-count.invariant.goes s fits)
