-- A byte more is passed, which begins the record, ends it, or does neither
use Rattle.std.proofs.Common.{◌≡◌, ◌∙◌, ◌+◌, ◌==◌, ◌&&◌, Option, ap, arith, false, rules, subst, sym, true, ℕ}
use Rattle.std.specs.Prelude.{not}
use Rattle.cell_explain.specs.Spots.{is_open}
use Rattle.cell_explain.proofs.Behind.{Begun, Passes, begins-here, begins-later, ends-here, ends-text, goes-on}
use Rattle.cell_explain.proofs.Behind.{none-begun, walks-more}
use Rattle.cell_explain.proofs.Lines.{few-more, lines_step, return_more}
use Rattle.cell_explain.proofs.places.find_record.Goals as goal
use Rattle.cell_explain.proofs.places.find_record.Goals.{in-None, in-None+else-begins, in-Some+else-not-is_open}

pub loop-at-preserved : goal.loop-at-preserved
loop-at-preserved c =
    let i = c.loop-at.invariant in
    let text = c.args.text.now in
    let at = c.loop-at.at in
    let p = c.loop-at.walk.spot in
    let p2 = c.pass_from.new.self.spot in
    let n = c.loop-at.walk.records in
    let n2 = c.pass_from.new.self.records in
    let number = c.args.number in
    let passed : Passes text at p p2 n n2 = record {
      inside = c.loop-at-test.true;
      walks = i.walks;
      before = λ h. c.pass_from.ensures.before (omega (arith, h, i.first));
      behind = λ h. c.pass_from.ensures.behind (omega (arith, h, i.first));
    } in
    record {
      first = i.first;
      few_lines = few-more text _ _ _ _ i.few_lines c.pass_from.ensures.ended;
      few = search rules;
      ended = lines_step text at _ _ _ c.loop-at-test.true i.ended i.after_return c.pass_from.ensures.ended;
      after_return = c.pass_from.ensures.after_return ∙ sym (return_more text at c.loop-at-test.true);
      walks = walks-more text at p p2 n n2 passed;
      begun = elim c.match-begun.branch [
        | in-None w ↦
            let begins : (not (is_open p) && is_open p2 && (n2 == number)) ≡ true =
            rw (sym c.is_open-was_open.ensures) (sym w.begins.ensures ∙ w.if-begins.true) in
            rw w.begun-is (begins-here text number at _ p p2 n n2 passed begins (ap (λ k. k + 1) i.ended))
        | in-None+else-begins w ↦
            let later : (not (is_open p) && is_open p2 && (n2 == number)) ≡ false =
            rw (sym c.is_open-was_open.ensures) (sym w.begins.ensures ∙ w.if-begins.false) in
            rw (w.begun-is, w.in-None.is) (begins-later text number at p p2 n n2 passed
            (subst (λ (b : Option (ℕ × ℕ)). Begun text number at p n b) w.in-None.is i.begun) later)
        | in-Some+else-not-is_open w ↦
            rw (w.begun-is, w.in-Some.is) (goes-on text number at p p2 n n2 (w.in-Some.line, w.in-Some.start) passed
            (subst (λ (b : Option (ℕ × ℕ)). Begun text number at p n b) w.in-Some.is i.begun)
            (sym w.is_open.ensures ∙ w.if-not-is_open.false))
      ];
    }

pub returns-in-Some-clause-some : goal.returns-in-Some-clause-some
returns-in-Some-clause-some c =
    let i = c.loop-at.invariant in
    let text = c.args.text.now in
    let at = c.loop-at.at in
    let p = c.loop-at.walk.spot in
    let n = c.loop-at.walk.records in
    let passed : Passes text at p c.pass_from.new.self.spot n c.pass_from.new.self.records = record {
      inside = c.loop-at-test.true;
      walks = i.walks;
      before = λ h. c.pass_from.ensures.before (omega (arith, h, i.first));
      behind = λ h. c.pass_from.ensures.behind (omega (arith, h, i.first));
    } in
    let begun = subst (λ (b : Option (ℕ × ℕ)). Begun text c.args.number at p n b) c.in-Some.is i.begun in (
      ends-here text c.args.number at p _ n _ (c.in-Some.line, c.in-Some.start) passed begun
          (sym c.is_open.ensures ∙ c.if-not-is_open.true),
      begun.1,
    )

pub returns-in_err-line-clause-none : goal.returns-in_err-line-clause-none
returns-in_err-line-clause-none c = λ none. none-begun c.args.text.now c.args.number c.loop-at.at _ _
    (omega (arith, c.loop-at-test.false)) c.loop-at.invariant.walks
    (subst (λ (b : Option (ℕ × ℕ)). Begun c.args.text.now c.args.number c.loop-at.at c.loop-at.walk.spot
    c.loop-at.walk.records b) c.in_err-line.was c.loop-at.invariant.begun)

pub returns-clause-some : goal.returns-clause-some
returns-clause-some c =
    let begun = subst (λ (b : Option (ℕ × ℕ)). Begun c.args.text.now c.args.number c.loop-at.at c.loop-at.walk.spot
    c.loop-at.walk.records b) c.in_ok-line.was c.loop-at.invariant.begun in (
      ends-text c.args.text.now c.args.number c.loop-at.at _ _ (c.in_ok-line.line, c.in_ok-line.start)
          (omega (arith, c.loop-at-test.false)) c.loop-at.invariant.walks begun,
      begun.1,
    )
