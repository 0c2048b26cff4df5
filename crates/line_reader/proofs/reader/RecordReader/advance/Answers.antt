use Rattle.std.proofs.Common.{rules, arith, ◌≡◌, ◌∙◌, true, false, refl, sym, inr}
use Rattle.line_reader.specs.Lines.{is_blank}
use Rattle.line_reader.proofs.LineFacts.{endless-read, fault-after, held-record, keeps-itself, line-found, line-passed}
use Rattle.line_reader.proofs.LineFacts.{none-left, none-read, read-more, taken-after}
use Rattle.line_reader.proofs.reader.RecordReader.advance.Goals as goal

pub returns-then-not-is_blank-clause-line : goal.returns-then-not-is_blank-clause-line
returns-then-not-is_blank-clause-line g c =
    let (line, h, ends) = c.in_ok-ended.ensures.line in
    let full : is_blank line ≡ false = sym (c.is_blank.ensures line h) ∙ search rules in
    taken-after _ _ _ _ c.loop-count.invariant.0 (line-found _ _ line _ _ h.within ends full (held-record _ _ line h))

pub returns-then-ended-clause-line : goal.returns-then-ended-clause-line
returns-then-ended-clause-line g c =
    let (line, h, ends) = c.in_ok-ended.ensures.line in
    let blank : is_blank line ≡ true = sym (c.is_blank.ensures line h) ∙ search rules in
    none-left _ _ _ line _ h.within (search rules) blank c.loop-count.invariant.0

-- the blank lines can't be counted any further
pub returns-clause-fault : goal.returns-clause-fault
returns-clause-fault g c = λ _. inr (endless-read _ _ _ (omega (arith, c.loop-count-test.false))
    c.loop-count.invariant.1)

pub loop-count-preserved : goal.loop-count-preserved
loop-count-preserved g c =
    let (line, h, ends) = c.in_ok-ended.ensures.line in
    let blank : is_blank line ≡ true = sym (c.is_blank.ensures line h) ∙ search rules in (
      line-passed _ _ _ line h.within (search rules) blank c.loop-count.invariant.0,
      read-more _ _ _ _ line
          c.loop-count.invariant.1 (search rules),
    )

pub loop-count-init : goal.loop-count-init
loop-count-init g c = (keeps-itself _, none-read _)

pub returns-in_err-ended-clause-fault : goal.returns-in_err-ended-clause-fault
returns-in_err-ended-clause-fault g c = λ _. fault-after _ _ _ _ c.loop-count.invariant.1
    (c.in_err-ended.ensures.fault refl)
