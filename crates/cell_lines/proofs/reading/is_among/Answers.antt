use Rattle.std.proofs.Common.{rules, ap, sym, ◌∙◌}
use Rattle.std.specs.Str.{bytes_eq}
use Rattle.cell_lines.proofs.Showing.{any-here, none-all, none-more}
use Rattle.cell_lines.proofs.reading.is_among.Goals as goal

pub returns-then-is_word : goal.returns-then-is_word
returns-then-is_word c = sym (any-here (λ w. w.now) (λ w. bytes_eq w c.args.word.now) c.args.words.now
    c.loop-known.known-index _ c.loop-known-test.true
    (ap (λ w. bytes_eq w c.args.word.now) (sym c.as_bytes.ensures.value) ∙ sym c.is_word.ensures ∙ c.if-is_word.true))

pub returns : goal.returns
returns c = sym (none-all (λ w. w.now) (λ w. bytes_eq w c.args.word.now) c.args.words.now c.loop-known.known-index
    (search rules) c.loop-known.invariant)

pub loop-known-preserved : goal.loop-known-preserved
loop-known-preserved c = none-more (λ w. w.now) (λ w. bytes_eq w c.args.word.now) c.args.words.now
    c.loop-known.known-index _ c.loop-known-test.true c.loop-known.invariant
    (ap (λ w. bytes_eq w c.args.word.now) (sym c.as_bytes.ensures.value) ∙ sym c.is_word.ensures ∙ c.if-is_word.false)
