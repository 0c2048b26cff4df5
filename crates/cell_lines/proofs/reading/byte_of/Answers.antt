use Rattle.std.proofs.Common.{◌∙◌, ap, arith}
use Rattle.cell_lines.specs.Shown.{is_among}
use Rattle.line_reader.specs.Split.{parts}
use Rattle.cell_lines.proofs.Showing.{at-most-one, byte-none-of, byte-room, byte-step}
use Rattle.cell_lines.proofs.reading.byte_of.Goals as goal

pub loop-place-init : goal.loop-place-init
loop-place-init c = byte-none-of (λ w. w.now) c.args.words.now (parts 43 c.args.text.now)

pub overflow_mul-byte : goal.overflow_mul-byte
overflow_mul-byte c = omega (
  arith,
  byte-room (λ w. w.now) c.args.words.now (parts 43 c.args.text.now)
      c.loop-place.place c.loop-place.byte c.loop-place-test.true c.requires c.loop-place.invariant,
)

pub overflow_add-byte : goal.overflow_add-byte
overflow_add-byte c = omega (
  arith,
  byte-room (λ w. w.now) c.args.words.now (parts 43 c.args.text.now)
      c.loop-place.place c.loop-place.byte c.loop-place-test.true c.requires c.loop-place.invariant,
  at-most-one c.has_word-is_told.result c.from.result c.from.ensures,
)

pub loop-place-preserved : goal.loop-place-preserved
loop-place-preserved c = byte-step (λ w. w.now) c.args.words.now (parts 43 c.args.text.now) c.loop-place.place _
    c.has_word-is_told.result c.loop-place.byte c.from.result c.loop-place-test.true c.loop-place.auto.place
    (c.has_word-is_told.ensures ∙ ap (is_among (parts 43 c.args.text.now)) c.as_bytes.ensures.value) c.from.ensures
    c.loop-place.invariant
