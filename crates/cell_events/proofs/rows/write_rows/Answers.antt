-- Each event's line comes behind those before it, and an error leaves a first part of the whole text
use Rattle.std.proofs.Common.{◌∙◌, Err, ap, refl}
use Rattle.cell_output.specs.Watched.{bytes_held}
use Rattle.cell_events.proofs.Lines.{if_err-any, part-failed, part-header, row-more, written-whole}
use Rattle.std.proofs.lemmas.List.{take_all}
use Rattle.cell_events.proofs.rows.write_rows.Goals as goal

pub returns-in_err-write_bytes-clause-part : goal.returns-in_err-write_bytes-clause-part
returns-in_err-write_bytes-clause-part g c = if_err-any c.from_residual.result _
    (part-header _ _ c.args.events.now (c.in_err-write_bytes.ensures.part refl))

pub loop-event-preserved : goal.loop-event-preserved
loop-event-preserved g c = record {
  writer = c.in_ok-write_row.ensures.writer ∙ c.loop-event.invariant.writer;
  bytes = row-more _ _ _ c.args.events.now c.loop-event.event-index c.event-item.result c.loop-event-test.true
      c.event-item.is c.loop-event.invariant.bytes c.in_ok-write_row.ensures.whole;
}

pub returns-in_err-write_row-clause-part : goal.returns-in_err-write_row-clause-part
returns-in_err-write_row-clause-part g c = if_err-any c.from_residual-in_err-write_row.result _
    (part-failed _ _ _ _ c.args.events.now c.loop-event.event-index c.event-item.result
    (Err c.in_err-write_row.field-0.0)
    c.in_err-write_row.field-0.0 refl c.loop-event-test.true c.event-item.is c.in_ok-write_bytes.ensures.whole
    c.loop-event.invariant.bytes c.in_err-write_row.ensures.part
    (λ h. ap (bytes_held g.W.Write.contents) (c.in_err-write_row.ensures.nothing h)))

pub returns-clause-whole : goal.returns-clause-whole
returns-clause-whole g c = written-whole _ _ _ c.args.events.now c.in_ok-write_bytes.ensures.whole
    (rw (take_all c.loop-event.event-index c.args.events.now c.loop-event-test.false) at c.loop-event.invariant.bytes)
