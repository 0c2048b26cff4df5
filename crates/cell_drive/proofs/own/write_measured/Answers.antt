-- Behind the run of the watched cell come the measures of what is kept of it
use Rattle.std.proofs.Common.{Some, ap, inl, inr, refl}
use Rattle.cell_runs.specs.Runs.{kept_run}
use Rattle.cell_drive.proofs.Gauging.{leads}
use Rattle.cell_drive.proofs.own.write_measured.Goals as goal

pub returns-in-Ok-clause-whole : goal.returns-in-Ok-clause-whole
returns-in-Ok-clause-whole g c = (
  g.W.Write.contents c.keep_outcome.new.writer.writer.now,
  c.in_ok-status-in-Ok.status,
  inl (
    c.in-Ok.outcome.end,
    c.in-Ok.outcome.book.entries,
    leads c.args.inputs _ _ _ _ _ _ c.watched.ensures c.with_durations-world.ensures c.new-cell.ensures c.in-Ok.ensures,
    c.in_ok-status-in-Ok.ensures.whole,
    ap Some c.in_ok-status-in-Ok.ensures.run,
  ),
  c.in_ok-both-in-Ok.ensures.whole,
)

-- where not all of the run was written, a first part of it was
pub returns-in_err-status-in-Ok-clause-part : goal.returns-in_err-status-in-Ok-clause-part
returns-in_err-status-in-Ok-clause-part g c = λ failed. inl (
  c.in-Ok.outcome.end,
  c.in-Ok.outcome.book.entries,
  leads c.args.inputs _ _ _ _ _ _ c.watched.ensures c.with_durations-world.ensures c.new-cell.ensures c.in-Ok.ensures,
  c.in_err-status-in-Ok.ensures.part refl,
)

-- where the measures weren't all written, the run was, and then a part of them
pub returns-in_err-both-in-Ok-clause-part : goal.returns-in_err-both-in-Ok-clause-part
returns-in_err-both-in-Ok-clause-part g c = λ failed. inr (
  g.W.Write.contents c.keep_outcome.new.writer.writer.now,
  c.in_ok-status-in-Ok.status,
  kept_run c.in_ok-status-in-Ok.run',
  inl (
    c.in-Ok.outcome.end,
    c.in-Ok.outcome.book.entries,
    leads c.args.inputs _ _ _ _ _ _ c.watched.ensures c.with_durations-world.ensures c.new-cell.ensures c.in-Ok.ensures,
    c.in_ok-status-in-Ok.ensures.whole,
    ap Some c.in_ok-status-in-Ok.ensures.run,
  ),
  c.in_err-both-in-Ok.ensures.part refl,
)
