use Rattle.cell_workers.proofs.Reports.{agrees_more}
use Rattle.cell_workers.proofs.running.agrees.Goals as goal

pub loop-place-preserved : goal.loop-place-preserved
loop-place-preserved c = record {
  within = c.in-Some.ensures.within;
  same = agrees_more c.args.actor c.args.journal.now.entries c.args.entries.now c.loop-place.place c.loop-place.k
      c.in-Some.next c.at.result c.at.ensures c.loop-place.invariant.same c.in-Some.ensures.same;
}
