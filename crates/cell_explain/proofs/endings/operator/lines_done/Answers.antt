-- Each entry does the first line left, or none
use Rattle.std.proofs.Common.{◌≤◌, arith, drop, length, subst}
use Rattle.cell_explain.specs.Waiting.{Leaves, all}
use Rattle.cell_explain.proofs.Leaving.{left-does, left-passes}
use Rattle.cell_explain.proofs.Onward.{between-all, between-none}
use Rattle.cell_explain.proofs.endings.operator.lines_done.Goals as goal
use Rattle.cell_explain.proofs.endings.operator.lines_done.Goals.{then-is_asked_for, else-is_asked_for}

pub loop-place-init : goal.loop-place-init
loop-place-init c = record {
  left = rw (between-none c.args.before c.args.journal.now.entries) all;
  few = omega arith;
  from = omega arith;
  within = omega arith;
}

pub loop-place-preserved : goal.loop-place-preserved
loop-place-preserved c =
    let script = c.args.lines.now in
    let J = c.args.journal.now.entries in
    let so = c.loop-place in
    elim c.if-is_asked_for.branch [
      | then-is_asked_for w ↦ record {
        left = left-does script J c.args.before so.place so.done _ c.at.result so.invariant.from c.at.ensures w.done-is
            (c.is_asked_for.ensures.asked w.if-is_asked_for.true) so.invariant.left;
        few = omega arith;
        from = omega arith;
        within = omega arith;
      }
      | else-is_asked_for w ↦ record {
        left = left-passes script J c.args.before so.place so.done _ c.at.result so.invariant.from c.at.ensures
            w.done-is (c.is_asked_for.ensures.other w.if-is_asked_for.false) so.invariant.left;
        few = omega arith;
        from = omega arith;
        within = omega arith;
      }
    ]

pub returns-clause-done : goal.returns-clause-done
returns-clause-done c =
    let J = c.args.journal.now.entries in
    let past : length J ≤ c.loop-place.place = omega arith in
    subst (λ (es : _). Leaves c.args.lines.now es (drop c.loop-place.done c.args.lines.now))
    (between-all c.args.before c.loop-place.place J past c.loop-place.invariant.from) c.loop-place.invariant.left
