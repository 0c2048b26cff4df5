-- What a later entry declares takes the place of what an earlier one did
use Rattle.std.proofs.Common.{◌∙◌, sym}
use Rattle.cell_explain.specs.Failures.{declares}
use Rattle.cell_explain.proofs.Passed.{last-more}
use Rattle.cell_explain.proofs.endings.failures.declared_last.Goals as goal
use Rattle.cell_explain.proofs.endings.failures.declared_last.Goals.{in-Some, in_default}

pub loop-place-preserved : goal.loop-place-preserved
loop-place-preserved c =
    let more = last-more (declares c.args.machine) c.args.journal.now.entries c.loop-place.place c.at.result
    c.loop-place.found _ c.at.ensures c.loop-place.invariant in
    elim c.match-declares.branch [
      | in-Some w ↦ rw w.found-is (rw (sym c.declares.ensures ∙ w.in-Some.is) at more)
      | in_default w ↦ rw w.found-is (rw (sym c.declares.ensures ∙ w.in_default.is) at more)
    ]
