-- Each entry forges the plate or doesn't
use Rattle.std.proofs.Common.{◌∙◌, sym}
use Rattle.cell_sim.specs.Takeover.{is_forging}
use Rattle.cell_sim.proofs.Counting.{any-yes, any-no}
use Rattle.cell_sim.proofs.world.takeover.is_forged.Goals as goal

pub returns-then-is_forging : goal.returns-then-is_forging
returns-then-is_forging c =
    sym (any-yes (is_forging c.args.plate) c.args.journal.now.entries c.loop-place.place c.at.result c.at.ensures
    (sym c.is_forging.ensures ∙ c.if-is_forging.true))

pub loop-place-preserved : goal.loop-place-preserved
loop-place-preserved c =
    any-no (is_forging c.args.plate) c.args.journal.now.entries c.loop-place.place c.at.result c.at.ensures
    (sym c.is_forging.ensures ∙ c.if-is_forging.false) c.loop-place.invariant
