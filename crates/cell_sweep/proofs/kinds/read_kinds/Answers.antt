-- Each part that names a kind adds that kind to those before it
use Rattle.std.proofs.Common.{◌∙◌, ap, map, sym}
use Rattle.cell_sweep.specs.Kinds.{parts_of}
use Rattle.cell_sweep.proofs.Steps.{named-part}
use Rattle.cell_sweep.proofs.kinds.read_kinds.Goals as goal

pub loop-index-preserved : goal.loop-index-preserved
loop-index-preserved c =
    named-part c.deref-part-items.result.now (parts_of c.args.list.now) c.loop-index.index _ c.loop-index.kinds.items
    c.push_kind.new.kinds.items c.in-Some.kind
    (ap (map (λ p. p.now)) c.deref-part-items.ensures.value ∙ c.in_ok-parts.ensures) c.loop-index.invariant
    c.loop-index-test.true
    (sym c.read_kind.ensures ∙ c.in-Some.is) c.in_ok-push_kind-in-Some.ensures
