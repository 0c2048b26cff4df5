use Rattle.std.proofs.Common.{◌∙◌, refl, sym}
use Rattle.cell_lines.specs.Said.{syncs}
use Rattle.cell_lines.proofs.Talking.{passes-more, passes-none, syncs-is, takes-is, takes-to}
use Rattle.cell_lines.proofs.far_end.FarEnd.find.Goals as goal

pub loop-count-init : goal.loop-count-init
loop-count-init g c = record { silent = refl; passes = passes-none (syncs c.args.length) (λ one p. p) _ _ refl }

pub loop-count-preserved : goal.loop-count-preserved
loop-count-preserved g c = record {
  silent = c.in_ok-said.ensures.silent ∙ c.loop-count.invariant.silent;
  passes = passes-more (syncs c.args.length) (λ one p. p) _ _ _ _ _ c.loop-count.invariant.passes
      c.in_ok-said.ensures.takes (sym c.is_synced.ensures ∙ c.if-is_synced.false) refl;
}

pub returns-then-is_synced-clause-takes : goal.returns-then-is_synced-clause-takes
returns-then-is_synced-clause-takes g c = takes-to (syncs c.args.length) (λ one p. p) _ _ _ _
    c.loop-count.invariant.passes
    (takes-is _ _ _ _ (syncs-is c.args.length _ (sym c.is_synced.ensures ∙ c.if-is_synced.true))
    c.in_ok-said.ensures.takes)
