-- A round either ends the run or is one more of it, until there were as many as the plan has
use Rattle.std.proofs.Common.{rules, ◌≡◌, ◌<◌, ◌+◌, ◌∙◌, ℕ, ap, arith, refl, subst}
use Rattle.std.specs.Prelude.{None, Option}
use Rattle.cell_rules.specs.declared.limits.BookLimits.{BookLimits}
use Rattle.cell_rounds.specs.Calls.{halted}
use Rattle.cell_rounds.specs.Moves.{terms_of}
use Rattle.cell_rounds.specs.Runs.{Runs}
use Rattle.cell_rounds.specs.Stands.{Between, place, state}
use Rattle.cell_rounds.specs.declared.progress.Halt.{Halt}
use Rattle.cell_rounds.proofs.Moving.{runs_nothing, runs_then}
use Rattle.cell_rounds.proofs.run.take_rounds.Goals as goal

pub loop-round-init : goal.loop-round-init
loop-round-init g c =
    let was = c.args.cell.now in
    record {
      own = c.requires.own;
      limits = refl;
      led = λ J. (
        J,
        runs_nothing g.C.Plant.told g.K.Keeper.keeps (terms_of was.kept.limits c.args.leg.terms.plan.now
            c.args.leg.terms.waits)
            (place c.args.closed J Between)
            (state c.args.plant.now c.args.keeper.now was.kept.entries was.watches was.pending was.script was.lost),
      );
    }

pub returns-in-Err-clause-led : goal.returns-in-Err-clause-led
returns-in-Err-clause-led g c = λ J.
    let told = g.C.Plant.told in
    let keeps = g.K.Keeper.keeps in
    let was = c.args.cell.now in
    let so = c.loop-round in
    let l = was.kept.limits in
    let T = terms_of l c.args.leg.terms.plan.now c.args.leg.terms.waits in
    let x = state c.args.plant.now c.args.keeper.now was.kept.entries was.watches was.pending was.script was.lost in
    let y = state so.plant so.keeper so.cell.kept.entries so.cell.watches so.cell.pending so.cell.script so.cell.lost in
    let next = c.take_round.new.cell in
    let z = state c.take_round.new.plant c.take_round.new.keeper next.kept.entries next.watches next.pending next.script
    next.lost in
    let (K, led) = so.invariant.led J in
    let below : so._round < c.args.leg.until = search rules in
    let room : so._round < c.args.leg.terms.plan.now.turns = omega (arith, below, c.requires.rounds.1) in (
      so.cell.kept.entries,
      subst (λ (h : Option Halt). Runs told keeps T h (place c.args.closed J Between)
          (place (so._round + 1) so.cell.kept.entries Between) x z)
          (ap halted c.in-Err.is)
          (runs_then told keeps T (halted c.take_round.result) (place c.args.closed J Between)
          (place so._round K Between)
          (place (so._round + 1) so.cell.kept.entries Between) x y z led
          (subst (λ (q : BookLimits). Runs told keeps (terms_of q c.args.leg.terms.plan.now c.args.leg.terms.waits)
          (halted c.take_round.result) (place so._round K Between)
          (place (so._round + 1) so.cell.kept.entries Between) y z) so.invariant.limits
          (c.take_round.ensures.led so._round K room))),
    )

pub loop-round-preserved : goal.loop-round-preserved
loop-round-preserved g c =
    let told = g.C.Plant.told in
    let keeps = g.K.Keeper.keeps in
    let was = c.args.cell.now in
    let so = c.loop-round in
    let l = was.kept.limits in
    let T = terms_of l c.args.leg.terms.plan.now c.args.leg.terms.waits in
    let x = state c.args.plant.now c.args.keeper.now was.kept.entries was.watches was.pending was.script was.lost in
    let y = state so.plant so.keeper so.cell.kept.entries so.cell.watches so.cell.pending so.cell.script so.cell.lost in
    let next = c.take_round.new.cell in
    let z = state c.take_round.new.plant c.take_round.new.keeper next.kept.entries next.watches next.pending next.script
    next.lost in
    record {
      own = c.take_round.ensures.machines;
      limits = c.take_round.ensures.limits ∙ so.invariant.limits;
      led = λ J.
          let (K, led) = so.invariant.led J in
          let below : so._round < c.args.leg.until = search rules in
          let room : so._round < c.args.leg.terms.plan.now.turns = omega (arith, below, c.requires.rounds.1) in (
            so.cell.kept.entries,
            runs_then told keeps T None (place c.args.closed J Between) (place so._round K Between)
                (place (so._round + 1) so.cell.kept.entries Between) x y z led
                (subst (λ (q : BookLimits). Runs told keeps (terms_of q c.args.leg.terms.plan.now
                c.args.leg.terms.waits) None
                (place so._round K Between) (place (so._round + 1) so.cell.kept.entries Between) y z)
                so.invariant.limits
                (subst (λ (h : Option Halt). Runs told keeps
                (terms_of so.cell.kept.limits c.args.leg.terms.plan.now c.args.leg.terms.waits) h
                (place so._round K Between) (place (so._round + 1) so.cell.kept.entries Between) y z)
                (ap halted c.in_default.is) (c.take_round.ensures.led so._round K room))),
          );
    }

pub returns-clause-led : goal.returns-clause-led
returns-clause-led g c = λ J.
    let told = g.C.Plant.told in
    let keeps = g.K.Keeper.keeps in
    let was = c.args.cell.now in
    let so = c.loop-round in
    let T = terms_of was.kept.limits c.args.leg.terms.plan.now c.args.leg.terms.waits in
    let x = state c.args.plant.now c.args.keeper.now was.kept.entries was.watches was.pending was.script was.lost in
    let y = state so.plant so.keeper so.cell.kept.entries so.cell.watches so.cell.pending so.cell.script so.cell.lost in
    let all : so._round ≡ c.args.leg.until = search rules in
    let (K, led) = so.invariant.led J in (
      K,
      subst (λ (n : ℕ). Runs told keeps T None (place c.args.closed J Between) (place n K Between) x y) all led,
    )
