-- What is done from a pause on is done from the opening
use Rattle.std.proofs.Common.{◌∙◌, [], false, sym, subst, arith}
use Rattle.std.specs.Prelude.{None, replicate}
use Rattle.cell_rules.specs.declared.limits.BookLimits.{BookLimits}
use Rattle.cell_sim.specs.Simulated.{opening_with}
use Rattle.sim_plant.specs.Faultless.{AnswersYet, faultless_cell}
use Rattle.cell_rounds.specs.Moves.{terms_of}
use Rattle.cell_rounds.specs.Pauses.{IsPaused}
use Rattle.cell_rounds.specs.Stands.{start}
use Rattle.cell_runs.specs.Cells.{AllKept}
use Rattle.cell_branches.proofs.trunk.next_pause.Goals as goal

pub returns-in-Ok : goal.returns-in-Ok
returns-in-Ok c = λ script way.
    let p = c.args.plan.now in
    let (before, after, paused) = way.2 in
    let s = start (faultless_cell (opening_with p.plates) (replicate 9 0)) before [] script None in
    let next = c.in-Ok.next in (
      c.in-Ok.ensures.limits ∙ way.0,
      omega (arith, c.in-Ok.ensures.rounds),
      (
        before,
        c.go_on.new.keeper,
        subst (λ (l : BookLimits). IsPaused AnswersYet AllKept (terms_of l p false) s c.go_on.new.plant
            c.go_on.new.keeper next) way.0
            (c.in-Ok.ensures.goes_on s
            (subst (λ (l : BookLimits). IsPaused AnswersYet AllKept (terms_of l p false) s c.args.cell.now after
            c.args.pause) (sym way.0) paused)),
      ),
    )
