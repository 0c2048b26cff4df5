-- A step is a schedule of one: where it is refused or stopped, the journal is as it was
use Rattle.std.proofs.Common.{◌≡◌, ◌∙◌, ℕ, [], ◌∷◌, length, nat_eq, ap, arith}
use Rattle.cell_runs.proofs.OneRound.{takes_of, step_booked, breaks_of, unchanged_if_refused, unchanged_if_stopped}
use Rattle.cell_runs.proofs.steps.take_step.Goals as goal

pub returns-in-Ok-2-clause-took : goal.returns-in-Ok-2-clause-took
returns-in-Ok-2-clause-took g c = λ minds fits.
    takes_of c.args.plan.now (c.args.step ∷ []) c.run_step-taken.new.ran.refused c.args.cell.now.kept
    c.run_step-taken.new.state.kept.now c.args.cell.now.watches c.run_step-taken.new.state.watches.now _ _ _ minds
    (omega arith)
    c.in-Ok.ensures.scheduled fits

pub returns-in-Ok-2-clause-booked : goal.returns-in-Ok-2-clause-booked
returns-in-Ok-2-clause-booked g c = λ minds fits e is.
    let his = c.run_step-taken.new.ran.operator in
    let size : his.len ≡ length his.items = omega (arith, his.ok.0) in
    step_booked c.args.plan.now c.args.cell.now.kept c.run_step-taken.new.state.kept.now _ _ _
    c.run_step-taken.new.ran.operator.items c.args.step c.run_step-taken.new.ran.refused c.args.cell.now.watches
    c.run_step-taken.new.state.watches.now _ _ _ c.is_empty.result minds e
    c.in-Ok.ensures.grown c.in-Ok.ensures.scheduled fits is (c.is_empty.ensures ∙ ap (λ (k : ℕ). nat_eq k 0) size)

pub returns-in-Err-clause-stops : goal.returns-in-Err-clause-stops
returns-in-Err-clause-stops g c = λ minds fits.
    let s = c.in-Err.ensures.stopped in (
      s.refused,
      breaks_of c.args.plan.now (c.args.step ∷ []) s.taken (s.next ∷ s.left) s.refused c.args.cell.now.kept
          c.run_step-taken.new.state.kept.now c.args.cell.now.watches c.run_step-taken.new.state.watches.now _ _ _
          minds s.in_order
          s.scheduled fits,
    )

pub returns-in-Ok-clause-unchanged : goal.returns-in-Ok-clause-unchanged
returns-in-Ok-clause-unchanged g c = λ minds fits.
    unchanged_if_refused c.args.plan.now c.args.step c.run_step-taken.new.ran.refused c.args.cell.now.kept
    c.run_step-taken.new.state.kept.now c.args.cell.now.watches c.run_step-taken.new.state.watches.now _ _ _ minds
    (omega arith)
    c.in-Ok.ensures.scheduled fits

pub returns-in-Err-clause-unchanged : goal.returns-in-Err-clause-unchanged
returns-in-Err-clause-unchanged g c = λ minds fits.
    let s = c.in-Err.ensures.stopped in
    unchanged_if_stopped c.args.plan.now c.args.step s.next s.taken s.left s.refused c.args.cell.now.kept
    c.run_step-taken.new.state.kept.now c.args.cell.now.watches c.run_step-taken.new.state.watches.now _ _ _ minds
    s.in_order
    s.scheduled fits
