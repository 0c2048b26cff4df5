-- The watch of the machine whose command wasn't carried out knows it, and no other is touched
use Rattle.std.proofs.Common.{◌∙◌, ap, refl, subst, sym}
use Rattle.std.specs.Prelude.{Bool, Some, is_ok}
use Rattle.cell_turns.specs.Minds.{FitsMind, machine_of_watch, with_failure}
use Rattle.cell_turns.specs.Six.{at}
use Rattle.cell_turns.specs.declared.watch.Watch.{Watch}
use Rattle.cell_rounds.specs.Calls.{again, gone, gone_by}
use Rattle.cell_rounds.specs.Moves.{Stops}
use Rattle.cell_rounds.specs.declared.progress.Halt.{Halt}
use Rattle.cell_rounds.specs.declared.progress.Halt.TheVariants as halt
use Rattle.cell_rounds.proofs.Moving.{fits_put, halted_is, machines_put}
use Rattle.cell_rounds.proofs.Turns.{fits_gone, fits_kept, kept_of, lost_of, reached_of}
use Rattle.cell_rounds.proofs.settle.send_again.Goals as goal

pub returns-in_err-stop_press-clause-sends : goal.returns-in_err-stop_press-clause-sends
returns-in_err-stop_press-clause-sends g c =
    gone (subst (λ (b : Bool). Stops g.C.Plant.told c.args.last.machine b c.args.plant.now c.stop_press.new.plant)
    (ap is_ok c.in_err-stop_press.was) c.stop_press.ensures.stops)
    (halted_is c.from_residual.result c.in_err-stop_press.field-0.0 c.from_residual.ensures.1
    ∙ ap (λ (z : Halt). Some z) c.in_err-stop_press.ensures.gone) refl

pub returns-in_err-command-clause-sends : goal.returns-in_err-command-clause-sends
returns-in_err-command-clause-sends g c =
    again c.stop_press.new.plant c.command.result
    (subst (λ (b : Bool). Stops g.C.Plant.told c.args.last.machine b c.args.plant.now c.stop_press.new.plant)
    (ap is_ok c.in_ok-stop_press.was) c.stop_press.ensures.stops)
    c.command.ensures.told
    (halted_is _ halt.Gone c.from_residual-in_err-command.ensures.1 ∙ sym (ap gone_by c.in_err-command.was))
    (fits_gone c.command.result _ c.args.cell.now.watches c.args.last.machine c.in_err-command.was)

pub returns-then-not-branch-clause-machines : goal.returns-then-not-branch-clause-machines
returns-then-not-branch-clause-machines g c =
    machines_put c.args.cell.now.watches c.args.last.machine c.command_failed.new.self c.requires
    (c.command_failed.ensures.machine ∙ (ap machine_of_watch c.pick.ensures.value ∙ c.requires c.args.last.machine))

pub returns-then-not-branch-clause-sends : goal.returns-then-not-branch-clause-sends
returns-then-not-branch-clause-sends g c =
    let ws = c.args.cell.now.watches in
    let m = c.args.last.machine in
    again c.stop_press.new.plant c.command.result
    (subst (λ (b : Bool). Stops g.C.Plant.told m b c.args.plant.now c.stop_press.new.plant)
    (ap is_ok c.in_ok-stop_press.was) c.stop_press.ensures.stops)
    c.command.ensures.told (sym (reached_of c.command.result _ c.in_ok-command.was))
    (λ minds fits. rw (lost_of c.command.result c.in_ok-command.field-0 c.in_ok-command.was c.if-not-branch.true)
    (fits_put ws minds m c.command_failed.new.self (with_failure (at minds m)) fits
    (c.command_failed.ensures.fits (at minds m)
    (subst (λ (w : Watch). FitsMind w (at minds m)) (sym c.pick.ensures.value) (fits.each m)))))

pub returns-else-not-branch-clause-sends : goal.returns-else-not-branch-clause-sends
returns-else-not-branch-clause-sends g c =
    again c.stop_press.new.plant c.command.result
    (subst (λ (b : Bool). Stops g.C.Plant.told c.args.last.machine b c.args.plant.now c.stop_press.new.plant)
    (ap is_ok c.in_ok-stop_press.was) c.stop_press.ensures.stops)
    c.command.ensures.told (sym (reached_of c.command.result _ c.in_ok-command.was))
    (fits_kept c.command.result c.args.cell.now.watches c.args.last.machine
    (kept_of c.command.result c.in_ok-command.field-0 c.in_ok-command.was c.if-not-branch.false))
