-- The watch of the machine whose command wasn't carried out knows it, and no other is touched
use Rattle.std.proofs.Common.{◌∙◌, ap, refl, subst, sym}
use Rattle.cell_types.specs.Entries.{command_of}
use Rattle.cell_turns.specs.Minds.{FitsMind, machine_of_watch, with_failure}
use Rattle.cell_turns.specs.Six.{at}
use Rattle.cell_turns.specs.declared.watch.Watch.{Watch}
use Rattle.cell_rounds.specs.Calls.{gone_by}
use Rattle.cell_rounds.specs.declared.progress.Halt.TheVariants as halt
use Rattle.cell_rounds.proofs.Moving.{fits_put, halted_is, machines_put}
use Rattle.cell_rounds.proofs.Turns.{fits_gone, fits_kept, kept_of, lost_of, reached_of}
use Rattle.cell_rounds.proofs.turning.send.Goals as goal

pub returns-in_default-clause-sent : goal.returns-in_default-clause-sent
returns-in_default-clause-sent g c = rw (sym c.command_of.ensures ∙ c.in_default.is) (refl, refl, refl)

pub returns-in_err-command-clause-sent : goal.returns-in_err-command-clause-sent
returns-in_err-command-clause-sent g c = rw (sym c.command_of.ensures ∙ c.in-Some.is) (
  c.command.result,
  c.command.ensures.told,
  halted_is _ halt.Gone c.from_residual.ensures.1 ∙ sym (ap gone_by c.in_err-command.was),
  fits_gone c.command.result _ c.args.cell.now.watches c.args.machine c.in_err-command.was,
)

pub returns-then-not-branch-clause-machines : goal.returns-then-not-branch-clause-machines
returns-then-not-branch-clause-machines g c =
    machines_put c.args.cell.now.watches c.args.machine c.command_failed.new.self c.requires
    (c.command_failed.ensures.machine ∙ (ap machine_of_watch c.pick.ensures.value ∙ c.requires c.args.machine))

pub returns-then-not-branch-clause-sent : goal.returns-then-not-branch-clause-sent
returns-then-not-branch-clause-sent g c =
    let ws = c.args.cell.now.watches in
    let m = c.args.machine in
    rw (sym c.command_of.ensures ∙ c.in-Some.is) (
      c.command.result,
      c.command.ensures.told,
      sym (reached_of c.command.result _ c.in_ok-command.was),
      λ minds fits. rw (lost_of c.command.result c.in_ok-command.field-0 c.in_ok-command.was c.if-not-branch.true)
          (fits_put ws minds m c.command_failed.new.self (with_failure (at minds m)) fits
          (c.command_failed.ensures.fits (at minds m)
          (subst (λ (w : Watch). FitsMind w (at minds m)) (sym c.pick.ensures.value) (fits.each m)))),
    )

pub returns-else-not-branch-clause-sent : goal.returns-else-not-branch-clause-sent
returns-else-not-branch-clause-sent g c = rw (sym c.command_of.ensures ∙ c.in-Some.is) (
  c.command.result,
  c.command.ensures.told,
  sym (reached_of c.command.result _ c.in_ok-command.was),
  fits_kept c.command.result c.args.cell.now.watches c.args.machine
      (kept_of c.command.result c.in_ok-command.field-0 c.in_ok-command.was c.if-not-branch.false),
)
