-- A run goes on from the journal of its book, and what is left of it without the cell is one in rounds
use Rattle.std.proofs.Common.{◌∙◌, ap, false, subst, sym}
use Rattle.cell_workers.specs.declared.ends.End.{End}
use Rattle.cell_rounds.specs.Runs.{end_of}
use Rattle.cell_runs.specs.Rounds.{Ended, start_from}
use Rattle.cell_runs.proofs.Forgetting.{run_from}
use Rattle.cell_runs.proofs.rounds.run_over.Goals as goal

pub returns-clause-run : goal.returns-clause-run
returns-clause-run g c =
    let ran = c.control-ran.result in
    let B = c.args.book.entries in
    let ended = run_from _ _ g.R.Run.limits c.args.plan.now false ran.halt _ _ _ _ B ran.book.entries c.args.script
    c.requires.reached (λ a b e kept is. is) c.control-ran.ensures.controlled in
    record {
      legal = c.control-ran.ensures.legal;
      ended =
          subst (λ (e : End). Ended g.R.Run.limits c.args.plan.now (start_from B c.args.script) ran.book.entries e)
          (sym (c.end.ensures ∙ ap end_of ended.1)) ended.2;
    }

-- and what the cell was asked is what the run says
pub returns-clause-ran : goal.returns-clause-ran
returns-clause-ran g c = (c.control-ran.result.halt, _, _, c.end.ensures, c.control-ran.ensures.controlled)
