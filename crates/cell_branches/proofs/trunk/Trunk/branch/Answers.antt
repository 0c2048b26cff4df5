-- The run with faults goes on from the stop, and so from the opening
use Rattle.std.proofs.Common.{◌≡◌, ◌∙◌, [], false, ap, sym, subst}
use Rattle.std.specs.Prelude.{None}
use Rattle.cell_rules.specs.declared.limits.BookLimits.{BookLimits}
use Rattle.cell_sim.specs.Simulated.{Simulated, opening_with}
use Rattle.sim_plant.specs.Answers.{AnswersSo, SimCell, sim_cell}
use Rattle.cell_rounds.specs.Moves.{terms_of}
use Rattle.cell_rounds.specs.Pauses.{IsPaused, Paused}
use Rattle.cell_rounds.specs.Stands.{start}
use Rattle.cell_runs.specs.Cells.{AllKept, IsSimulated}
use Rattle.cell_runs.specs.Runs.{limits_of}
use Rattle.cell_branches.specs.Trunks.{IsStop, TrunkOf}
use Rattle.cell_branches.proofs.Branching.{simulated, with_faults}
use Rattle.cell_branches.proofs.trunk.Trunk.branch.Goals as goal

pub returns : goal.returns
returns c =
    let faults = c.args.faults.now in
    let p = c.self.inside.plan in
    let script = c.self.inside.script in
    let stop = c.in-Some.stop.now in
    let way = subst (λ (t : TrunkOf). IsStop t.plan t.script stop) (sym c.self.view_is) c.in-Some.ensures.stop in
    let (before, after, paused) = with_faults p script stop.cell stop.pause faults way c.in-Some.ensures.before in
    let s = start (sim_cell (opening_with p.plates) faults) before [] script None in
    let l = c.copy-pause.result.limits in
    let limits : l ≡ limits_of p = ap (λ (q : Paused). q.limits) c.copy-pause.ensures ∙ way.0 in
    let cell = c.new-cell.ensures ∙ ap (λ (w : Simulated). sim_cell w faults) (c.copy-2.ensures ∙ c.world.ensures) in
    let here = subst (λ (x : BookLimits). IsPaused AnswersSo AllKept (terms_of x p false) s c.new-cell.result after
    c.copy-pause.result) (sym limits)
    (subst (λ (x : SimCell). IsPaused AnswersSo AllKept (terms_of (limits_of p) p false) s x after c.copy-pause.result)
    (sym cell) (subst (λ (q : Paused). IsPaused AnswersSo AllKept (terms_of (limits_of p) p false) s
    (sim_cell stop.cell.world faults) after q) (sym c.copy-pause.ensures) paused)) in
    let halts = c.finish-ran.ensures.halts s here in
    subst (λ (t : TrunkOf). (left : SimCell) × IsSimulated (limits_of t.plan) t.plan
    (sim_cell (opening_with t.plan.plates) faults) [] t.script left c.finish-ran.result.book.entries c.end.result)
    c.self.view_is
    (simulated l p faults script before c.finish-ran.result.halt c.finish-ran.new.plant c.finish-ran.new.keeper
    c.finish-ran.result.book.entries c.end.result limits c.end.ensures c.finish-ran.ensures.legal halts)
