-- A run without faults that is paused is one with faults in later motions
use Rattle.std.proofs.Common.{◌≡◌, ◌≤◌, ◌∙◌, ℕ, List, [], ◌∷◌, true, ap, refl, subst, sym, arith}
use Rattle.std.specs.Prelude.{None, replicate, false}
use Rattle.std.proofs.lemmas.Bool.{and_from, and_parts}
use Rattle.std.proofs.lemmas.Bool.Decides.{nat_tests}
use Rattle.cell_types.specs.declared.words.Axis.{Axis}
use Rattle.cell_types.specs.declared.words.Entry.{Entry}
use Rattle.cell_rules.specs.Legal.{legal}
use Rattle.cell_rules.specs.declared.limits.BookLimits.{BookLimits}
use Rattle.cell_ports.specs.declared.plan.Plan.{Plan}
use Rattle.operator_desk.specs.declared.line.Line.{Line}
use Rattle.cell_workers.specs.declared.ends.End.{End}
use Rattle.cell_plant.specs.declared.keeper.Unkept.{Unkept}
use Rattle.cell_sim.specs.Script.{are_later, is_later, latest_of}
use Rattle.cell_sim.specs.Simulated.{opening_with}
use Rattle.cell_sim.specs.declared.fault.PlannedFault.{PlannedFault}
use Rattle.sim_plant.specs.Answers.{AnswersSo, SimCell, sim_cell}
use Rattle.sim_plant.specs.Faultless.{AnswersYet, FaultlessCell, faultless_cell}
use Rattle.cell_rounds.specs.Moves.{terms_of}
use Rattle.cell_rounds.specs.Pauses.{IsPaused, IsUnbegun, Paused}
use Rattle.cell_rounds.specs.Runs.{Controlled, Halts, end_of}
use Rattle.cell_rounds.specs.Stands.{start}
use Rattle.cell_rounds.specs.declared.progress.Halt.{Halt}
use Rattle.cell_rounds.proofs.Mapping.{paused_map}
use Rattle.cell_rounds.proofs.Pausing.{unbegun_paused}
use Rattle.cell_runs.specs.Cells.{AllKept, IsSimulated}
use Rattle.cell_runs.specs.Rounds.{Ended, start_from}
use Rattle.cell_runs.specs.Runs.{limits_of}
use Rattle.cell_runs.proofs.Forgetting.{run_from}
use Rattle.cell_runs.proofs.Reached.{reached}
use Rattle.cell_branches.specs.Trunks.{IsOnWay}

-- a fault in a motion behind the latest is behind each earlier one
still_later : (old new : List ℕ) (f : PlannedFault) → latest_of old f.axis ≤ latest_of new f.axis
    → is_later new f ≡ true → is_later old f ≡ true
still_later old new f no_earlier later = grind (arith, nat_tests)

-- so are all
pub all_still_later : (old new : List ℕ) (faults : List PlannedFault)
    → ((a : Axis) → latest_of old a ≤ latest_of new a) → are_later new faults ≡ true → are_later old faults ≡ true
all_still_later old new [] no_earlier later = refl
all_still_later old new (f ∷ faults) no_earlier later =
    let parts = and_parts (is_later new f) (are_later new faults) later in
    and_from (is_later old f) (are_later old faults) (still_later old new f (no_earlier f.axis) parts.0)
    (all_still_later old new faults no_earlier parts.1)

-- a run with faults behind the latest motions is paused there too
pub with_faults : (p : Plan) (script : List Line) (c : FaultlessCell) (q : Paused) (faults : List PlannedFault)
    → IsOnWay p script c q → are_later c.latest faults ≡ true
    → (before : Unkept) × (after : Unkept) × IsPaused AnswersSo AllKept (terms_of (limits_of p) p false)
    (start (sim_cell (opening_with p.plates) faults) before [] script None) (sim_cell c.world faults) after q
with_faults p script c q faults way later =
    let (before, after, paused) = way.2 in (
      before,
      after,
      paused_map (λ (x : FaultlessCell). sim_cell x.world faults) AnswersYet AnswersSo AllKept
          (terms_of (limits_of p) p false) (λ (x : FaultlessCell). are_later x.latest faults ≡ true)
          (λ x y a told holds. all_still_later x.latest y.latest faults told.0 holds)
          (λ x y a told holds. (refl, told.1 faults holds))
          (start (faultless_cell (opening_with p.plates) (replicate 9 0)) before [] script None) c after q paused later,
    )

-- a run with faults that has halted is one of the simulated cell
pub simulated : (l : BookLimits) (p : Plan) (faults : List PlannedFault) (script : List Line) (before : Unkept)
    (h : Halt) (c : SimCell) (k : Unkept) (J : List Entry) (e : End) → l ≡ limits_of p → e ≡ end_of h
    → legal l J ≡ true
    → Halts AnswersSo AllKept (terms_of l p false) (start (sim_cell (opening_with p.plates) faults) before [] script
    None)
    h c k J
    → (left : SimCell)
    × IsSimulated (limits_of p) p (sim_cell (opening_with p.plates) faults) [] script left J e
simulated l p faults script before h c k J e limits is lawful halts =
    let old = sim_cell (opening_with p.plates) faults in
    let made = subst (λ (x : BookLimits). Controlled AnswersSo AllKept (terms_of x p false) h old before [] script None
    c k J) limits halts in
    let ended = run_from AnswersSo AllKept (limits_of p) p false h old c before k [] J script reached
    (λ a b x kept so. so) made in (
      c,
      record {
        run = record {
          legal = subst (λ (x : BookLimits). legal x J ≡ true) limits lawful;
          ended =
              subst (λ (x : End). Ended (limits_of p) p (start_from [] script) J x)
              (sym (is ∙ ap end_of ended.1)) ended.2;
        };
        ran = (h, before, k, is, made);
      },
    )

-- a run without faults that isn't begun is on its way
pub on_way_at_first : (p : Plan) (script lines : List Line) (l : BookLimits) (J : List Entry) (cell : FaultlessCell)
    (q : Paused) → IsUnbegun l J lines None q → l ≡ limits_of p → J ≡ [] → lines ≡ script
    → cell ≡ faultless_cell (opening_with p.plates) (replicate 9 0) → IsOnWay p script cell q
on_way_at_first p script lines l J cell q new limits empty same opened =
    let k : Unkept = record {} in
    let T = terms_of (limits_of p) p false in
    let paused = unbegun_paused AnswersYet AllKept T cell k l J lines None q new in
    let from_empty = subst (λ (K : List Entry). IsPaused AnswersYet AllKept T (start cell k K lines None) cell k q)
    empty
    paused in
    let by_script = subst (λ (ls : List Line). IsPaused AnswersYet AllKept T (start cell k [] ls None) cell k q) same
    from_empty in (
      new.limits ∙ limits,
      omega (arith, new.rounds),
      (
        k,
        k,
        subst (λ (x : FaultlessCell). IsPaused AnswersYet AllKept T (start x k [] script None) cell k q) opened
            by_script,
      ),
    )
