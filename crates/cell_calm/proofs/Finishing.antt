-- A cell in which machines may fail by faults that last doesn't run out of rounds; and a healthy one that has room and
-- time finishes, with all plates forged and delivered
use Rattle.std.proofs.Common.{◌≡◌, ◌≢◌, ◌≤◌, ◌<◌, ◌+◌, ◌*◌, ◌⊎◌, inl, inr, ℕ, true, false, Option, None, Ok, Err}
use Rattle.std.proofs.Common.{List, [], IfSome, length, refl, sym, ap, ◌∙◌, subst, arith}
use Rattle.std.proofs.Math.Nat.{mul-le-mul_left}
use Rattle.cell_types.specs.declared.words.Axis.TheVariants as axis
use Rattle.cell_types.specs.declared.words.Entry.{Entry}
use Rattle.cell_types.specs.declared.words.Pose.TheVariants as pose
use Rattle.cell_rules.specs.declared.limits.BookLimits.{BookLimits}
use Rattle.cell_measures.specs.declared.durations.Durations.{Durations}
use Rattle.cell_ports.specs.declared.plan.Plan.{Plan}
use Rattle.cell_plant.specs.declared.keeper.Unkept.{Unkept}
use Rattle.cell_workers.specs.declared.ends.End.{End}
use Rattle.cell_workers.specs.declared.ends.End.TheVariants as end
use Rattle.cell_rounds.specs.Moves.{Leads, terms_of}
use Rattle.cell_rounds.specs.Runs.{Halts, end_of}
use Rattle.cell_rounds.specs.Runs.Halts.{breaks, fills, lacks, rests, tires}
use Rattle.cell_rounds.specs.Stands.{Over, Point, Stand, start}
use Rattle.cell_rounds.specs.declared.progress.Halt.{Halt}
use Rattle.operator_desk.specs.declared.line.Line.{Line}
use Rattle.cell_sim.specs.Simulated.{one_each}
use Rattle.cell_sim.specs.declared.fault.PlannedFault.{PlannedFault}
use Rattle.sim_plant.specs.Answers.{AnswersSo, SimCell, sim_cell}
use Rattle.cell_runs.specs.Cells.{AllKept, IsSimulated, Ran}
use Rattle.cell_runs.specs.Runs.{Kept, Simulates, kept, limits_of as limits_in, opening_of}
use Rattle.cell_runs.specs.declared.inputs.Inputs.{Inputs}
use Rattle.cell_runs.specs.Rounds.{IsRun}
use Rattle.cell_world.specs.FailCell.{AllLast}
use Rattle.cell_world.specs.FailRuns.{opened_with}
use Rattle.cell_world.specs.OneRun.{moment_of}
use Rattle.cell_world.specs.Running.{Allows, opened}
use Rattle.cell_world.specs.Whole.{opening_for}
use Rattle.cell_world.proofs.FailRuns.{run_with_failing}
use Rattle.cell_world.proofs.Fair.{one_long, settings_are_fair}
use Rattle.cell_world.proofs.Long.{further_then}
use Rattle.cell_world.proofs.OneRun.{not_ordinary}
use Rattle.cell_world.proofs.Simulating.{IsFaultless, faultless, written}
use Rattle.cell_calm.specs.Calm.{HasRoom, is_calm}
use Rattle.cell_calm.specs.Healthy.{HealthyRunsFinish, AllForged, HasTime, Finishes, WrittenRunsFinish}
use Rattle.cell_calm.proofs.Paces.{IsKnownAt, PacedAt, paces}
use Rattle.cell_calm.proofs.Quickens.{AreBrief}
use Rattle.cell_calm.proofs.Refused.{calm_length, calm_room}
use Rattle.cell_calm.proofs.Runs.{finished_whole, never_full, never_stalled, run_calm}
use Rattle.cell_calm.proofs.Undeclared.{none_declared, stands_long, stands_tame}

other_end : (h : Halt) (x : End) → end_of h ≡ end.TurnLimit → end_of h ≡ x → x ≢ end.TurnLimit → ⊥
other_end h x is that none = none (sym that ∙ is)

-- its rounds don't run out where as many are left as its entries take
module _ (l : BookLimits) (p : Plan) (ds : Durations) (faults : List PlannedFault) (are : AllLast faults) (most n : ℕ)
    (few : AreBrief faults p most) (three : 3 ≤ most) (time : most * n < p.turns) (k : Unkept)
    (known : (t : Stand SimCell Unkept)
    → Leads AnswersSo AllKept (terms_of l p false) (start (opened_with p ds faults) k [] [] None) t
    → IsKnownAt (terms_of l p false) faults most (moment_of t)) where
  pub never_tired : (h : Halt) (new : SimCell) (j : Unkept) (J : List Entry) → length J ≤ n
      → Halts AnswersSo AllKept (terms_of l p false) (start (opened_with p ds faults) k [] [] None) h new j J
      → end_of h ≡ end.TurnLimit → ⊥
  never_tired h new j J long (breaks t leads here has) is =
      let T = terms_of l p false in
      not_ordinary t.place.point (Over h) here (paces T faults are most few three refl ds k known t leads).0.point refl
  never_tired h new j J long (lacks t leads ends unbooked has) is =
      other_end h end.Memory is (ap end_of ends) (λ x. cc x)
  never_tired h new j J long (fills t leads ends away has) is =
      other_end h end.Full is (ap end_of ends) (λ x. cc x)
  never_tired h new j J long (rests t e leads ends rest has) is =
      at_rest rest.rest.either
    where
      at_rest : (e ≡ end.Finished) ⊎ ((e ≡ end.Stalled) × (false ≡ false)) → ⊥
      at_rest (inl x) =
          other_end h e is (ap end_of ends) (λ y. let z : end.Finished ≡ end.TurnLimit = sym x ∙ y in cc z)
      at_rest (inr x) =
          other_end h e is (ap end_of ends) (λ y. let z : end.Stalled ≡ end.TurnLimit = sym x.0 ∙ y in cc z)
  never_tired h new j J long (tires t leads ends here rounds has) is =
      let T = terms_of l p false in
      let paced = (paces T faults are most few three refl ds k known t leads).1 in
      let steady = subst (λ (x : Point). PacedAt most p x t.place.rounds t.place.begun t.now.journal t.now.minds) here
      paced in
      let enough = steady.enough in
      let short : length t.now.journal ≤ n = subst (λ (K : List Entry). length K ≤ n) (sym has.2) long in
      let less = mul-le-mul_left most short in
      omega (arith, enough, less, time, rounds)

-- WHERE NO FAULT IS PLANNED

-- a motion takes three readings at least
three_at_least : (p : Plan) (ds : Durations) (most : ℕ) → HasTime p ds most → 3 ≤ most
three_at_least p ds most time = let few = time.readings axis.FeedBelt pose.ToEnd in omega (arith, few)

healthy_known : (l : BookLimits) (p : Plan) (ds : Durations) (most : ℕ) (k : Unkept) (t : Stand SimCell Unkept)
    → Allows p ds → HasRoom l p.plates → HasTime p ds most
    → Leads AnswersSo AllKept (terms_of l p false) (start (opened p ds) k [] [] None) t
    → IsKnownAt (terms_of l p false) [] most (moment_of t)
healthy_known l p ds most k t fair room time leads =
    let T = terms_of l p false in
    let was = (stands_tame T ds [] k tt fair t leads).1 in
    let long = stands_long T ds k t fair leads in
    record {
      lines = was.0;
      booked = (run_with_failing T ds [] t tt fair (k, leads)).cell;
      tame = was.1.1;
      room = calm_room l p room t.now.journal was.1.1;
      short = λ b to. subst (λ (n : ℕ). n + 3 ≤ most)
          (sym (further_then (opening_for p ds) t.cell.world b to long)) (time.readings b to);
    }

pub healthy_runs_finish : HealthyRunsFinish
healthy_runs_finish l p ds most new J e fair room time sim memory = go e refl
  where
    calm : is_calm J ≡ true
    calm = none_declared l p ds new J e fair sim.ran

    run_as : (x : End) → e ≡ x → IsRun l p [] J x
    run_as x is = subst (λ (y : End). IsRun l p [] J y) is sim.run

    go : (x : End) → e ≡ x → (e ≡ end.Finished) × AllForged p.plates J
    go end.Finished is =
        (is, (finished_whole l p room [] J calm (run_as end.Finished is)).1)
    go end.Stalled is = absurd (never_stalled l p room [] J calm (run_as end.Stalled is))
    go end.Full is = absurd (never_full l p room [] J calm (run_as end.Full is))
    go end.Memory is = absurd (memory is)
    go end.TurnLimit is = absurd (tired sim.ran)
      where
        tired : Ran AnswersSo l p (opened p ds) [] [] new J e → ⊥
        tired (h, k, j, ends, halts) =
            never_tired l p ds [] tt most (76 * p.plates) (λ a planned. cc planned)
            (three_at_least p ds most time) time.rounds k
            (λ t leads. healthy_known l p ds most k t fair room time leads) h new j J
            (calm_length l p room J (run_calm l p room [] J calm e sim.run)) halts (sym ends ∙ is)

-- THE RUN THAT IS WRITTEN

-- a run by these durations and faults without a script
pub simulated_so : (i : Inputs) (ds : Durations) (faults : List PlannedFault) (J : List Entry) (e : End)
    (left : SimCell) → i.durations ≡ ds → i.faults ≡ faults → i.script ≡ []
    → IsSimulated (limits_in i.plan) i.plan (sim_cell (opening_of i) i.faults) [] i.script left J e
    → IsSimulated (limits_in i.plan) i.plan (opened_with i.plan ds faults) [] [] left J e
simulated_so i ds faults J e left long same quiet sim =
    let p = i.plan in let l = limits_in p in
    subst (λ (ls : List Line). IsSimulated l p (opened_with p ds faults) [] ls left J e) quiet
    (subst (λ (fs : List PlannedFault). IsSimulated l p (opened_with p ds fs) [] i.script left J e) same
    (subst (λ (d : Durations). IsSimulated l p (opened_with p d i.faults) [] i.script left J e) long sim))

finishes_so : (i : Inputs) (J : List Entry) (e : End) → IsFaultless i one_each [] → Allows i.plan one_each
    → Simulates i (opening_of i) [] J e → (is_calm J ≡ true) × Finishes (kept J e i.plan)
finishes_so i J e t fair (left, sim) =
    let p = i.plan in let l = limits_in p in
    let so = simulated_so i one_each [] J e left t.long t.faults t.script sim in (
      none_declared l p one_each left J e fair so.ran,
      λ room time memory. healthy_runs_finish l p one_each 3 left J e fair
          (record { entries = room; plates = omega arith })
          (record { readings = λ a to. let few = one_long a to in omega (arith, few); rounds = omega (arith, time) }) so
          memory,
    )

pub written_runs_finish : WrittenRunsFinish
written_runs_finish settings faults operator journal old new status run none quiet (Ok i, read, writes) =
    let t = faultless faults operator i one_each [] read.1 read.0.1 read.0.2 none quiet in
    written (λ (r : Kept). (is_calm r.entries ≡ true) × Finishes r) i journal old new status run
    (λ J e leads. finishes_so i J e t (settings_are_fair settings i.plan read.0.0) leads) writes
written_runs_finish settings faults operator journal old new status run none quiet (Err e, read, writes) =
    subst (λ (r : Option Kept). IfSome r (λ (x : Kept). (is_calm x.entries ≡ true) × Finishes x)) (sym writes.1) tt
