-- Runs of the simulated cell in which machines may fail by faults that last come to rest, and where it is a press,
-- deliver all plates but one
use Rattle.std.proofs.Common.{◌≡◌, ◌≤◌, ◌+◌, ◌*◌, ◌⊎◌, inl, inr, ℕ, Bool, true, false, List, [], length, IfSome}
use Rattle.std.proofs.Common.{Option, None, Ok, Err, refl, sym, ◌∙◌, subst, arith}
use Rattle.std.specs.Prelude.{nat_le}
use Rattle.cell_types.specs.declared.words.Axis.TheVariants as axis
use Rattle.cell_types.specs.declared.words.Entry.{Entry}
use Rattle.cell_types.specs.declared.words.Machine.{Machine}
use Rattle.cell_types.specs.declared.words.Pose.TheVariants as pose
use Rattle.cell_rules.specs.declared.limits.BookLimits.{BookLimits}
use Rattle.cell_measures.specs.declared.durations.Durations.{Durations}
use Rattle.cell_ports.specs.declared.plan.Plan.{Plan}
use Rattle.cell_progress.specs.Rank.{most_failures}
use Rattle.operator_desk.specs.declared.line.Line.{Line}
use Rattle.cell_plant.specs.declared.keeper.Unkept.{Unkept}
use Rattle.cell_workers.specs.declared.ends.End.{End}
use Rattle.cell_workers.specs.declared.ends.End.TheVariants as end
use Rattle.cell_rounds.specs.Moves.{Leads, terms_of}
use Rattle.cell_rounds.specs.Stands.{Stand, start}
use Rattle.cell_sim.specs.Simulated.{one_each}
use Rattle.cell_sim.specs.declared.fault.PlannedFault.{PlannedFault}
use Rattle.sim_plant.specs.Answers.{AnswersSo, SimCell}
use Rattle.cell_runs.specs.Cells.{AllKept, Ran}
use Rattle.cell_runs.specs.Inputs.{AreFaults, AreLines}
use Rattle.cell_runs.specs.Rounds.{IsRun}
use Rattle.cell_runs.specs.Runs.{Kept, limits_of}
use Rattle.cell_world.specs.FailCell.{AllLast, has_fault}
use Rattle.cell_world.specs.FailRuns.{opened_with}
use Rattle.cell_world.specs.OneRun.{moment_of}
use Rattle.cell_world.specs.Running.{Allows}
use Rattle.cell_world.proofs.FailRuns.{run_with_failing}
use Rattle.cell_world.proofs.Fair.{settings_are_fair}
use Rattle.cell_world.proofs.Simulating.{written}
use Rattle.cell_calm.specs.Calm.{fails_only}
use Rattle.cell_calm.specs.Failing.{DeliversAllButOne, EndsAllButOne, FailingRunsDeliver, FailingRunsEnd, HasTimeFor}
use Rattle.cell_calm.specs.Failing.{KeepsAllButOne, KeptEnds, OnePressRunsEnd, WrittenFailingRunsDeliver}
use Rattle.cell_calm.specs.Failing.{WrittenFailingRunsEnd}
use Rattle.cell_calm.specs.Healthy.{AllForged}
use Rattle.cell_calm.proofs.Finishing.{never_tired, simulated_so}
use Rattle.cell_calm.proofs.Orders.{any_short, failing_short}
use Rattle.cell_calm.proofs.Paces.{IsKnownAt}
use Rattle.cell_calm.proofs.Refused.{any_room, failing_room}
use Rattle.cell_calm.proofs.Runs.{done_forged, failing_finished, failing_never_full, failing_stalled, full_never}
use Rattle.cell_calm.proofs.Tame.{Tame}
use Rattle.cell_calm.proofs.Undeclared.{ran_tame, stands_tame}

run_as : (l : BookLimits) (p : Plan) (J : List Entry) (e x : End) → IsRun l p [] J e → e ≡ x → IsRun l p [] J x
run_as l p J e x run is = subst (λ (y : End). IsRun l p [] J y) is run

pub failing_runs_deliver : FailingRunsDeliver
failing_runs_deliver l p ds faults new J e last one fair room sim =
    let may = has_fault faults in let tame = (ran_tame l p ds faults new J e last fair sim.ran).0 in
    record {
      room = λ is. failing_never_full may one l p room [] J tame (run_as l p J e end.Full sim.run is);
      finished = λ is. (failing_finished may one l p room [] J tame (run_as l p J e end.Finished sim.run is)).1;
      stalled = λ is. (failing_stalled may one l p room [] J tame (run_as l p J e end.Stalled sim.run is)).1;
    }

-- BEFORE THE ROUNDS RUN OUT

-- where the journal has room, and rounds are left whenever it has so many entries
module _ (l : BookLimits) (p : Plan) (ds : Durations) (faults : List PlannedFault) (most n : ℕ) (last : AllLast faults)
    (fair : Allows p ds) (time : HasTimeFor p most n)
    (room : (K : List Entry) → Tame (has_fault faults) l p.plates K → nat_le l.entries (length K) ≡ false)
    (few : (K : List Entry) → Tame (has_fault faults) l p.plates K → length K ≤ n) where
  -- a motion takes three readings at least, so each watch waits for as many
  three : 3 ≤ most
  three =
      let long = (fair axis.FeedBelt pose.ToEnd).1 in let limit = time.limits axis.FeedBelt in
      omega (arith, long, limit)

  known : (k : Unkept) (t : Stand SimCell Unkept)
      → Leads AnswersSo AllKept (terms_of l p false) (start (opened_with p ds faults) k [] [] None) t
      → IsKnownAt (terms_of l p false) faults most (moment_of t)
  known k t leads =
      let T = terms_of l p false in
      let held = run_with_failing T ds faults t last fair (k, leads) in
      let was = (stands_tame T ds faults k last fair t leads).1 in
      record {
        lines = was.0;
        booked = held.cell;
        tame = was.1.1;
        room = room t.now.journal was.1.1;
        short = λ b to. let long = (held.cell.fair b to).1 in let limit = time.limits b in omega (arith, long, limit);
      }

  never_turn_limit : (new : SimCell) (J : List Entry) (e : End)
      → Ran AnswersSo l p (opened_with p ds faults) [] [] new J e → e ≡ end.TurnLimit → ⊥
  never_turn_limit new J e (h, k, j, ends, halts) is =
      never_tired l p ds faults last most n (λ a planned. time.limits a) three time.rounds k (known k) h new j J
      (few J (ran_tame l p ds faults new J e last fair (h, k, j, ends, halts)).1) halts (sym ends ∙ is)

pub failing_runs_end : FailingRunsEnd
failing_runs_end l p ds faults most new J e last fair room time sim memory = go e refl
  where
    may : Machine → Bool
    may = has_fault faults

    within : (K : List Entry) → Tame may l p.plates K → nat_le l.entries (length K) ≡ false
    within = any_room may l p room

    tame : fails_only may J ≡ true
    tame = (ran_tame l p ds faults new J e last fair sim.ran).0

    go : (x : End) → e ≡ x → ((e ≡ end.Finished) × AllForged p.plates J) ⊎ (e ≡ end.Stalled)
    go end.Finished is =
        inl (is, done_forged may l p within room.plates [] J tame (run_as l p J e end.Finished sim.run is))
    go end.Stalled is = inr is
    go end.Full is = absurd (full_never may l p within room.plates [] J tame (run_as l p J e end.Full sim.run is))
    go end.Memory is = absurd (memory is)
    go end.TurnLimit is =
        absurd (never_turn_limit l p ds faults most (76 * p.plates + most_failures may) last fair time within
        (λ K c. any_short may p.plates K p.plates_in_range.1 c.possible) new J e sim.ran is)

pub one_press_runs_end : OnePressRunsEnd
one_press_runs_end l p ds faults most new J e last one fair room time sim memory = go e refl
  where
    delivers : DeliversAllButOne p.plates J e
    delivers = failing_runs_deliver l p ds faults new J e last one fair room sim

    may : Machine → Bool
    may = has_fault faults

    go : (x : End) → e ≡ x → EndsAllButOne p.plates J e
    go end.Finished is = inl (is, delivers.finished is)
    go end.Stalled is = inr (is, delivers.stalled is)
    go end.Full is = absurd (delivers.room is)
    go end.Memory is = absurd (memory is)
    go end.TurnLimit is =
        absurd (never_turn_limit l p ds faults most (76 * p.plates + 10) last fair time (failing_room may l p one room)
        (λ K c. failing_short may one p.plates K p.plates_in_range.1 c.possible) new J e sim.ran is)

-- THE RUN THAT IS WRITTEN

same_faults : (text : List ℕ) (xs ys : List PlannedFault) → AreFaults text xs → AreFaults text ys → xs ≡ ys
same_faults text xs ys h k = cc

same_lines : (text : List ℕ) (xs ys : List Line) → AreLines text xs → AreLines text ys → xs ≡ ys
same_lines text xs ys h k = cc

pub written_failing_runs_deliver : WrittenFailingRunsDeliver
written_failing_runs_deliver planned settings faults operator journal old new status run last one these quiet
    (Ok i, read, writes) =
    written KeepsAllButOne i journal old new status run
    (λ J e leads room. failing_runs_deliver (limits_of i.plan) i.plan one_each planned leads.0 J e last one
    (settings_are_fair settings i.plan read.0.0) (record { entries = room; plates = omega arith })
    (simulated_so i one_each planned J e leads.0 read.1
    (same_faults faults i.faults planned read.0.1 these) (same_lines operator i.script [] read.0.2 quiet)
    leads.1)) writes
written_failing_runs_deliver planned settings faults operator journal old new status run last one these quiet
    (Err e, read, writes) =
    subst (λ (r : Option Kept). IfSome r KeepsAllButOne) (sym writes.1) tt

pub written_failing_runs_end : WrittenFailingRunsEnd
written_failing_runs_end planned settings faults operator journal old new status run last one these quiet
    (Ok i, read, writes) =
    written KeptEnds i journal old new status run
    (λ J e leads most room time memory. one_press_runs_end (limits_of i.plan) i.plan one_each planned most leads.0 J e
    last one (settings_are_fair settings i.plan read.0.0) (record { entries = room; plates = omega arith }) time
    (simulated_so i one_each planned J e leads.0 read.1
    (same_faults faults i.faults planned read.0.1 these) (same_lines operator i.script [] read.0.2 quiet)
    leads.1) memory) writes
written_failing_runs_end planned settings faults operator journal old new status run last one these quiet
    (Err e, read, writes) =
    subst (λ (r : Option Kept). IfSome r KeptEnds) (sym writes.1) tt
