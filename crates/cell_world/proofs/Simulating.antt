-- The run of which `run_kept` writes in rounds, where its texts have no fault
use Rattle.std.proofs.Common.{◌≡◌, ℕ, Bool, List, [], Option, Ok, Err, inl, inr, refl, sym, subst, IfSome}
use Rattle.cell_types.specs.declared.words.Entry.{Entry}
use Rattle.cell_measures.specs.declared.durations.Durations.{Durations}
use Rattle.cell_rows.specs.Rows.{rows_of}
use Rattle.cell_rows.specs.Scripts.{lines_of}
use Rattle.cell_workers.specs.declared.ends.End.{End}
use Rattle.operator_desk.specs.Lines.{line_of}
use Rattle.operator_desk.specs.declared.line.Line.{Line}
use Rattle.cell_sim.specs.Script.{next_fault}
use Rattle.cell_sim.specs.Simulated.{one_each}
use Rattle.cell_sim.specs.declared.fault.PlannedFault.{PlannedFault}
use Rattle.sim_plant.specs.Answers.{AnswersSo, SimCell, sim_cell}
use Rattle.cell_runs.specs.Cells.{Ran}
use Rattle.cell_runs.specs.Runs.{Kept, Simulates, WritesRounds, kept, limits_of, opening_of}
use Rattle.cell_runs.specs.declared.inputs.Inputs.{Inputs}
use Rattle.cell_world.specs.Running.{Allows}
use Rattle.cell_world.specs.Simulating.{LeavesBooked, LeavesServed, OpensSo, ServedRunIsWorld, ServedTextIsWorld}
use Rattle.cell_world.specs.Simulating.{TextIsWorld}
use Rattle.cell_world.specs.Simulating.{TimedTextIsWorld}
use Rattle.cell_world.specs.StopRuns.{AreServices}
use Rattle.cell_world.specs.Whole.{opening_for}
use Rattle.cell_world.proofs.Fair.{same_read, settings_are_fair}
use Rattle.cell_world.proofs.Running.{end_is_world, none_collides}
use Rattle.cell_world.proofs.StopRuns.{end_with_stops, none_collides_by_stops}

pub opens_so : OpensSo
opens_so inputs = refl

-- what the texts say
pub record IsFaultless (i : Inputs) (ds : Durations) (lines : List Line) : Type 0 where
  pub long : i.durations ≡ ds
  pub faults : i.faults ≡ []
  pub script : i.script ≡ lines

-- a run by these durations, faults and lines
pub ran_so : (i : Inputs) (ds : Durations) (faults : List PlannedFault) (lines : List Line) (J : List Entry) (e : End)
    (left : SimCell) → i.durations ≡ ds → i.faults ≡ faults → i.script ≡ lines
    → Ran AnswersSo (limits_of i.plan) i.plan (sim_cell (opening_of i) i.faults) [] i.script left J e
    → Ran AnswersSo (limits_of i.plan) i.plan (sim_cell (opening_for i.plan ds) faults) [] lines left J e
ran_so i ds faults lines J e left long same script ran =
    let p = i.plan in let l = limits_of p in
    subst (λ (ls : List Line). Ran AnswersSo l p (sim_cell (opening_for p ds) faults) [] ls left J e) script
    (subst (λ (fs : List PlannedFault). Ran AnswersSo l p (sim_cell (opening_for p ds) fs) [] i.script left J e) same
    (subst (λ (d : Durations). Ran AnswersSo l p (sim_cell (opening_for p d) i.faults) [] i.script left J e) long ran))

simulated : (i : Inputs) (ds : Durations) (J : List Entry) (e : End) → IsFaultless i ds [] → Allows i.plan ds
    → Simulates i (opening_of i) [] J e → LeavesBooked ds (kept J e i.plan)
simulated i ds J e t fair (left, sim) =
    let p = i.plan in let l = limits_of p in
    let ran = ran_so i ds [] [] J e left t.long t.faults t.script sim.ran in
    record {
      left = left;
      ran = ran;
      collisions = none_collides l p ds left J e fair ran;
      booked = λ memory full. end_is_world l p ds left J e fair ran memory full;
    }

served : (i : Inputs) (ds : Durations) (lines : List Line) (J : List Entry) (e : End) → IsFaultless i ds lines
    → AreServices lines → Allows i.plan ds → Simulates i (opening_of i) [] J e
    → LeavesServed ds lines (kept J e i.plan)
served i ds lines J e t are fair (left, sim) =
    let p = i.plan in let l = limits_of p in
    let ran = ran_so i ds [] lines J e left t.long t.faults t.script sim.ran in
    record {
      left = left;
      ran = ran;
      collisions = none_collides_by_stops l p ds lines left J e fair are ran;
      booked = λ memory full. end_with_stops l p ds lines left J e fair are ran memory full;
    }

-- what is kept of it, under what is known of its plan
pub written : (P : Kept → Type 0) (i : Inputs) (journal : Bool) (old new : Option (List ℕ)) (status : ℕ)
    (run : Option Kept) → ((J : List Entry) (e : End) → Simulates i (opening_of i) [] J e → P (kept J e i.plan))
    → WritesRounds journal i old new status run → IfSome run P
written P i journal old new status run h (inl (e, J, leads, prints, is)) =
    subst (λ (r : Option Kept). IfSome r P) (sym is) (h J e leads)
written P i journal old new status run h (inr (writes, is)) =
    subst (λ (r : Option Kept). IfSome r P) (sym is) tt

pub faultless : (faults operator : List ℕ) (i : Inputs) (ds : Durations) (lines : List Line) → i.durations ≡ ds
    → lines_of next_fault (rows_of faults) ≡ Ok i.faults → lines_of line_of (rows_of operator) ≡ Ok i.script
    → lines_of next_fault (rows_of faults) ≡ Ok [] → lines_of line_of (rows_of operator) ≡ Ok lines
    → IsFaultless i ds lines
faultless faults operator i ds lines long fs ls none script =
    record {
      long = long;
      faults = same_read (lines_of next_fault (rows_of faults)) i.faults [] fs none;
      script = same_read (lines_of line_of (rows_of operator)) i.script lines ls script;
    }

pub timed_text_is_world : TimedTextIsWorld
timed_text_is_world ds settings faults operator journal old new status run none quiet (Ok i, read, writes) =
    let t = faultless faults operator i ds [] read.1 read.0.1 read.0.2 none quiet in
    written (λ (r : Kept). Allows r.plan ds → LeavesBooked ds r) i journal old new status run
    (λ J e leads fair. simulated i ds J e t fair leads) writes
timed_text_is_world ds settings faults operator journal old new status run none quiet (Err e, read, writes) =
    subst (λ (r : Option Kept). IfSome r (λ (x : Kept). Allows x.plan ds → LeavesBooked ds x)) (sym writes.1) tt

pub text_is_world : TextIsWorld
text_is_world settings faults operator journal old new status run none quiet (Ok i, read, writes) =
    let t = faultless faults operator i one_each [] read.1 read.0.1 read.0.2 none quiet in
    written (LeavesBooked one_each) i journal old new status run
    (λ J e leads. simulated i one_each J e t (settings_are_fair settings i.plan read.0.0) leads) writes
text_is_world settings faults operator journal old new status run none quiet (Err e, read, writes) =
    subst (λ (r : Option Kept). IfSome r (LeavesBooked one_each)) (sym writes.1) tt

pub served_text_is_world : ServedTextIsWorld
served_text_is_world ds settings faults operator lines journal old new status run none script are
    (Ok i, read, writes) =
    let t = faultless faults operator i ds lines read.1 read.0.1 read.0.2 none script in
    written (λ (r : Kept). Allows r.plan ds → LeavesServed ds lines r) i journal old new status run
    (λ J e leads fair. served i ds lines J e t are fair leads) writes
served_text_is_world ds settings faults operator lines journal old new status run none script are
    (Err e, read, writes) =
    subst (λ (r : Option Kept). IfSome r (λ (x : Kept). Allows x.plan ds → LeavesServed ds lines x)) (sym writes.1) tt

pub served_run_is_world : ServedRunIsWorld
served_run_is_world settings faults operator lines journal old new status run none script are (Ok i, read, writes) =
    let t = faultless faults operator i one_each lines read.1 read.0.1 read.0.2 none script in
    written (LeavesServed one_each lines) i journal old new status run
    (λ J e leads. served i one_each lines J e t are (settings_are_fair settings i.plan read.0.0) leads) writes
served_run_is_world settings faults operator lines journal old new status run none script are
    (Err e, read, writes) =
    subst (λ (r : Option Kept). IfSome r (LeavesServed one_each lines)) (sym writes.1) tt
