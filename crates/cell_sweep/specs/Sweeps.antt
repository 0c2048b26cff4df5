-- What is written of a sweep
use Rattle.std.specs.Prelude.{◌≡◌, ◌≤◌, ◌⊎◌, ℕ, Bool, true, List, [], ◌++◌, map, All, Option, Some}
use Rattle.std.specs.Prelude.{None, Result, Ok, Err, length}
use Rattle.std.specs.List.{flat_map}
use Rattle.cell_types.specs.declared.words.Axis.{Axis}
use Rattle.cell_types.specs.declared.words.Entry.{Entry}
use Rattle.cell_ports.specs.declared.plan.Plan.{Plan}
use Rattle.cell_sim.specs.declared.fault.Fault.{Fault}
use Rattle.cell_sim.specs.declared.fault.PlannedFault.{PlannedFault}
use Rattle.cell_workers.specs.declared.ends.End.{End}
use Rattle.cell_runs.specs.Inputs.{AreInputs, WritesError, input_line, input_status}
use Rattle.cell_runs.specs.declared.inputs.Inputs.{Inputs}
use Rattle.cell_runs.specs.declared.inputs.InputError.{InputError}
use Rattle.cell_explain.specs.Missed.{motions_of}
use Rattle.cell_sweep.specs.declared.runs.NoRun.TheVariants as none
use Rattle.cell_sweep.specs.declared.sweep.Stop.{Stop}
use Rattle.cell_sweep.specs.declared.sweep.Sweep.{Sweep}
use Rattle.cell_sweep.specs.declared.sweep.Stop.TheVariants as stop
use Rattle.cell_sweep.specs.declared.choice.Choice.{Choice}
use Rattle.cell_sweep.specs.declared.choice.Part.{Part}
use Rattle.cell_sweep.specs.Cases.{cases_of, most_faults, motions_by, part_of, text_of}
use Rattle.cell_sweep.specs.Rows.{Grows, GrowsBy, IsNoRun, IsScript, RefusesServed, RunsTo, TellsServed, Told, csv_line}
use Rattle.cell_sweep.specs.Rows.{head_of, is_csv}

-- what a sweep goes through, and how it is told
pub record Wanted : Type 0 where
  pub kinds : List Fault
  pub motions : Option ℕ
  pub choice : Choice
  pub part : Part
  pub service : Bool
  pub csv : Bool

abbrev pub wanted : List Fault → Option ℕ → Choice → Part → Bool → Bool → Wanted
wanted kinds motions choice part service csv =
    record { kinds = kinds; motions = motions; choice = choice; part = part; service = service; csv = csv }

abbrev pub wanted_by : Sweep → Wanted
wanted_by s = wanted s.kinds.now s.motions s.choice s.part s.service (is_csv s.form)

-- how many motions of each axis a sweep goes through: a number that is given, or as many as each has in the run without
-- faults
abbrev pub AreCounts : List ℕ → List ℕ → Bool → Option ℕ → (Axis → ℕ) → Type 0
AreCounts settings operator service (Some n) counts = (a : Axis) → counts a ≡ n
AreCounts settings operator service None counts =
    (script : List ℕ) × (plan : Plan) × (J : List Entry) × (e : End)
    × IsScript service operator script × RunsTo settings [] script plan J e × ((a : Axis) → counts a ≡ motions_of J a)

-- each case of the part has one run, in order, and what is told of them is written: as CSV a line above all, and a line
-- of each
pub record Sweeps (settings operator : List ℕ) (w : Wanted) (old new : Option (List ℕ)) : Type 0 where
  pub counts : Axis → ℕ
  pub counted : AreCounts settings operator w.service w.motions counts
  pub runs : List Told
  pub cases : map (λ (t : Told). t.faults) runs ≡ part_of w.part (cases_of w.choice w.kinds (motions_by counts))
  pub told : All (TellsServed settings operator w.service) runs
  pub written : GrowsBy old new w.csv (head_of w.choice w.part ++ flat_map (csv_line w.choice) runs)

-- the script of faults of a run in a sweep: none, or as many faults as a run has at most
abbrev pub IsOfRun : Choice → List ℕ → Type 0
IsOfRun choice text = (faults : List PlannedFault) × (length faults ≤ most_faults choice) × (text ≡ text_of faults)

-- a run of a sweep is refused by this error
abbrev pub RefusesSome : List ℕ → List ℕ → Choice → Bool → InputError → Type 0
RefusesSome settings operator choice service e =
    (faults : List ℕ) × IsOfRun choice faults × RefusesServed settings operator service faults e

-- why a sweep stops: a run is refused, or memory was, or a write
abbrev pub StopsSo : List ℕ → List ℕ → Choice → Bool → Bool → Stop → Type 0
StopsSo settings operator choice service refused (stop.NoRun why) =
    IsNoRun (RefusesSome settings operator choice service) why
StopsSo settings operator choice service refused stop.WriteFault = refused ≡ true

-- what is written at the end of a sweep, and its status
abbrev pub EndsSo : Option (List ℕ) → Option (List ℕ) → Result Unit Stop → ℕ → Type 0
EndsSo old new (Ok done) status = (status ≡ 0) × (new ≡ old)
EndsSo old new (Err (stop.NoRun (none.Refused e))) status = WritesError old new (input_line e) (input_status e) status
EndsSo old new (Err (stop.NoRun none.OutOfMemory)) status = (status ≡ 4) × (new ≡ old)
EndsSo old new (Err stop.WriteFault) status = ⊥

-- a run of a sweep is refused, and that is written as of any run
abbrev pub TellsRefused : List ℕ → List ℕ → Choice → Bool → Option (List ℕ) → Option (List ℕ) → ℕ → Type 0
TellsRefused settings operator choice service old new status =
    (e : InputError) × RefusesSome settings operator choice service e
    × WritesError old new (input_line e) (input_status e) status

-- a part of what is told was written; memory was refused, or a run was, which is told behind that part
abbrev pub BreaksOff : List ℕ → List ℕ → Choice → Bool → Option (List ℕ) → Option (List ℕ) → ℕ → Type 0
BreaksOff settings operator choice service old new status =
    ((status ≡ 4) × Grows old new)
    ⊎ ((part : Option (List ℕ)) × Grows old part × TellsRefused settings operator choice service part new status)

-- the run of a case is told, and its line is written
abbrev pub TellsCase : List ℕ → List ℕ → Wanted → List PlannedFault → Option (List ℕ) → Option (List ℕ) → Type 0
TellsCase settings operator w faults old new =
    (t : Told) × (t.faults ≡ faults) × TellsServed settings operator w.service t
    × GrowsBy old new w.csv (csv_line w.choice t)

-- the runs of these cases are told, and their lines are written
abbrev pub TellsCases : List ℕ → List ℕ → Wanted → List (List PlannedFault) → Option (List ℕ) → Option (List ℕ) → Type 0
TellsCases settings operator w cases old new =
    (runs : List Told) × (map (λ (t : Told). t.faults) runs ≡ cases)
    × All (TellsServed settings operator w.service) runs
    × GrowsBy old new w.csv (flat_map (csv_line w.choice) runs)

-- what is written where no text is refused, or of the first that is
abbrev pub SweepsInputs : List ℕ → List ℕ → Wanted → Option (List ℕ) → Option (List ℕ) → ℕ → Result Inputs InputError
    → Type 0
SweepsInputs settings operator w old new status (Err e) = WritesError old new (input_line e) (input_status e) status
SweepsInputs settings operator w old new status (Ok inputs) =
    ((status ≡ 0) × Sweeps settings operator w old new) ⊎ BreaksOff settings operator w.choice w.service old new status

-- what is written of a sweep by its texts, or of the first that is refused
abbrev pub SweepsTexts : List ℕ → List ℕ → Wanted → Option (List ℕ) → Option (List ℕ) → ℕ → Type 0
SweepsTexts settings operator w old new status =
    (inputs : Result Inputs InputError) × AreInputs settings [] operator inputs
    × SweepsInputs settings operator w old new status inputs
