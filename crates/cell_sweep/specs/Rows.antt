-- What is told of each run of a sweep
use Rattle.std.specs.Prelude.{◌≡◌, ◌==◌, ℕ, Bool, true, false, List, [], ◌∷◌, ◌++◌, Option, Some, None, Ok, Err}
use Rattle.std.specs.Prelude.{◌-◌, codes, decimal, if◌then◌else◌, length, map, replicate, take, ⊤}
use Rattle.std.specs.List.{flat_map}
use Rattle.std.specs.Io.KnownBytes.{Appends}
use Rattle.cell_types.specs.declared.words.Entry.{Entry}
use Rattle.cell_types.specs.declared.words.Totals.{Totals}
use Rattle.cell_types.specs.Texts.{axis_word}
use Rattle.cell_rules.specs.Views.{count_of}
use Rattle.cell_ports.specs.declared.plan.Plan.{Plan}
use Rattle.cell_sim.specs.declared.fault.Fault.{Fault}
use Rattle.cell_sim.specs.declared.fault.PlannedFault.{PlannedFault}
use Rattle.cell_workers.specs.declared.ends.End.{End}
use Rattle.cell_sim.specs.Simulated.{opening_with}
use Rattle.sim_plant.specs.Answers.{SimCell, sim_cell}
use Rattle.cell_runs.specs.Cells.{IsSimulated}
use Rattle.cell_runs.specs.Inputs.{AreInputs}
use Rattle.cell_runs.specs.Runs.{limits_of, word_of as end_word}
use Rattle.cell_runs.specs.declared.inputs.Inputs.{Inputs}
use Rattle.cell_runs.specs.declared.inputs.InputError.{InputError}
use Rattle.cell_explain.specs.Endings.{IsUndone, ending_of}
use Rattle.cell_measures.specs.Sums.{last_of}
use Rattle.cell_measures.specs.Times.{times}
use Rattle.cell_measures.specs.declared.durations.Durations.{Durations}
use Rattle.cell_sweep.specs.declared.runs.NoRun.{NoRun}
use Rattle.cell_sweep.specs.declared.runs.NoRun.TheVariants as none
use Rattle.cell_sim.specs.Spelled.{readings_of, word_of}
use Rattle.cell_sweep.specs.Cases.{text_of}
use Rattle.cell_sweep.specs.declared.choice.Choice.{Choice}
use Rattle.cell_sweep.specs.declared.choice.Choice.TheVariants as choice
use Rattle.cell_sweep.specs.declared.choice.Part.{Part}
use Rattle.cell_sweep.specs.declared.form.Form.{Form}
use Rattle.cell_sweep.specs.declared.form.Form.TheVariants as form

-- what is told of a run
pub record Told : Type 0 where
  pub faults : List PlannedFault
  pub end : End
  pub totals : Totals
  pub time : ℕ
  pub waits : List ℕ

-- a run of the simulated cell by these three texts, none of which is refused, with the faults that they say, leads by
-- this plan from the opening to this journal and this end
abbrev pub RunsTo : List ℕ → List ℕ → List ℕ → Plan → List Entry → End → Type 0
RunsTo settings faults operator plan J e =
    (inputs : Inputs) × AreInputs settings faults operator (Ok inputs) × (inputs.plan ≡ plan)
    × ((left : SimCell) × IsSimulated (limits_of plan) plan (sim_cell (opening_with plan.plates) inputs.faults) []
    inputs.script left J e)

-- why there is no run: a text is refused by an error of which this holds; want of memory says nothing
abbrev pub IsNoRun : (InputError → Type 0) → NoRun → Type 0
IsNoRun P (none.Refused e) = P e
IsNoRun P none.OutOfMemory = ⊤

-- the first of these three texts that is refused has this error
abbrev pub RefusesRun : List ℕ → List ℕ → List ℕ → InputError → Type 0
RefusesRun settings faults operator e = AreInputs settings faults operator (Err e)

-- the first line of a text, without its end
abbrev pub first_line : List ℕ → List ℕ
first_line [] = []
first_line (b ∷ bs) = if b == 10 then [] else b ∷ first_line bs

-- each motion takes one unit of time
abbrev pub ones : Durations
ones = record { rows = replicate 9 (replicate 18 1) }

-- the first line of why a run ended so, with the first line of the operator's script that isn't done
abbrev pub IsWait : List Entry → End → Plan → List ℕ → List ℕ → List ℕ → Type 0
IsWait J e plan faults operator told =
    (n : ℕ) × (at : ℕ) × IsUndone operator J n at × (told ≡ first_line (ending_of J 0 e plan faults operator n at))

-- what is told of a run: its end, its totals, when its last entry ends, and the first line of why it ended so
pub record IsToldOf (t : Told) (operator : List ℕ) (plan : Plan) (J : List Entry) (e : End) : Type 0 where
  pub ended : t.end ≡ e
  pub counted : t.totals ≡ count_of J
  pub time : t.time ≡ last_of (times ones J)
  pub waits : IsWait J e plan (text_of t.faults) operator t.waits

-- what is told is of a run with the faults, by this script of the operator
abbrev pub TellsRun : List ℕ → List ℕ → Told → Type 0
TellsRun settings operator t =
    (plan : Plan) × (J : List Entry) × (e : End) × RunsTo settings (text_of t.faults) operator plan J e
    × IsToldOf t operator plan J e

-- without a service the script of the operator stays as it is
abbrev pub IsScript : Bool → List ℕ → List ℕ → Type 0
IsScript service operator script = service ≡ false → script ≡ operator

-- what is told is of a run with the faults, by the operator's script or by one that serves
abbrev pub TellsServed : List ℕ → List ℕ → Bool → Told → Type 0
TellsServed settings operator service t = (script : List ℕ) × IsScript service operator script
    × TellsRun settings script t

-- a run is refused by this error, by the operator's script or by one that serves
abbrev pub RefusesServed : List ℕ → List ℕ → Bool → List ℕ → InputError → Type 0
RefusesServed settings operator service faults e = (script : List ℕ) × IsScript service operator script
    × RefusesRun settings faults script e

-- a kind with its number of readings, as a list of kinds has it
abbrev pub kind_with : List ℕ → Option ℕ → List ℕ
kind_with word None = word
kind_with word (Some n) = word ++ (58 ∷ decimal n)

abbrev pub kind_text : Fault → List ℕ
kind_text kind = kind_with (word_of kind) (readings_of kind)

-- a byte in quotes: a quote is doubled
abbrev pub quoted_byte : ℕ → List ℕ
quoted_byte b = if b == 34 then 34 ∷ 34 ∷ [] else b ∷ []

-- a text in quotes
abbrev pub quoted : List ℕ → List ℕ
quoted text = 34 ∷ (flat_map quoted_byte text ++ 34 ∷ [])

-- a text in quotes, where there is one
abbrev pub quoted_if_any : List ℕ → List ℕ
quoted_if_any [] = []
quoted_if_any (b ∷ bs) = quoted (b ∷ bs)

-- fields with a comma behind each
abbrev pub with_commas : List (List ℕ) → List ℕ
with_commas [] = []
with_commas (field ∷ fields) = field ++ 44 ∷ with_commas fields

-- the fields of a fault that is alone in its run
abbrev pub fault_fields : PlannedFault → List ℕ
fault_fields f = with_commas (axis_word f.axis ∷ decimal f.motion ∷ kind_text f.fault ∷ [])

-- a line feed as a semicolon
abbrev pub parting : ℕ → ℕ
parting b = if b == 10 then 59 else b

-- the records of a script in one line, with semicolons between them
abbrev pub records_of : List ℕ → List ℕ
records_of text = map parting (take (length text - 1) text)

-- the faults of a run: one in three fields, and else all in one
abbrev pub faults_text : Choice → List PlannedFault → List ℕ
faults_text choice.Single faults = flat_map fault_fields faults
faults_text choice.Pairs faults = with_commas (quoted (records_of (text_of faults)) ∷ [])
faults_text (choice.Random runs n seed) faults = with_commas (quoted (records_of (text_of faults)) ∷ [])

-- the fields behind those of the faults
abbrev pub rest_of_line : Told → List ℕ
rest_of_line t =
    with_commas (end_word t.end ∷ decimal t.totals.admitted ∷ decimal t.totals.forged ∷ decimal t.totals.quarantined
    ∷ decimal t.totals.delivered ∷ decimal t.time ∷ [])
    ++ (quoted_if_any t.waits ++ 10 ∷ [])

-- the rows are written as CSV
abbrev pub is_csv : Form → Bool
is_csv form.Table = false
is_csv form.Csv = true
is_csv form.Chart = false

-- the line of CSV of a run
abbrev pub csv_line : Choice → Told → List ℕ
csv_line choice t = faults_text choice t.faults ++ rest_of_line t

-- what is known of a writer grows by some text
abbrev pub Grows : Option (List ℕ) → Option (List ℕ) → Type 0
Grows old new = (text : List ℕ) × Appends old new text

-- the same, and where it is CSV by this text
abbrev pub GrowsBy : Option (List ℕ) → Option (List ℕ) → Bool → List ℕ → Type 0
GrowsBy old new csv line = (text : List ℕ) × Appends old new text × (csv ≡ true → text ≡ line)

-- the names of the fields of the faults
abbrev pub faults_head : Choice → List ℕ
faults_head choice.Single = codes "axis,motion,kind"
faults_head choice.Pairs = codes "faults"
faults_head (choice.Random runs n seed) = codes "faults"

-- the line of CSV above all runs
abbrev pub csv_head : Choice → List ℕ
csv_head choice = faults_head choice ++ codes ",end,admitted,forged,quarantined,delivered,time,waits_for\n"

-- it stands in the first part
abbrev pub head_of : Choice → Part → List ℕ
head_of choice p = if p.number == 1 then csv_head choice else []
