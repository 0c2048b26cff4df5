-- What is printed of a run, and the status with which it ends
use Rattle.std.specs.Prelude.{◌≡◌, ◌⊎◌, ℕ, Bool, true, false, List, [], ◌∷◌, ◌++◌, Option, Some, None, Result, Ok, Err}
use Rattle.std.specs.Prelude.{codes}
use Rattle.std.specs.Io.KnownBytes.{Appends}
use Rattle.cell_types.specs.declared.words.Entry.{Entry}
use Rattle.cell_types.specs.declared.words.Totals.{Totals}
use Rattle.cell_rules.specs.Views.{count_of}
use Rattle.cell_rules.specs.declared.limits.BookLimits.{BookLimits}
use Rattle.cell_ports.specs.declared.plan.Plan.{Plan}
pub use Rattle.cell_turns.specs.Books.{limits_of}
use Rattle.cell_workers.specs.Report.{IsReport}
use Rattle.cell_workers.specs.declared.ends.End.{End}
use Rattle.cell_workers.specs.declared.ends.End.TheVariants as end
use Rattle.cell_workers.specs.declared.running.RunError.{RunError}
use Rattle.cell_workers.specs.declared.running.RunError.TheVariants as error
use Rattle.operator_desk.specs.declared.line.Line.{Line}
use Rattle.cell_audit.specs.Text.{text_of}
use Rattle.cell_output.specs.Watched.{WritesPart}
use Rattle.cell_output.specs.Numbers.{number_line}
use Rattle.cell_measures.specs.declared.durations.Durations.{Durations}
use Rattle.cell_sim.specs.Simulated.{Simulated, opening_with}
use Rattle.cell_sim.specs.Takeover.{left_by}
use Rattle.sim_plant.specs.Answers.{SimCell, sim_cell}
use Rattle.cell_runs.specs.Cells.{IsSimulated}
use Rattle.cell_runs.specs.Inputs.{AreRead, WritesError, input_line, input_status}
use Rattle.cell_runs.specs.declared.inputs.Inputs.{Inputs}
use Rattle.cell_runs.specs.declared.inputs.InputError.{InputError}
use Rattle.cell_runs.specs.declared.texts.KeptRun.{KeptRun}
use Rattle.cell_runs.specs.declared.texts.Left.{Left}
use Rattle.cell_runs.specs.declared.texts.Left.TheVariants as left
use Rattle.cell_runs.specs.declared.texts.Mode.{Mode}
use Rattle.cell_runs.specs.declared.texts.Mode.TheVariants as mode

abbrev pub word_of : End → List ℕ
word_of end.Finished = codes "finished"
word_of end.Stalled = codes "stalled"
word_of end.TurnLimit = codes "turn limit"
word_of end.Memory = codes "memory"
word_of end.Full = codes "full"

abbrev pub status_of : End → ℕ
status_of end.Finished = 0
status_of end.Stalled = 1
status_of end.TurnLimit = 1
status_of end.Memory = 4
status_of end.Full = 1

-- a first line, and the lines of these totals
abbrev pub counts_after : List ℕ → Totals → List ℕ
counts_after first t =
    (first ++ 10 ∷ []) ++ (number_line (codes "admitted") t.admitted ++ (number_line (codes "forged") t.forged
    ++ (number_line (codes "quarantined") t.quarantined ++ number_line (codes "delivered") t.delivered)))

-- the lines of a run that ended so and counted these totals
abbrev pub run_lines : End → Totals → List ℕ
run_lines e t = counts_after (word_of e) t

-- what is printed of a run with this journal: its lines, or the journal's text alone
abbrev pub shown : Bool → End → Totals → List Entry → List ℕ
shown false e t J = run_lines e t
shown true e t J = text_of J

-- it was printed, and the status is the end's
abbrev pub Prints : Bool → End → Totals → List Entry → Option (List ℕ) → Option (List ℕ) → ℕ → Type 0
Prints journal e t J old new status = Appends old new (shown journal e t J) × (status ≡ status_of e)

-- a first part of it was printed, and not all, since memory was refused on the way, and the status says so
abbrev pub StopsPrinting : Bool → End → Totals → List Entry → Option (List ℕ) → Option (List ℕ) → ℕ → Type 0
StopsPrinting journal e t J old new status = WritesPart old new (shown journal e t J) × (status ≡ 4)

abbrev pub PrintsOrStops : Bool → End → Totals → List Entry → Option (List ℕ) → Option (List ℕ) → ℕ → Type 0
PrintsOrStops journal e t J old new status = Prints journal e t J old new status
    ⊎ StopsPrinting journal e t J old new status

-- what is kept of a run: its journal, how it ended, and its plan
pub record Kept : Type 0 where
  pub entries : List Entry
  pub end : End
  pub plan : Plan

abbrev pub kept : List Entry → End → Plan → Kept
kept J e plan = record { entries = J; end = e; plan = plan }

-- the same of a run that was kept
abbrev pub kept_run : KeptRun → Kept
kept_run run = kept run.journal.entries run.end run.plan

-- what is kept, where something is
abbrev pub kept_of : Left → Option Kept
kept_of (left.Run run) = Some (kept_run run)
kept_of left.NoThread = None
kept_of left.Nothing = None

-- where a run is left out for want of a thread nothing was written, with the status of want of memory
abbrev pub LacksThread : Left → Option (List ℕ) → Option (List ℕ) → ℕ → Type 0
LacksThread what old new status = what ≡ left.NoThread → WritesError old new [] 4 status

-- a run of which this holds was printed, and it is kept; or memory was refused before it, and nothing was written
abbrev pub WritesSome : (List Entry → End → Type 0) → Bool → Plan → Option (List ℕ) → Option (List ℕ) → ℕ
    → Option Kept → Type 0
WritesSome Leads journal plan old new status run =
    ((e : End) × (J : List Entry) × Leads J e × PrintsOrStops journal e (count_of J) J old new status
    × (run ≡ Some (kept J e plan)))
    ⊎ (WritesError old new [] 4 status × (run ≡ None))

-- a first part of what is printed of such a run was written, and not all of it
abbrev pub PartOfSome : (List Entry → End → Type 0) → Bool → Option (List ℕ) → Option (List ℕ) → Type 0
PartOfSome Leads journal old new =
    (e : End) × (J : List Entry) × Leads J e × WritesPart old new (shown journal e (count_of J) J)

-- the simulated cell in rounds leads from a world and a journal, by what the texts of a run say, to this journal and
-- this end
abbrev pub Simulates : Inputs → Simulated → List Entry → List Entry → End → Type 0
Simulates inputs world before J e =
    (left : SimCell) × IsSimulated (limits_of inputs.plan) inputs.plan (sim_cell world inputs.faults) before
    inputs.script left J e

-- the world in which a run begins with no journal before it
abbrev pub opening_of : Inputs → Simulated
opening_of inputs = record (opening_with inputs.plan.plates) { durations = inputs.durations }

-- and where a journal leaves it
abbrev pub world_after : Inputs → List Entry → Simulated
world_after inputs before = left_by before inputs.plan.plates inputs.durations

-- a run on one thread, from the opening on
abbrev pub WritesRounds : Bool → Inputs → Option (List ℕ) → Option (List ℕ) → ℕ → Option Kept → Type 0
WritesRounds journal inputs old new status run =
    WritesSome (Simulates inputs (opening_of inputs) []) journal inputs.plan old new status run

abbrev pub PartOfRounds : Bool → Inputs → Option (List ℕ) → Option (List ℕ) → Type 0
PartOfRounds journal inputs old new = PartOfSome (Simulates inputs (opening_of inputs) []) journal old new

-- the same from a journal on
abbrev pub WritesRoundsFrom : List Entry → Bool → Inputs → Option (List ℕ) → Option (List ℕ) → ℕ → Option Kept → Type 0
WritesRoundsFrom before journal inputs old new status run =
    WritesSome (Simulates inputs (world_after inputs before) before) journal inputs.plan old new status run

abbrev pub PartOfRoundsFrom : List Entry → Bool → Inputs → Option (List ℕ) → Option (List ℕ) → Type 0
PartOfRoundsFrom before journal inputs old new =
    PartOfSome (Simulates inputs (world_after inputs before) before) journal old new

-- the line where some actor's entries in the journal aren't its worker's
abbrev pub disagrees_line : List ℕ
disagrees_line = codes "journal disagrees\n"

-- what is printed where there is no report
abbrev pub WritesRunError : Option (List ℕ) → Option (List ℕ) → RunError → ℕ → Type 0
WritesRunError old new error.OutOfMemory status = WritesError old new [] 4 status
WritesRunError old new error.ThreadRefused status = WritesError old new [] 4 status
WritesRunError old new error.JournalDisagrees status = WritesError old new disagrees_line 1 status

-- a run on threads by this plan and this script of the operator has a report, which is printed with the run's end, and
-- it is kept; or why there is none is told
abbrev pub WritesReport : Bool → Plan → List Line → Option (List ℕ) → Option (List ℕ) → ℕ → Option Kept → Type 0
WritesReport journal plan script old new status run =
    ((e : End) × (J : List Entry) × (t : Totals) × (ws : List (List Entry × Totals))
    × IsReport (limits_of plan) script J t ws × PrintsOrStops journal e t J old new status
    × (run ≡ Some (kept J e plan)))
    ⊎ ((why : RunError) × WritesRunError old new why status × (run ≡ None))

-- a first part of what is printed of a report, or of the line where there is none, was written, and not all of it
abbrev pub PartOfReport : Bool → BookLimits → List Line → Option (List ℕ) → Option (List ℕ) → Type 0
PartOfReport journal limits script old new =
    ((e : End) × (J : List Entry) × (t : Totals) × (ws : List (List Entry × Totals)) × IsReport limits script J t ws
    × WritesPart old new (shown journal e t J))
    ⊎ WritesPart old new disagrees_line

-- how a run is led, on threads or not
abbrev pub mode_of : Bool → Mode
mode_of false = mode.Rounds
mode_of true = mode.Threads

abbrev pub WritesRun : Mode → Bool → Inputs → Option (List ℕ) → Option (List ℕ) → ℕ → Option Kept → Type 0
WritesRun mode.Rounds journal inputs old new status run = WritesRounds journal inputs old new status run
WritesRun mode.Threads journal inputs old new status run =
    WritesReport journal inputs.plan inputs.script old new status run

abbrev pub PartOfRun : Mode → Bool → Inputs → Option (List ℕ) → Option (List ℕ) → Type 0
PartOfRun mode.Rounds journal inputs old new = PartOfRounds journal inputs old new
PartOfRun mode.Threads journal inputs old new = PartOfReport journal (limits_of inputs.plan) inputs.script old new

-- what is printed where no text is refused, or of the first that is; what is kept of it
abbrev pub WritesInputs : (Inputs → Option (List ℕ) → Option (List ℕ) → ℕ → Option Kept → Type 0) → Option (List ℕ)
    → Option (List ℕ) → ℕ → Option Kept → Result Inputs InputError → Type 0
WritesInputs Writes old new status run (Ok inputs) = Writes inputs old new status run
WritesInputs Writes old new status run (Err e) = WritesError old new (input_line e) (input_status e) status
    × (run ≡ None)

-- the same of these three texts, whose motions take so long: the first that is refused is told in the order settings,
-- faults, operator
abbrev pub KeepsBy : (Inputs → Option (List ℕ) → Option (List ℕ) → ℕ → Option Kept → Type 0) → Durations → List ℕ
    → List ℕ → List ℕ → Option (List ℕ) → Option (List ℕ) → ℕ → Option Kept → Type 0
KeepsBy Writes timing settings faults operator old new status run =
    (inputs : Result Inputs InputError) × AreRead timing settings faults operator inputs
    × WritesInputs Writes old new status run inputs

-- what was written is the line of the first text that is refused, or is of a run of the simulated cell within the
-- settings' limits, on threads or on one, whose journal, end and plan are kept
abbrev pub KeepsRun : Durations → List ℕ → List ℕ → List ℕ → Mode → Bool → Option (List ℕ) → Option (List ℕ) → ℕ
    → Option Kept → Type 0
KeepsRun timing settings faults operator how journal old new status run =
    KeepsBy (WritesRun how journal) timing settings faults operator old new status run

-- the same, and nothing is handed on
abbrev pub TellsRun : Durations → List ℕ → List ℕ → List ℕ → Mode → Bool → Option (List ℕ) → Option (List ℕ) → ℕ
    → Type 0
TellsRun timing settings faults operator how journal old new status =
    (run : Option Kept) × KeepsRun timing settings faults operator how journal old new status run

-- a first part of what is printed of these inputs, or of the first text that is refused, was written, and not all of it
abbrev pub PartOfInputs : (Inputs → Option (List ℕ) → Option (List ℕ) → Type 0) → Option (List ℕ) → Option (List ℕ)
    → Result Inputs InputError → Type 0
PartOfInputs Part old new (Ok inputs) = Part inputs old new
PartOfInputs Part old new (Err e) = WritesPart old new (input_line e)

abbrev pub TellsPartBy : (Inputs → Option (List ℕ) → Option (List ℕ) → Type 0) → Durations → List ℕ → List ℕ → List ℕ
    → Option (List ℕ) → Option (List ℕ) → Type 0
TellsPartBy Part timing settings faults operator old new =
    (inputs : Result Inputs InputError) × AreRead timing settings faults operator inputs
    × PartOfInputs Part old new inputs

-- a first part of what is printed of these texts was written, and not all of it
abbrev pub TellsPart : Durations → List ℕ → List ℕ → List ℕ → Mode → Bool → Option (List ℕ) → Option (List ℕ) → Type 0
TellsPart timing settings faults operator how journal old new =
    TellsPartBy (PartOfRun how journal) timing settings faults operator old new
