-- What is written where a method drives the cell by the texts of a run
use Rattle.std.specs.Prelude.{◌≡◌, ◌⊎◌, ◌<◌, ◌++◌, ℕ, Bool, true, false, List, [], Option, Some, None, Result}
use Rattle.std.specs.Prelude.{Ok, Err, option_map}
use Rattle.std.specs.Io.KnownBytes.{Appends}
use Rattle.cell_types.specs.declared.words.Entry.{Entry}
use Rattle.cell_rules.specs.Legal.{legal}
use Rattle.cell_rules.specs.Views.{count_of}
use Rattle.cell_ports.specs.declared.plan.Plan.{Plan}
use Rattle.cell_ports.specs.Logs.{no_acts, no_log}
use Rattle.cell_turns.specs.Six.{each}
use Rattle.operator_desk.specs.declared.line.Line.{Line}
use Rattle.cell_method.specs.Lines.{Row, lines_of}
use Rattle.cell_method.specs.Order.{Point, between}
use Rattle.cell_method.specs.Rounds.{EndsAs, Leads, Stand, entry_lines}
use Rattle.cell_method.specs.declared.rounds.DriveEnd.{DriveEnd}
use Rattle.cell_runs.specs.Inputs.{AreInputs, WritesError, input_line, input_status}
use Rattle.cell_runs.specs.Runs.{limits_of}
use Rattle.cell_runs.specs.RunsFrom.{TellsExceeded}
use Rattle.cell_runs.specs.declared.inputs.Inputs.{Inputs}
use Rattle.cell_runs.specs.declared.inputs.InputError.{InputError}
use Rattle.cell_drive.specs.Raw.{DrivesRaw}
pub use Rattle.cell_drive.specs.Ends.{EndStatus, drive_line, end_lines, end_words}

-- where a run by entries starts: these entries are booked, the ports and hands tell nothing, and the operator's script
-- is whole
abbrev pub opening : List Entry → List Line → Stand
opening J script = record {
  journal = J;
  logs = each (λ m. no_log);
  lines = script;
  hands = no_acts;
  lost = false;
  rounds = 0;
  text = [];
}

-- the method's lines are read, where they are known
abbrev pub lines_in : Option (List ℕ) → Option (List (Option Row))
lines_in input = option_map lines_of input

-- what is told of a run that ended so, with this journal: its end, what the journal counts, and then what was measured
abbrev pub TellsEnd : DriveEnd → List Entry → List ℕ → Type 0
TellsEnd e J text = (more : List ℕ) × (text ≡ end_lines e (count_of J) ++ more)

-- a run by entries that goes on from this journal: events led from the opening to its end and to a legal journal, and
-- what was written is the first line, the entries of the journal, the text of these events and what is told of the run,
-- with the status of that end
pub record DrivesEntries (plan : Plan) (script : List Line) (J : List Entry) (all : Option (List (Option Row)))
    (old new : Option (List ℕ)) (status : ℕ) : Type 0 where
  pub after : Stand
  pub left : Option (List (Option Row))
  pub to : Point
  pub leads : Leads (limits_of plan) (opening J script) after between to all left
  pub legal : legal (limits_of plan) after.journal ≡ true
  pub ended : DriveEnd
  pub ends : EndsAs plan after to all left ended
  pub with_status : EndStatus ended status
  pub told : List ℕ
  pub tells : TellsEnd ended after.journal told
  pub text : Appends old new (drive_line plan ++ (entry_lines J ++ (after.text ++ told)))

-- a run that goes on from this journal, or the line of the first entry of it that the plan's limits refuse
abbrev pub DrivesAfter : Plan → List Line → List Entry → Option (List (Option Row)) → Option (List ℕ)
    → Option (List ℕ) → ℕ → Type 0
DrivesAfter plan script J all old new status = DrivesEntries plan script J all old new status
    ⊎ TellsExceeded (limits_of plan) J old new status

-- a run from the opening, or one that goes on from a journal, where there is one
abbrev pub DrivesFrom : Plan → List Line → Option (List Entry) → Option (List (Option Row)) → Option (List ℕ)
    → Option (List ℕ) → ℕ → Type 0
DrivesFrom plan script None all old new status = DrivesEntries plan script [] all old new status
DrivesFrom plan script (Some J) all old new status = DrivesAfter plan script J all old new status

-- what is written by good texts, by commands or by entries
abbrev pub DrivesBy : Bool → Inputs → Option (List Entry) → Option (List (Option Row)) → Option (List ℕ)
    → Option (List ℕ) → ℕ → Type 0
DrivesBy true inputs from all old new status = DrivesRaw inputs from all old new status
DrivesBy false inputs from all old new status = DrivesFrom inputs.plan inputs.script from all old new status

-- what is written by texts; nothing is said of it where a device failed or memory was refused
abbrev pub DrivesInputs : Bool → Option (List Entry) → Option (List ℕ) → Option (List ℕ) → Option (List ℕ) → ℕ
    → Result Inputs InputError → Type 0
DrivesInputs raw from input old new status (Err e) = WritesError old new (input_line e) (input_status e) status
DrivesInputs raw from input old new status (Ok inputs) = status < 3
    → DrivesBy raw inputs from (lines_in input) old new status

-- what is written by the texts of a run and the journal from which it goes on, where there is one, or by the first of
-- them that is refused
abbrev pub DrivesTexts : List ℕ → List ℕ → List ℕ → Bool → Option (List Entry) → Option (List ℕ) → Option (List ℕ)
    → Option (List ℕ) → ℕ → Type 0
DrivesTexts settings faults operator raw from input old new status =
    (inputs : Result Inputs InputError) × AreInputs settings faults operator inputs
    × DrivesInputs raw from input old new status inputs
