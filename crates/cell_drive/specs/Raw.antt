-- What is written where a method drives the cell by commands
use Rattle.std.specs.Prelude.{◌≡◌, ◌⊎◌, ◌+◌, ◌++◌, ℕ, List, Option, Some, None, position}
use Rattle.std.specs.Io.KnownBytes.{Appends}
use Rattle.cell_types.specs.declared.words.Entry.{Entry}
use Rattle.cell_rules.specs.declared.limits.BookLimits.{BookLimits}
use Rattle.cell_audit.specs.declared.error.AuditError.{AuditError}
use Rattle.cell_rows.specs.declared.script.LineError.TheVariants as error
use Rattle.cell_ports.specs.declared.plan.Plan.{Plan}
use Rattle.cell_sim.specs.Looks.{with_watch}
use Rattle.cell_sim.specs.Simulated.{Simulated}
use Rattle.cell_sim.specs.Takeover.{left_by}
use Rattle.cell_method.specs.Lines.{Row}
use Rattle.cell_method.specs.Rounds.{entry_lines}
use Rattle.cell_method.specs.declared.rounds.DriveEnd.{DriveEnd}
use Rattle.cell_method.specs.declared.rounds.DriveEnd.TheVariants as ends
use Rattle.cell_runs.specs.Inputs.{WritesError, operator_line}
use Rattle.cell_runs.specs.Runs.{limits_of}
use Rattle.cell_runs.specs.RunsFrom.{IsExceeded, TellsExceeded}
use Rattle.cell_runs.specs.declared.inputs.Inputs.{Inputs}
use Rattle.cell_drive.specs.Commanded.{Between, EndsAs, IsSafe, Leads, Point, Stand, counted_in, run_counts, start}
use Rattle.cell_drive.specs.Deeds.{is_expecting}
use Rattle.cell_drive.specs.Ends.{EndStatus, drive_line, end_lines}
use Rattle.cell_drive.specs.Gauged.{watched_of}

-- the watched world in which a run begins: at the opening, or where a journal left the cell
abbrev pub world_in : Inputs → Option (List Entry) → Simulated
world_in inputs None = watched_of inputs
world_in inputs (Some J) = with_watch (left_by J inputs.plan.plates inputs.durations)

-- what is told before the first round: the first line, and the entries of the journal
abbrev pub first_lines : Plan → Option (List Entry) → List ℕ
first_lines plan None = drive_line plan
first_lines plan (Some J) = drive_line plan ++ entry_lines J

-- what is told of a run that ended so: its end, what the world counts, and then what was measured
abbrev pub TellsCommanded : DriveEnd → Stand → List ℕ → Type 0
TellsCommanded ended s text = (more : List ℕ) × (text ≡ end_lines ended (counted_in s.world)
    ++ (run_counts s.rounds s.commands s.world.collisions ++ more))

-- its status: 0 is of one that is finished in a world where no safety rule was broken, and of no other
abbrev pub IsStatusOf : DriveEnd → Simulated → ℕ → Type 0
IsStatusOf ended w status =
    EndStatus ended status × (status ≡ 0 → IsSafe w) × (ended ≡ ends.Finished → IsSafe w → status ≡ 0)

-- a run by commands: events led from this stand to its end, and what was written is these first lines, the text of the
-- events and what is told of the run, with the status of that end
pub record RunsCommands (inputs : Inputs) (s : Stand) (all : Option (List (Option Row))) (first : List ℕ)
    (old new : Option (List ℕ)) (status : ℕ) : Type 0 where
  pub after : Stand
  pub left : Option (List (Option Row))
  pub to : Point
  pub told : List ℕ
  pub leads : Leads inputs.faults s after Between to all left told
  pub ended : DriveEnd
  pub ends : EndsAs inputs.plan after to all left ended
  pub with_status : IsStatusOf ended after.world status
  pub below : List ℕ
  pub tells : TellsCommanded ended after below
  pub text : Appends old new (first ++ (told ++ below))

-- a run from the opening or from where a journal left the cell
abbrev pub DrivesCommands : Inputs → Option (List Entry) → Option (List (Option Row)) → Option (List ℕ)
    → Option (List ℕ) → ℕ → Type 0
DrivesCommands inputs from all old new status =
    RunsCommands inputs (start (world_in inputs from) inputs.script) all (first_lines inputs.plan from) old new status

-- why there is no such world: the limits refuse an entry of the journal, or memory was refused
abbrev pub HasNoWorld : BookLimits → Option (List Entry) → AuditError → Type 0
HasNoWorld l None e = ⊥
HasNoWorld l (Some J) e = IsExceeded l J e

-- that run, or the line of the first entry of the journal that the plan's limits refuse
abbrev pub DrivesWorld : Inputs → Option (List Entry) → Option (List (Option Row)) → Option (List ℕ)
    → Option (List ℕ) → ℕ → Type 0
DrivesWorld inputs None all old new status = DrivesCommands inputs None all old new status
DrivesWorld inputs (Some J) all old new status = DrivesCommands inputs (Some J) all old new status
    ⊎ TellsExceeded (limits_of inputs.plan) J old new status

-- where this line of the operator's script is the first that says that a plate will be laid back, it is refused as
-- unreadable; else there is that run
abbrev pub DrivesScript : Option ℕ → Inputs → Option (List Entry) → Option (List (Option Row)) → Option (List ℕ)
    → Option (List ℕ) → ℕ → Type 0
DrivesScript (Some place) inputs from all old new status =
    WritesError old new (operator_line (error.Unreadable (place + 1))) 1 status
DrivesScript None inputs from all old new status = DrivesWorld inputs from all old new status

abbrev pub DrivesRaw : Inputs → Option (List Entry) → Option (List (Option Row)) → Option (List ℕ)
    → Option (List ℕ) → ℕ → Type 0
DrivesRaw inputs from all old new status =
    DrivesScript (position is_expecting inputs.script) inputs from all old new status
