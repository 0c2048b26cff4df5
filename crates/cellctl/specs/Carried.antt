-- What is written for the words of a command line, and the status with which the program ends
use Rattle.std.specs.Prelude.{◌≡◌, ◌≢◌, ◌⊎◌, ℕ, Bool, true, List, Option, Some, None, Result, Ok, Err, IfOk}
use Rattle.std.specs.Prelude.{MatchResult, ⊤}
use Rattle.std.specs.Borrow.{Bor}
use Rattle.std.specs.Io.KnownBytes.{Appends, Keeps}
use Rattle.clap.specs.Words.{HasKind, Text as Word, kind_of}
use Rattle.clap.specs.declared.error.Error.{Error}
use Rattle.clap.specs.declared.error.kind.ErrorKind.{ErrorKind}
use Rattle.cell_types.specs.declared.words.Entry.{Entry}
use Rattle.cell_output.specs.declared.watched.WriteFault.{WriteFault}
use Rattle.cell_command.specs.Orders.{IsOrdered}
use Rattle.cell_command.specs.Refusals.{refusals}
use Rattle.cell_command.specs.declared.order.Continuing.{Continuing}
use Rattle.cell_command.specs.declared.order.Running.{Running}
use Rattle.cell_command.specs.declared.order.Sweeping.{Sweeping}
use Rattle.cell_command.specs.declared.order.Order.{Order}
use Rattle.cell_command.specs.declared.order.Driving.{Driving}
use Rattle.cell_measures.specs.declared.durations.Durations.{Durations}
use Rattle.cell_drive.specs.Drives.{DrivesTexts}
use Rattle.cell_drive.specs.Measured.{KeepsMeasured}
use Rattle.cell_sim.specs.declared.fault.Fault.{Fault}
use Rattle.cell_sweep.specs.Sweeps.{SweepsTexts, Wanted, wanted}
use Rattle.cell_runs.specs.Runs.{Kept, TellsRun, TellsPart as PartOfRun}
use Rattle.cell_runs.specs.declared.texts.Mode.{Mode}
use Rattle.cell_runs.specs.declared.texts.Mode.TheVariants as modes
use Rattle.cell_runs.specs.RunsFrom.{TellsPartFrom, TellsRunFrom}
use Rattle.cell_runs.specs.Told.{AreEntries, PartOfRefused, TellsFollowed, TellsPartFollowed, TellsRefused}
use Rattle.cell_orders.specs.Listed.{ListsWords}
use Rattle.cell_orders.specs.Measured.{MeasuresWords}
use Rattle.cellctl.specs.Swept.{AreKinds, Asks, AsksNothing, HasNoKind}
use Rattle.cellctl.specs.declared.asked.Asked.{Asked}
use Rattle.cell_orders.specs.Texts.{Audits, ChecksSettings, IsGiven, IsWrong, MigratesText, OfText}
use Rattle.cell_orders.specs.Texts.{TellsTimes, TellsTooLong}
use Rattle.cell_orders.specs.Shows.{ShowsWords}
use Rattle.cell_orders.specs.Explains.{Explains}
use Rattle.cell_orders.specs.Explores.{ExploresWords}
use Rattle.clap.specs.declared.error.kind.ErrorKind.TheVariants as kind
use Rattle.cell_command.specs.declared.order.Order.TheVariants as order

-- the settings are longer than they may be, or the durations of the file that is named are refused
abbrev pub TellsUnfit : Option (Bor (List ℕ)) → Option (List ℕ) → Option (List ℕ) → Result ℕ WriteFault → Type 0
TellsUnfit times old new written = TellsTooLong old new written ⊎ (IsGiven times × TellsTimes old new written)

-- what a run by some texts writes, whose motions take some times
abbrev pub RunsTexts : Mode → Bool → Option (List ℕ) → Option (List ℕ) → Result ℕ WriteFault → Type 0
RunsTexts mode journal old new written =
    (timing : Durations) × (settings : List ℕ) × (faults : List ℕ) × (operator : List ℕ)
    × MatchResult written (TellsRun timing settings faults operator mode journal old new)
    (λ _. PartOfRun timing settings faults operator mode journal old new)

-- what a run by the texts of its files writes, unless the settings are too long or the durations are refused
abbrev pub RunsFiles : Mode → Running → Option (List ℕ) → Option (List ℕ) → Result ℕ WriteFault → Type 0
RunsFiles mode running old new written =
    RunsTexts mode running.journal old new written ⊎ TellsUnfit running.times old new written

-- the text of a journal is refused or can't be read, which is told as an audit tells it
abbrev pub RefusesJournal : Option (List ℕ) → Option (List ℕ) → Result ℕ WriteFault → Type 0
RefusesJournal old new written =
    (text : List ℕ) × MatchResult written (TellsRefused text old new) (λ _. PartOfRefused text old new)

-- what a method that drives the cell by three texts has written, from these entries on, if there are any
abbrev pub DrivesSome : Bool → Option (List Entry) → Option (List ℕ) → Option (List ℕ) → Option (List ℕ)
    → Result ℕ WriteFault → Type 0
DrivesSome raw from input old new written = (settings : List ℕ) × (faults : List ℕ) × (operator : List ℕ)
    × IfOk written (DrivesTexts settings faults operator raw from input old new)

-- the same from the journal of some text on, or that text is refused
abbrev pub DrivesRead : Driving → Option (List ℕ) → Option (List ℕ) → Option (List ℕ) → Result ℕ WriteFault → Type 0
DrivesRead driving input old new written =
    ((J : List Entry) × ((text : List ℕ) × AreEntries text J)
    × DrivesSome driving.raw (Some J) input old new written)
    ⊎ RefusesJournal old new written

-- where a journal is named the run goes on from it
abbrev pub DrivesFrom : Option (Bor (List ℕ)) → Driving → Option (List ℕ) → Option (List ℕ) → Option (List ℕ)
    → Result ℕ WriteFault → Type 0
DrivesFrom None driving input old new written = DrivesSome driving.raw None input old new written
DrivesFrom (Some path) driving input old new written = DrivesRead driving input old new written

-- what a method that drives the cell by the texts of files has written, unless the settings are too long or the
-- durations are refused
abbrev pub DrivesFiles : Driving → Option (List ℕ) → Option (List ℕ) → Option (List ℕ) → Result ℕ WriteFault → Type 0
DrivesFiles driving input old new written =
    DrivesFrom driving.from driving input old new written ⊎ TellsUnfit driving.running.times old new written

-- what is written behind a run on threads with a status: nothing where memory was refused for it or for its measures,
-- which the status of both tells, and else the measures
abbrev pub AddsLeast : ℕ → Option (List ℕ) → Option (List ℕ) → ℕ → Type 0
AddsLeast ran printed new status =
    ((status ≡ 4) × (new ≡ printed))
    ⊎ ((ran ≢ 4) × (status ≡ ran) × ((measures : List ℕ) × Appends printed new measures))

-- what is written of a run by three texts and behind it of its measures: in rounds those of the very journal that is
-- kept of the run
abbrev pub MeasuresRun : Mode → Durations → List ℕ → List ℕ → List ℕ → Bool → Option (List ℕ) → Option (List ℕ) → ℕ
    → Type 0
MeasuresRun modes.Rounds timing settings faults operator journal old new status =
    (run : Option Kept) × KeepsMeasured timing settings faults operator journal old new status run
MeasuresRun modes.Threads timing settings faults operator journal old new status =
    (printed : Option (List ℕ)) × (ran : ℕ)
    × TellsRun timing settings faults operator modes.Threads journal old printed ran
    × AddsLeast ran printed new status

-- the same by some texts
abbrev pub MeasuresTexts : Mode → Bool → Option (List ℕ) → Option (List ℕ) → Result ℕ WriteFault → Type 0
MeasuresTexts mode journal old new written =
    (timing : Durations) × (settings : List ℕ) × (faults : List ℕ) × (operator : List ℕ)
    × IfOk written (MeasuresRun mode timing settings faults operator journal old new)

-- what is written of a run by the texts of its files and then of its measures, unless the settings are too long or the
-- durations are refused
abbrev pub MeasuresFiles : Mode → Running → Option (List ℕ) → Option (List ℕ) → Result ℕ WriteFault → Type 0
MeasuresFiles mode running old new written =
    MeasuresTexts mode running.journal old new written ⊎ TellsUnfit running.times old new written

-- what is written where some journal is followed by three texts
abbrev pub FollowsTexts : Bool → Option (List ℕ) → Option (List ℕ) → Result ℕ WriteFault → Type 0
FollowsTexts alone old new written =
    (journal : List ℕ) × (settings : List ℕ) × (faults : List ℕ) × (operator : List ℕ)
    × MatchResult written (TellsFollowed journal settings faults operator alone old new)
    (λ _. TellsPartFollowed journal settings faults operator alone old new)

-- what is written where the journal of a file is followed by the texts of three others, unless the settings are too
-- long or the durations are refused
abbrev pub FollowsFiles : Running → Option (List ℕ) → Option (List ℕ) → Result ℕ WriteFault → Type 0
FollowsFiles running old new written =
    FollowsTexts running.journal old new written ⊎ TellsUnfit running.times old new written

-- what is written of a run from some journal on by three texts
abbrev pub GoesOnTexts : Bool → Option (List ℕ) → Option (List ℕ) → Result ℕ WriteFault → Type 0
GoesOnTexts alone old new written =
    (timing : Durations) × (journal : List ℕ) × (settings : List ℕ) × (faults : List ℕ) × (operator : List ℕ)
    × MatchResult written (TellsRunFrom timing journal settings faults operator alone old new)
    (λ _. TellsPartFrom timing journal settings faults operator alone old new)

-- what is written of a run from the journal of a file on by the texts of three others, unless the settings are too long
-- or the durations are refused
abbrev pub GoesOnFiles : Running → Option (List ℕ) → Option (List ℕ) → Result ℕ WriteFault → Type 0
GoesOnFiles running old new written =
    GoesOnTexts running.journal old new written ⊎ TellsUnfit running.times old new written

-- a journal is to be followed besides, or measures are wanted
abbrev pub IsCrowded : Continuing → Type 0
IsCrowded continuing = IsGiven continuing.follow ⊎ (continuing.measures ≡ true)

-- what is written of a run from a journal on for the words of its command: neither of the two goes with it, of which a
-- line among the errors tells
abbrev pub ContinuesFiles : Continuing → Option (List ℕ) → Option (List ℕ) → Option (List ℕ) → Option (List ℕ)
    → Result ℕ WriteFault → Type 0
ContinuesFiles continuing old new old_errors new_errors written =
    (GoesOnFiles continuing.running old new written × (new_errors ≡ old_errors))
    ⊎ (IsCrowded continuing
    × ((status : ℕ) × (written ≡ Ok status) × IsWrong old new old_errors new_errors status))

-- what is written of a sweep by the texts of some files, unless the settings are too long
abbrev pub SweepsSome : Wanted → Option (List ℕ) → Option (List ℕ) → Result ℕ WriteFault → Type 0
SweepsSome w old new written =
    ((settings : List ℕ) × (operator : List ℕ) × IfOk written (SweepsTexts settings operator w old new))
    ⊎ TellsTooLong old new written

-- the list or another word is wrong: a line among the errors says so, and nothing is printed
abbrev pub IsMistaken : Sweeping → Option (List ℕ) → Option (List ℕ) → Option (List ℕ) → Option (List ℕ)
    → Result ℕ WriteFault → Type 0
IsMistaken sweeping old new old_errors new_errors written =
    (((number : ℕ) × HasNoKind sweeping.kinds number) ⊎ AsksNothing sweeping)
    × ((status : ℕ) × (written ≡ Ok status) × IsWrong old new old_errors new_errors status)

-- what a sweep goes through, of these kinds and by what else the words ask for
abbrev pub wanted_by : Sweeping → List Fault → Asked → Wanted
wanted_by sweeping kinds asked = wanted kinds asked.motions asked.choice asked.part sweeping.service sweeping.csv

-- what is written of a sweep for the words of its command
abbrev pub SweepsFiles : Sweeping → Option (List ℕ) → Option (List ℕ) → Option (List ℕ) → Option (List ℕ)
    → Result ℕ WriteFault → Type 0
SweepsFiles sweeping old new old_errors new_errors written =
    ((kinds : List Fault) × (asked : Asked) × AreKinds sweeping.kinds kinds × Asks sweeping asked
    × SweepsSome (wanted_by sweeping kinds asked) old new written)
    ⊎ IsMistaken sweeping old new old_errors new_errors written

-- what is written for an order, with what `input` has to read: to the output, which had `old`, and to the errors. A
-- file that is named may have any text. Of a cell that is controlled nothing is said here.
abbrev pub CarriesOut : Order → Option (List ℕ) → Option (List ℕ) → Option (List ℕ) → Option (List ℕ) → Option (List ℕ)
    → Result ℕ WriteFault → Type 0
CarriesOut (order.Audit file) input old new old_errors new_errors written =
    OfText file input (λ text. Audits text old new written) × (new_errors ≡ old_errors)
CarriesOut (order.Migrate file) input old new old_errors new_errors written =
    OfText file input (λ text. MigratesText text old new old_errors new_errors written)
CarriesOut (order.Show showing) input old new old_errors new_errors written =
    IfOk written (ShowsWords showing input old new old_errors new_errors)
CarriesOut (order.Explain explaining) input old new old_errors new_errors written =
    IfOk written (Explains explaining input old new old_errors new_errors)
CarriesOut (order.Measure measuring) input old new old_errors new_errors written =
    IfOk written (MeasuresWords measuring old new old_errors new_errors)
CarriesOut (order.Events listing) input old new old_errors new_errors written =
    ListsWords listing old new old_errors new_errors written
CarriesOut (order.Check path) input old new old_errors new_errors written =
    ChecksSettings old new written × (new_errors ≡ old_errors)
CarriesOut (order.Sim running) input old new old_errors new_errors written =
    RunsFiles modes.Rounds running old new written × (new_errors ≡ old_errors)
CarriesOut (order.SimMeasured running) input old new old_errors new_errors written =
    MeasuresFiles modes.Rounds running old new written × (new_errors ≡ old_errors)
CarriesOut (order.Follow path running) input old new old_errors new_errors written =
    FollowsFiles running old new written × (new_errors ≡ old_errors)
CarriesOut (order.SimFrom continuing) input old new old_errors new_errors written =
    ContinuesFiles continuing old new old_errors new_errors written
CarriesOut (order.Sweep sweeping) input old new old_errors new_errors written =
    SweepsFiles sweeping old new old_errors new_errors written
CarriesOut (order.Explore exploring) input old new old_errors new_errors written =
    ExploresWords exploring old new old_errors new_errors written
CarriesOut (order.Drive driving) input old new old_errors new_errors written = DrivesFiles driving input old new written
CarriesOut (order.Control controlling) input old new old_errors new_errors written = ⊤
CarriesOut (order.Run running) input old new old_errors new_errors written =
    RunsFiles modes.Threads running old new written × (new_errors ≡ old_errors)
CarriesOut (order.RunMeasured running) input old new old_errors new_errors written =
    MeasuresFiles modes.Threads running old new written × (new_errors ≡ old_errors)

-- the status of an order for which this was written
abbrev pub ended : Result ℕ WriteFault → ℕ
ended (Ok status) = status
ended (Err _) = 3

-- the words are an order's, which was carried out. What was written to the output was written out. Where the end of a
-- run is to be explained, the errors may go on after that.
pub record Obeys (words : List Word) (input old new old_errors : Option (List ℕ)) (status : ℕ) : Type 0 where
  pub order : Order
  pub ordered : IsOrdered words order
  pub out : Option (List ℕ)
  pub errors : Option (List ℕ)
  pub written : Result ℕ WriteFault
  pub carried : CarriesOut order input old out old_errors errors written
  pub kept : Keeps out new
  pub ends : status ≡ ended written

-- the status of an error of the command line: of a help or a version that was asked for, of want of memory, of wrong
-- words
abbrev pub status_of_error : ErrorKind → ℕ
status_of_error kind.DisplayHelp = 0
status_of_error kind.DisplayVersion = 0
status_of_error kind.OutOfMemory = 4
status_of_error _ = 2

-- the words are refused by the first fault that clap finds in them, or ask for the help of `help`, which answers them,
-- or memory was refused
pub record IsTurnedAway (words : List Word) (status : ℕ) : Type 0 where
  pub error : Error
  pub fault : HasKind (refusals words) error
  pub ends : status ≡ status_of_error (kind_of error)
