-- What is written of a run in rounds in a watched world, and behind it of its measures
use Rattle.std.specs.Prelude.{◌≡◌, ◌≢◌, ◌⊎◌, ◌++◌, ℕ, Bool, List, Option, Some, None, codes}
use Rattle.std.specs.Io.KnownBytes.{Appends}
use Rattle.cell_types.specs.declared.words.Entry.{Entry}
use Rattle.cell_rules.specs.Views.{count_of}
use Rattle.cell_output.specs.Numbers.{number_line}
use Rattle.cell_output.specs.Watched.{WritesPart}
use Rattle.cell_measures.specs.declared.durations.Durations.{Durations}
use Rattle.cell_runs.specs.Runs.{Kept, KeepsBy, TellsPartBy}
use Rattle.cell_drive.specs.Gauged.{PartOfGauged, WritesGauged}

-- the lines of how many rounds a run took and how many entries its journal has
abbrev pub run_counts : ℕ → ℕ → List ℕ
run_counts rounds entries = number_line (codes "rounds") rounds ++ number_line (codes "entries") entries

-- what is told of a measured run with this journal: first those counts
abbrev pub TellsCounts : List Entry → List ℕ → Type 0
TellsCounts J text = (rounds : ℕ) × (more : List ℕ) × (text ≡ run_counts rounds (count_of J).entries ++ more)

-- what is written behind a run that was kept and has this status: nothing where memory was refused for the run, as at
-- the end `Memory`, or for its measures, which the status of both tells; else the measures of its journal
abbrev pub TellsMeasures : Kept → ℕ → Option (List ℕ) → Option (List ℕ) → ℕ → Type 0
TellsMeasures run ran printed new status =
    ((status ≡ 4) × (new ≡ printed))
    ⊎ ((ran ≢ 4) × (status ≡ ran) × ((text : List ℕ) × TellsCounts run.entries text × Appends printed new text))

-- a first part of the measures was written, and not all of them
abbrev pub PartOfMeasures : Kept → ℕ → Option (List ℕ) → Option (List ℕ) → Type 0
PartOfMeasures run ran printed new =
    (ran ≢ 4) × ((text : List ℕ) × TellsCounts run.entries text × WritesPart printed new text)

-- where no run is kept nothing more is written
abbrev pub AddsMeasures : Option Kept → ℕ → Option (List ℕ) → Option (List ℕ) → ℕ → Type 0
AddsMeasures None ran printed new status = (status ≡ ran) × (new ≡ printed)
AddsMeasures (Some run) ran printed new status = TellsMeasures run ran printed new status

-- what is written of a run up to some point and kept of it, and behind that its measures
abbrev pub WithMeasures : (Option (List ℕ) → Option (List ℕ) → ℕ → Option Kept → Type 0) → Option (List ℕ)
    → Option (List ℕ) → ℕ → Option Kept → Type 0
WithMeasures Writes old new status run =
    (printed : Option (List ℕ)) × (ran : ℕ) × Writes old printed ran run × AddsMeasures run ran printed new status

-- all of a run was written, and a first part of its measures
abbrev pub PartBehind : (Option (List ℕ) → Option (List ℕ) → ℕ → Option Kept → Type 0) → Option (List ℕ)
    → Option (List ℕ) → Type 0
PartBehind Writes old new =
    (printed : Option (List ℕ)) × (ran : ℕ) × (run : Kept) × Writes old printed ran (Some run)
    × PartOfMeasures run ran printed new

-- what is written by the texts of a run, whose motions take so long: the first that is refused, or a run in rounds of
-- the watched cell, up to some point, and behind it the measures of the journal that is kept
abbrev pub KeepsMeasured : Durations → List ℕ → List ℕ → List ℕ → Bool → Option (List ℕ) → Option (List ℕ) → ℕ
    → Option Kept → Type 0
KeepsMeasured timing settings faults operator journal old new status run =
    WithMeasures (KeepsBy (WritesGauged journal) timing settings faults operator) old new status run

-- a first part of that was written, and not all of it
abbrev pub PartOfMeasured : Durations → List ℕ → List ℕ → List ℕ → Bool → Option (List ℕ) → Option (List ℕ) → Type 0
PartOfMeasured timing settings faults operator journal old new =
    TellsPartBy (PartOfGauged journal) timing settings faults operator old new
    ⊎ PartBehind (KeepsBy (WritesGauged journal) timing settings faults operator) old new
