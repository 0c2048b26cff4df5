-- What is written of a run with its measures by what its texts say is written by the texts
use Rattle.std.proofs.Common.{◌≡◌, ◌⊎◌, inl, inr, ℕ, Bool, List, Option, Ok}
use Rattle.cell_measures.specs.declared.durations.Durations.{Durations}
use Rattle.cell_runs.specs.Inputs.{AreRead}
use Rattle.cell_runs.specs.Runs.{Kept}
use Rattle.cell_runs.specs.declared.inputs.Inputs.{Inputs}
use Rattle.cell_drive.specs.Gauged.{PartOfGauged, WritesGauged}
use Rattle.cell_drive.specs.Measured.{KeepsMeasured, PartBehind, PartOfMeasured, WithMeasures}

pub by-texts : (timing : Durations) (settings faults operator : List ℕ) (inputs : Inputs) (journal : Bool)
    (old new : Option (List ℕ)) (status : ℕ) (run : Option Kept)
    → AreRead timing settings faults operator (Ok inputs)
    → WithMeasures (WritesGauged journal inputs) old new status run
    → KeepsMeasured timing settings faults operator journal old new status run
by-texts timing settings faults operator inputs journal old new status run are (printed, ran, writes, adds) =
    (printed, ran, (Ok inputs, are, writes), adds)

-- the same where a write was refused on the way
pub part-by-texts : (timing : Durations) (settings faults operator : List ℕ) (inputs : Inputs) (journal : Bool)
    (old new : Option (List ℕ))
    → AreRead timing settings faults operator (Ok inputs)
    → PartOfGauged journal inputs old new ⊎ PartBehind (WritesGauged journal inputs) old new
    → PartOfMeasured timing settings faults operator journal old new
part-by-texts timing settings faults operator inputs journal old new are (inl part) = inl (Ok inputs, are, part)
part-by-texts timing settings faults operator inputs journal old new are (inr (printed, ran, run, writes, part)) =
    inr (printed, ran, run, (Ok inputs, are, writes), part)
