-- What is written and kept of a run of the simulated cell, and that it is of the texts that are named
use Rattle.std.proofs.Common.{◌≡◌, ℕ, Bool, List, Option, Some, inl, refl, subst, sym}
use Rattle.cell_types.specs.declared.words.Entry.{Entry}
use Rattle.cell_rules.specs.Views.{count_of}
use Rattle.cell_measures.specs.declared.durations.Durations.{Durations}
use Rattle.cell_output.specs.Watched.{WritesPart}
use Rattle.cell_workers.specs.declared.ends.End.{End}
use Rattle.cell_sim.specs.Simulated.{Simulated}
use Rattle.sim_plant.specs.Answers.{SimCell, sim_cell}
use Rattle.cell_runs.specs.Cells.{IsSimulated}
use Rattle.cell_runs.specs.Runs.{Kept, KeepsRun, PartOfSome, PrintsOrStops, Simulates, TellsPart, TellsRun, WritesSome}
use Rattle.cell_runs.specs.Runs.{kept, limits_of, shown}
use Rattle.cell_runs.specs.declared.inputs.Inputs.{Inputs}
use Rattle.cell_runs.specs.declared.texts.Mode.{Mode}

-- the cell is the one of the world and of the inputs' faults
simulates : (inputs : Inputs) (world : Simulated) (cell left : SimCell) (before J : List Entry) (e : End)
    → cell ≡ sim_cell world inputs.faults
    → IsSimulated (limits_of inputs.plan) inputs.plan cell before inputs.script left J e
    → Simulates inputs world before J e
simulates inputs world cell left before J e is simulated = (
  left,
  subst (λ (c : SimCell). IsSimulated (limits_of inputs.plan) inputs.plan c before inputs.script left J e) is simulated,
)

pub whole-simulated : (inputs : Inputs) (world : Simulated) (cell left : SimCell) (before J : List Entry) (e : End)
    (journal : Bool) (old new : Option (List ℕ)) (status : ℕ) (run : Kept)
    → cell ≡ sim_cell world inputs.faults
    → IsSimulated (limits_of inputs.plan) inputs.plan cell before inputs.script left J e
    → PrintsOrStops journal e (count_of J) J old new status → run ≡ kept J e inputs.plan
    → WritesSome (Simulates inputs world before) journal inputs.plan old new status (Some run)
whole-simulated inputs world cell left before J e journal old new status run is simulated prints keeps =
    rw keeps
    (inl (e, J, simulates inputs world cell left before J e is simulated, prints, refl))

pub part-simulated : (inputs : Inputs) (world : Simulated) (cell left : SimCell) (before J : List Entry) (e : End)
    (journal : Bool) (old new : Option (List ℕ))
    → cell ≡ sim_cell world inputs.faults
    → IsSimulated (limits_of inputs.plan) inputs.plan cell before inputs.script left J e
    → WritesPart old new (shown journal e (count_of J) J)
    → PartOfSome (Simulates inputs world before) journal old new
part-simulated inputs world cell left before J e journal old new is simulated part =
    (e, J, simulates inputs world cell left before J e is simulated, part)

-- what is told of texts is told of what these texts are
pub told-of-texts : (d d' : Durations) (s s' f f' o o' : List ℕ) (how how' : Mode) (journal : Bool)
    (old new : Option (List ℕ)) (status : ℕ) (run : Option Kept)
    → d ≡ d' → s ≡ s' → f ≡ f' → o ≡ o' → how ≡ how'
    → KeepsRun d s f o how journal old new status run → TellsRun d' s' f' o' how' journal old new status
told-of-texts d d' s s' f f' o o' how how' journal old new status run is settings faults operator mode keeps =
    (run, rw (sym is, sym settings, sym faults, sym operator, sym mode) keeps)

pub part-of-texts : (d d' : Durations) (s s' f f' o o' : List ℕ) (how how' : Mode) (journal : Bool)
    (old new : Option (List ℕ)) → d ≡ d' → s ≡ s' → f ≡ f' → o ≡ o' → how ≡ how'
    → TellsPart d s f o how journal old new → TellsPart d' s' f' o' how' journal old new
part-of-texts d d' s s' f f' o o' how how' journal old new is settings faults operator mode part =
    rw (sym is, sym settings, sym faults, sym operator, sym mode) part
