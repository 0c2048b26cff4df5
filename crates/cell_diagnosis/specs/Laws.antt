-- Laws of the two verdicts, for every list of readings
use Rattle.std.specs.Prelude.{◌≡◌, ◌≢◌, ℕ, ◌≤◌, false, List, ◌++◌, length, take}
use Rattle.std.specs.List.{list_any}
use Rattle.cell_types.specs.declared.words.Cause.{Cause}
use Rattle.cell_diagnosis.specs.declared.motion.Motion.{Motion}
use Rattle.cell_diagnosis.specs.declared.verdict.Verdict.TheVariants.{Pending, Fault}
use Rattle.cell_diagnosis.specs.Verdicts.{IsFirstDecided, IsNeverDecided}
use Rattle.cell_diagnosis.specs.Readings.{Seen}
use Rattle.cell_diagnosis.specs.AxisFacts.{shows_alone}
use Rattle.cell_diagnosis.specs.AxisRules.{judged, verdict}
use Rattle.cell_diagnosis.specs.RestFacts.{Noted}
use Rattle.cell_diagnosis.specs.RestRules.{judged_at_rest, rest}

-- a verdict other than Pending stays, whatever readings come after
abbrev pub VerdictStays : Type 0
VerdictStays = (m : Motion) (L M : List Seen) → verdict m L ≢ Pending → verdict m (L ++ M) ≡ verdict m L

abbrev pub RestVerdictStays : Type 0
RestVerdictStays = (L M : List Noted) → rest L ≢ Pending → rest (L ++ M) ≡ rest L

-- the first reading at which a rule applies decides
abbrev pub FirstDecides : Type 0
FirstDecides =
    (m : Motion) (L : List Seen) (i : ℕ) → IsFirstDecided (judged m) L i → verdict m L ≡ judged m (take i L)

abbrev pub RestFirstDecides : Type 0
RestFirstDecides = (L : List Noted) (i : ℕ) → IsFirstDecided judged_at_rest L i → rest L ≡ judged_at_rest (take i L)

-- where no rule applies at any reading, the verdict is Pending
abbrev pub PendingWhereNoneDecides : Type 0
PendingWhereNoneDecides = (m : Motion) (L : List Seen) → IsNeverDecided (judged m) L → verdict m L ≡ Pending

abbrev pub RestPendingWhereNoneDecides : Type 0
RestPendingWhereNoneDecides = (L : List Noted) → IsNeverDecided judged_at_rest L → rest L ≡ Pending

-- where the verdict isn't Pending, some reading is the first at which a rule applies
abbrev pub SomeFirstDecides : Type 0
SomeFirstDecides = (m : Motion) (L : List Seen) → verdict m L ≢ Pending → (i : ℕ) × IsFirstDecided (judged m) L i

abbrev pub RestSomeFirstDecides : Type 0
RestSomeFirstDecides = (L : List Noted) → rest L ≢ Pending → (i : ℕ) × IsFirstDecided judged_at_rest L i

-- no reading shows the end alone
abbrev pub NeverShowsEnd : Motion → List Seen → Type 0
NeverShowsEnd m L = list_any (shows_alone m.to) L ≡ false

-- then a fault is found at the latest when as many readings were noted as the limit says
abbrev pub LastingFaultIsFound : Type 0
LastingFaultIsFound =
    (m : Motion) (L : List Seen) → NeverShowsEnd m L → 1 ≤ m.limits.limit → m.limits.limit ≤ length L
    → (why : Cause) × (verdict m L ≡ Fault why)
