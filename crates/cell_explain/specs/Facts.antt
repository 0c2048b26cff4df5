-- Facts for which an entry is refused after those of a journal, and since when one holds
use Rattle.std.specs.Prelude.{◌≡◌, ◌≢◌, ◌≤◌, ◌<◌, ◌+◌, ℕ, true, false, List, Option, Some, None, length, option_map}
use Rattle.std.specs.Prelude.{slice_get, take}
use Rattle.cell_types.specs.declared.words.Entry.{Entry}
use Rattle.cell_types.specs.declared.words.Entry.TheVariants.{Admitted, Conveyed, Forged, Gripped, Dropped, Delivered}
use Rattle.cell_types.specs.declared.words.Entry.TheVariants.{Declared, Quarantined, Expected, Reinstated}
use Rattle.cell_types.specs.declared.words.Actor.{Actor}
use Rattle.cell_types.specs.declared.words.Actor.TheVariants as actor
use Rattle.cell_types.specs.declared.words.Colour.TheVariants as colour
use Rattle.cell_types.specs.declared.words.Station.{Station}
use Rattle.cell_types.specs.declared.words.Station.TheVariants as station
use Rattle.cell_types.specs.declared.words.Zone.{Zone}
use Rattle.cell_types.specs.declared.parts.Object.{Object}
use Rattle.cell_types.specs.declared.parts.Object.TheVariants as object
use Rattle.cell_types.specs.declared.cell.BeltMotion.{BeltMotion}
use Rattle.cell_types.specs.declared.cell.Press.{Press}
use Rattle.cell_types.specs.Cell.{motion_to, press_of, station_of_arm}
use Rattle.cell_types.specs.Entries.{actor_of}
use Rattle.cell_types.specs.Limits.{max_entries}
use Rattle.cell_types.specs.Parts.{parts_of}
use Rattle.cell_rules.specs.declared.refusal.Refusal.{Refusal}
use Rattle.cell_rules.specs.declared.refusal.Refusal.TheVariants as refusal
use Rattle.cell_types.specs.After.{Snapshot as State, after}
use Rattle.cell_explain.specs.declared.facts.Fact.{Fact}
use Rattle.cell_explain.specs.declared.facts.Fact.TheVariants as fact
use Rattle.cell_explain.specs.declared.telling.Since.{Since}
use Rattle.cell_explain.specs.declared.telling.Since.TheVariants as since

-- a fact holds of what entries leave
abbrev pub Holds : Fact → State → Type 0
Holds (fact.Light b colour) s = s.lamp b ≡ colour
Holds (fact.Failed m failed) s = s.failed m ≡ failed
Holds (fact.Asked m) s = s.asked m ≡ true
Holds (fact.Held z holder) s = s.holder z ≡ holder
Holds (fact.NotHeldBy z m) s = s.holder z ≢ Some m
Holds (fact.Stands a state) s = (s.at a ≡ state.at) × (s.going a ≡ state.going)
Holds (fact.Plate t plate) s = s.plate t ≡ plate
Holds (fact.Expected plate) s = s.expected ≡ plate
Holds (fact.Admitted n) s = s.admitted ≡ n
Holds (fact.Entries n) s = n ≤ s.entries

-- a fact holds after the first entries of a journal, for each number of them between two
abbrev pub HoldsBetween : List Entry → Fact → ℕ → ℕ → Type 0
HoldsBetween J f low high = (n : ℕ) → low ≤ n → n ≤ high → Holds f (after (take n J))

-- since when a fact holds after the first n entries of a journal: from the start on, or since one of these entries,
-- counted from 1, before which it didn't
abbrev pub IsSinceOf : List Entry → ℕ → Fact → Since → Type 0
IsSinceOf J n f since.Opening = HoldsBetween J f 0 n
IsSinceOf J n f (since.Entry k e) =
    (place : ℕ) × (k ≡ place + 1) × (place ≤ n) × (slice_get J place ≡ Some e) × (Holds f (after (take place J)) → ⊥)
    × HoldsBetween J f k n
IsSinceOf J n f since.Always = ⊥

-- the station at which an entry wants its plate to be
abbrev pub station_of : Entry → Option Station
station_of (Conveyed a k dest) = option_map (λ (m : BeltMotion). m.from) (motion_to a dest)
station_of (Forged m k) = option_map (λ (p : Press). p.station) (press_of m)
station_of (Gripped arm k src) = Some src
station_of (Quarantined k src) = Some src
station_of (Dropped arm k dest) = Some (station_of_arm arm)
station_of (Delivered k) = Some station.DepEnd
station_of _ = None

-- that a station has what it has
abbrev pub standing : State → Station → Fact
standing s t = fact.Plate t (s.plate t)

-- the fact for which an entry names the wrong plate: how many were admitted, which is expected, or what stands at its
-- station
abbrev pub wrong_plate : Entry → State → Option Fact
wrong_plate (Admitted k) s = Some (fact.Admitted s.admitted)
wrong_plate (Reinstated k) s = Some (fact.Expected s.expected)
wrong_plate e s = option_map (standing s) (station_of e)

-- the fact for which an entry's machine doesn't hold a zone
abbrev pub not_held : Zone → Actor → Option Fact
not_held z (actor.Machine m) = Some (fact.NotHeldBy z m)
not_held z actor.Operator = None

-- how many entries a journal has that is full for an entry
abbrev pub full_length : Entry → ℕ
full_length (Declared m cause) = max_entries + 6
full_length _ = max_entries

-- the fact for which an entry is refused after entries that leave this, where it is refused for a fact
abbrev pub fact_of : Refusal → Entry → State → Option Fact
fact_of refusal.JournalFull e s = Some (fact.Entries (full_length e))
fact_of refusal.PlateLimit e s = Some (fact.Admitted s.admitted)
fact_of (refusal.MachineFailed m) e s = Some (fact.Failed m true)
fact_of (refusal.OwnerFailed m) e s = Some (fact.Failed m true)
fact_of (refusal.MachineHealthy m) e s = Some (fact.Failed m false)
fact_of (refusal.WrongPose a) e s = Some (fact.Stands a (record { at = s.at a; going = s.going a }))
fact_of (refusal.ZoneTaken z) e s = Some (fact.Held z (s.holder z))
fact_of (refusal.NotHolder z) e s = not_held z (actor_of e)
fact_of (refusal.StationEmpty t) e s = Some (standing s t)
fact_of (refusal.StationFull t) e s = Some (standing s t)
fact_of (refusal.PlateStillThere t) e s = Some (standing s t)
fact_of refusal.WrongPlate e s = wrong_plate e s
fact_of (refusal.LampRed b) e s = Some (fact.Light b colour.Red)
fact_of (refusal.LampAlready b) e s = Some (fact.Light b (s.lamp b))
fact_of (refusal.AlreadyAsked m) e s = Some (fact.Asked m)
fact_of refusal.PlateExpected e s = Some (fact.Expected s.expected)
fact_of refusal.NotNeighbour e s = None
fact_of refusal.NoPress e s = None
fact_of refusal.NotReturnable e s = None
fact_of refusal.OutOfMemory e s = None

-- the plate that an entry's object is
abbrev pub plate_in : Object → Option ℕ
plate_in (object.Plate k) = Some k
plate_in _ = None

-- an entry names a plate
abbrev pub NamesPlate : ℕ → Entry → Type 0
NamesPlate k e = plate_in (parts_of e).object ≡ Some k

-- none of the entries of a journal names a plate, from one place to another
abbrev pub NoneNames : List Entry → ℕ → ℕ → ℕ → Type 0
NoneNames J k low high =
    (place : ℕ) (e : Entry) → low ≤ place → place < high → slice_get J place ≡ Some e → NamesPlate k e → ⊥

-- the last of the first n entries of a journal, counted from 1, that names a plate; none where none does
abbrev pub IsLastOf : List Entry → ℕ → ℕ → Since → Type 0
IsLastOf J n k (since.Entry m e) =
    (place : ℕ) × (m ≡ place + 1) × (slice_get J place ≡ Some e) × NamesPlate k e × NoneNames J k m n
IsLastOf J n k since.Always = NoneNames J k 0 n
IsLastOf J n k since.Opening = ⊥

-- since when it is so that no fact tells of: of a plate that can't be expected, since the last entry that names it
abbrev pub IsSinceNamed : List Entry → Entry → Refusal → Since → Type 0
IsSinceNamed J (Expected k) refusal.WrongPlate s = IsLastOf J (length J) k s
IsSinceNamed J (Expected k) refusal.NotReturnable s = IsLastOf J (length J) k s
IsSinceNamed J e why s = s ≡ since.Always

abbrev pub IsSinceFact : List Entry → Entry → Refusal → Option Fact → Since → Type 0
IsSinceFact J e why (Some f) s = Holds f (after J) → IsSinceOf J (length J) f s
IsSinceFact J e why None s = IsSinceNamed J e why s

-- since when an entry is refused for a reason after those of a journal
abbrev pub IsSince : List Entry → Entry → Refusal → Since → Type 0
IsSince J e why s = IsSinceFact J e why (fact_of why e (after J)) s
