-- Which plate an entry tells of, and where it is
use Rattle.std.specs.Prelude.{ℕ, Option, Some, None, List, [], ◌∷◌, ◌++◌, option_map}
use Rattle.cell_types.specs.declared.words.Station.{Station}
use Rattle.cell_types.specs.declared.words.Station.TheVariants as station
use Rattle.cell_types.specs.declared.words.Axis.{Axis}
use Rattle.cell_types.specs.declared.words.Axis.TheVariants as axis
use Rattle.cell_types.specs.declared.words.Pose.{Pose}
use Rattle.cell_types.specs.declared.words.Entry.{Entry}
use Rattle.cell_types.specs.declared.words.Entry.TheVariants.{Admitted, Claimed, Yielded, Started, Arrived, Conveyed}
use Rattle.cell_types.specs.declared.words.Entry.TheVariants.{Forged, Gripped, Dropped, Delivered, Declared, StopAsked}
use Rattle.cell_types.specs.declared.words.Entry.TheVariants.{Quarantined, Repaired, Reinstated}
use Rattle.cell_types.specs.declared.cell.BeltMotion.{BeltMotion}
use Rattle.cell_types.specs.declared.cell.Press.{Press}
use Rattle.cell_types.specs.Cell.{machine_of_axis, motion_named, press_of, stations_of}
use Rattle.cell_measures.specs.Waits.{plate_of}
use Rattle.cell_events.specs.declared.event.Site.{Site}
use Rattle.cell_events.specs.declared.event.Site.TheVariants as site
use Rattle.cell_events.specs.declared.places.Lying.{Lying}

-- the station from which a belt brings a plate
abbrev pub from_of : Option BeltMotion → List Station
from_of (Some m) = m.from ∷ []
from_of None = []

-- where the plate lies that a motion moves: at the station from which a belt brings it, on the arm that moves, or at
-- the stations of the axis's machine
abbrev pub moved_at : Axis → Pose → List Station
moved_at axis.FeedBelt p = from_of (motion_named axis.FeedBelt p)
moved_at axis.DepositBelt p = from_of (motion_named axis.DepositBelt p)
moved_at axis.ArmOne p = station.Arm1 ∷ []
moved_at axis.ArmTwo p = station.Arm2 ∷ []
moved_at a p = stations_of (machine_of_axis a)

-- the stations that an entry is about which names no plate: those of its motion, or those of its machine
abbrev pub about : Entry → List Station
about (Started a to) = moved_at a to
about (Arrived a p) = moved_at a p
about (Claimed m z) = stations_of m
about (Yielded m z) = stations_of m
about (Declared m cause) = stations_of m
about (StopAsked m) = stations_of m
about (Repaired m) = stations_of m
about _ = []

-- the plate at a station, if there is one
abbrev pub lies : Station → Option ℕ → List Lying
lies s (Some k) = record { plate = k; station = s } ∷ []
lies s None = []

-- the plates at some stations
abbrev pub lying : (Station → Option ℕ) → List Station → List Lying
lying plate [] = []
lying plate (s ∷ rest) = lies s (plate s) ++ lying plate rest

-- the one that there is; none where there are several
abbrev pub only : List Lying → Option Lying
only (one ∷ []) = Some one
only _ = None

-- the one plate at the stations that an entry is about
abbrev pub found : (Station → Option ℕ) → Entry → Option Lying
found plate e = only (lying plate (about e))

-- the first of two, or the second where the first isn't there
abbrev pub or_else : {X : Type 0} → Option X → Option X → Option X
or_else (Some x) y = Some x
or_else None y = y

-- the plate that an entry names; else the one at the stations that it is about
abbrev pub plate_told : (Station → Option ℕ) → Entry → Option ℕ
plate_told plate e = or_else (plate_of e) (option_map (λ (l : Lying). l.plate) (found plate e))

-- the station or the machine that an entry names, or the station that it means
abbrev pub named : Entry → Option Site
named (Admitted k) = Some (site.Station station.FeedIn)
named (Conveyed a k dest) = Some (site.Station dest)
named (Forged m k) = option_map (λ (p : Press). site.Station p.station) (press_of m)
named (Gripped arm k src) = Some (site.Station src)
named (Dropped arm k dest) = Some (site.Station dest)
named (Delivered k) = Some (site.Station station.DepEnd)
named (StopAsked m) = Some (site.Machine m)
named (Quarantined k src) = Some (site.Station src)
named (Repaired m) = Some (site.Machine m)
named (Reinstated k) = Some (site.Station station.FeedIn)
named _ = None

-- that; else the station of the one plate
abbrev pub place_told : (Station → Option ℕ) → Entry → Option Site
place_told plate e = or_else (named e) (option_map (λ (l : Lying). site.Station l.station) (found plate e))
