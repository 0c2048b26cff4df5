-- Lists of kinds of faults
use Rattle.std.specs.Prelude.{◌≡◌, ◌==◌, ◌+◌, ◌<◌, ℕ, Bool, List, [], ◌∷◌, map, min, take, length, get_or, Option, Some}
use Rattle.std.specs.Prelude.{None, if◌then◌else◌, ⊤}
use Rattle.std.specs.List.{after_first, before_first, position_or_len, slice_split}
use Rattle.cell_sim.specs.declared.fault.Fault.{Fault}
use Rattle.cell_sim.specs.declared.fault.Fault.TheVariants as fault
use Rattle.cell_types.specs.Numbers.{number_to}
use Rattle.cell_types.specs.Texts.{find_word}
use Rattle.cell_sweep.specs.declared.kinds.KindsError.{KindsError}
use Rattle.cell_sweep.specs.declared.kinds.KindsError.TheVariants as wrong
use Rattle.cell_sim.specs.Spelled.{word_of}

-- every kind of fault, each that takes a number of readings with 30 of them
abbrev pub all_kinds : List Fault
all_kinds = fault.NoMotion ∷ fault.KeepsOld ∷ fault.Both ∷ fault.Slow 30 ∷ fault.LosePlate ∷ fault.Silent 30
    ∷ fault.RefuseCommand ∷ []

-- the kind whose word a text is
abbrev pub kind_named : List ℕ → Option Fault
kind_named word = find_word word_of all_kinds word

-- a kind with another number of readings, where it takes one
abbrev pub with_readings : Option Fault → Option ℕ → Option Fault
with_readings (Some (fault.Slow usual)) (Some n) = Some (fault.Slow n)
with_readings (Some (fault.Silent usual)) (Some n) = Some (fault.Silent n)
with_readings _ _ = None

-- a colon
abbrev pub is_colon : ℕ → Bool
is_colon b = b == 58

-- the kind that a part of a list names: by its word alone, or by its word, a colon and a number of readings up to 1,000
abbrev pub kind_of : List ℕ → Option Fault
kind_of part =
    if position_or_len is_colon part == length part then kind_named part
    else with_readings (kind_named (before_first is_colon part)) (number_to 1000 (after_first is_colon part))

-- the parts of a list, between its commas
abbrev pub parts_of : List ℕ → List (List ℕ)
parts_of list = slice_split (λ b. b == 44) list

-- these are the kinds that a list names, part by part
abbrev pub NamesKinds : List ℕ → List Fault → Type 0
NamesKinds list kinds = map kind_of (parts_of list) ≡ map Some kinds

-- the number of a part that is counted from 1, as far as 32 bits reach
abbrev pub number_of : ℕ → ℕ
number_of i = min (i + 1) 4294967295

-- the first part that names no kind has this number; want of memory says nothing
abbrev pub IsNoList : List ℕ → KindsError → Type 0
IsNoList list (wrong.Unknown number) =
    (i : ℕ) × (i < length (parts_of list)) × (number ≡ number_of i) × (kind_of (get_or (parts_of list) i []) ≡ None)
    × ((kinds : List Fault) × (map kind_of (take i (parts_of list)) ≡ map Some kinds))
IsNoList list wrong.OutOfMemory = ⊤
