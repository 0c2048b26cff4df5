-- The faults of the runs of a sweep
use Rattle.std.specs.Prelude.{◌≡◌, ◌-◌, ◌*◌, ◌/◌, ℕ, zero, suc, List, [], ◌∷◌, ◌++◌, map, min, take, drop, length}
use Rattle.std.specs.Prelude.{◌+◌, ◌%◌, ◌^◌, cond, get_or, nat_lt, slice_index}
use Rattle.std.specs.List.{flat_map, range_with_len}
use Rattle.cell_sim.specs.declared.fault.Fault.{Fault}
use Rattle.cell_sim.specs.declared.fault.Fault.TheVariants as fault
use Rattle.cell_sim.specs.declared.fault.PlannedFault.{PlannedFault}
use Rattle.cell_sim.specs.Spelled.{script_of}
use Rattle.rand_xoshiro.specs.SplitMix64.{splitmix_seed}
use Rattle.rand_xoshiro.specs.Xoshiro256.{of_seed, plus_plus}
use Rattle.cell_types.specs.Same.{axis_number}
use Rattle.cell_types.specs.Texts.{all_axis}
use Rattle.cell_types.specs.declared.words.Axis.{Axis}
use Rattle.cell_sweep.specs.declared.choice.Choice.{Choice}
use Rattle.cell_sweep.specs.declared.choice.Choice.TheVariants as choice
use Rattle.cell_sweep.specs.declared.choice.Part.{Part}
use Rattle.cell_sweep.specs.declared.places.Motion.{Motion}

-- the first so many motions of an axis
abbrev pub motions_in : Axis → ℕ → List Motion
motions_in a zero = []
motions_in a (suc n) = motions_in a n ++ record { axis = a; number = suc n } ∷ []

-- so many motions of each axis: by axes, and of each in their order
unfoldable pub motions_by : (Axis → ℕ) → List Motion
motions_by counts = flat_map (λ a. motions_in a (counts a)) all_axis

-- the same by a list of the axes' numbers of motions
abbrev pub motions_of : List ℕ → List Motion
motions_of counts = motions_by (λ a. slice_index counts (axis_number a))

-- a fault of this kind in a motion
abbrev pub planned : Motion → Fault → PlannedFault
planned m kind = record { axis = m.axis; motion = m.number; fault = kind }

-- a fault of each kind in a motion
abbrev pub in_motion : List Fault → Motion → List PlannedFault
in_motion kinds m = map (planned m) kinds

-- a fault of each kind in each motion
abbrev pub singles : List Fault → List Motion → List PlannedFault
singles kinds motions = flat_map (in_motion kinds) motions

-- a fault with each of others
abbrev pub with_each : List PlannedFault → PlannedFault → List (List PlannedFault)
with_each others f = map (λ g. f ∷ g ∷ []) others

-- each fault in a motion with each in a later motion
abbrev pub pairs : List Fault → List Motion → List (List PlannedFault)
pairs kinds [] = []
pairs kinds (m ∷ later) = flat_map (with_each (singles kinds later)) (in_motion kinds m) ++ pairs kinds later

-- a number below a limit, from the next word of a generator, and the generator's state behind it
unfoldable pub below : ℕ → List ℕ → ℕ × List ℕ
below limit state = ((plus_plus state).0 * limit / 2 ^ 64, (plus_plus state).1)

-- a fault in a motion, with a kind at a place
abbrev pub of_kind : List Fault → Motion → ℕ → PlannedFault
of_kind kinds m place = planned m (get_or kinds place fault.Both)

-- faults in so many motions: each motion is taken if a number below those left is below those still wanted
unfoldable pub drawn_in : List Fault → List Motion → ℕ → List ℕ → List PlannedFault
drawn_in kinds [] wanted state = []
drawn_in kinds (m ∷ later) wanted state =
    let lot = below (length later + 1) state in
    let kind = below (length kinds) lot.1 in
    cond (nat_lt lot.0 wanted) (of_kind kinds m kind.0 ∷ drawn_in kinds later (wanted - 1) kind.1)
    (drawn_in kinds later wanted lot.1)

-- the state from which a run is drawn: each run of a seed has its own
unfoldable pub generator_of : ℕ → ℕ → List ℕ
generator_of seed run = of_seed (splitmix_seed 32 ((seed * 2 ^ 32 + run) % 2 ^ 64))

-- the faults of a run that is drawn: so many, or one in each motion where there are fewer; none without kinds
abbrev pub drawn : List Fault → List Motion → ℕ → ℕ → ℕ → List PlannedFault
drawn [] motions n seed run = []
drawn (kind ∷ kinds) motions n seed run =
    drawn_in (kind ∷ kinds) motions (min n (length motions)) (generator_of seed run)

-- the faults of each run
abbrev pub cases_of : Choice → List Fault → List Motion → List (List PlannedFault)
cases_of choice.Single kinds motions = map (λ f. f ∷ []) (singles kinds motions)
cases_of choice.Pairs kinds motions = pairs kinds motions
cases_of (choice.Random runs faults seed) kinds motions =
    map (drawn kinds motions faults seed) (range_with_len 0 runs)

-- the run at a place has these faults
abbrev pub IsCaseAt : Choice → List Fault → List Motion → ℕ → List PlannedFault → Type 0
IsCaseAt choice kinds motions place faults =
    (d : List PlannedFault) → get_or (cases_of choice kinds motions) place d ≡ faults

-- how many faults a run has at most
abbrev pub most_faults : Choice → ℕ
most_faults choice.Single = 1
most_faults choice.Pairs = 2
most_faults (choice.Random runs faults seed) = faults

-- so many of so many equal parts of a number, rounded down
abbrev pub parts_of_all : ℕ → ℕ → ℕ → ℕ
parts_of_all all number count = min all (all * number / count)

-- where a part of so many begins, and where it ends
abbrev pub begin_of : Part → ℕ → ℕ
begin_of p all = parts_of_all all (p.number - 1) p.count

abbrev pub end_of : Part → ℕ → ℕ
end_of p all = parts_of_all all p.number p.count

-- a part of a list
abbrev pub part_of : {X : Type 0} → Part → List X → List X
part_of p xs = take (end_of p (length xs) - begin_of p (length xs)) (drop (begin_of p (length xs)) xs)

-- the script with these faults: a record of each
abbrev pub text_of : List PlannedFault → List ℕ
text_of faults = flat_map script_of faults
