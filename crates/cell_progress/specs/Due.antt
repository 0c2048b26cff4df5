-- Which entries are due, in a cell that the book then judges
use Rattle.std.specs.Prelude.{◌≡◌, ℕ, nat_lt, Bool, true, List, [], ◌∷◌}
use Rattle.cell_types.specs.declared.words.Machine.{Machine}
use Rattle.cell_types.specs.declared.words.Cause.TheVariants as cause
use Rattle.cell_types.specs.declared.words.Entry.{Entry}
use Rattle.cell_types.specs.declared.words.Entry.TheVariants.{Admitted, Arrived, Conveyed, Declared, Delivered}
use Rattle.cell_types.specs.declared.words.Entry.TheVariants.{Expected, Forged, Quarantined, Reinstated, Repaired}
use Rattle.cell_types.specs.declared.words.Entry.TheVariants.{StopAsked}
use Rattle.cell_types.specs.After.{Snapshot, step}
use Rattle.cell_rules.specs.Situations.{Situation}
use Rattle.cell_machines.specs.Useful.{wants}
use Rattle.cell_useful.specs.Cells.{ample, may_of}
use Rattle.cell_useful.specs.Told.{Seen, cell_seen, seen_after}
use Rattle.cell_progress.specs.Orders.{cell_of, may_after}

-- ends of motions are due at any time, and so is a plate's way out; the next plate while the plan asks for more; of a
-- machine that may fail the failure of a command; clearings and repairs where the operator serves, and nothing else
-- that he may do; and of the rest what a machine wants
abbrev pub IsDue : ℕ → Bool → (Machine → Bool) → Situation → Entry → Type 0
IsDue plan serves may c (Arrived a p) = Unit {0}
IsDue plan serves may c (Conveyed a k dest) = Unit {0}
IsDue plan serves may c (Forged m k) = Unit {0}
IsDue plan serves may c (Delivered k) = Unit {0}
IsDue plan serves may c (Admitted k) = nat_lt c.admitted plan ≡ true
IsDue plan serves may c (Declared m why) = (may m ≡ true) × (why ≡ cause.CommandFault)
IsDue plan serves may c (Quarantined k src) = serves ≡ true
IsDue plan serves may c (Repaired m) = serves ≡ true
IsDue plan serves may c (StopAsked m) = ⊥
IsDue plan serves may c (Expected k) = ⊥
IsDue plan serves may c (Reinstated k) = ⊥
IsDue plan serves may c e = (m : Machine) × (wants ample c plan m e ≡ true)

-- each of the entries is due in what those before it leave
abbrev pub AreDue : ℕ → Bool → (Machine → Bool) → Snapshot → List Entry → Type 0
AreDue plan serves may s [] = Unit {0}
AreDue plan serves may s (e ∷ es) =
    IsDue plan serves may (cell_of s) e × AreDue plan serves (may_after e may) (step e s) es

-- the same of what the search of states tells of a cell
abbrev pub AreDueSeen : ℕ → Bool → Seen → List Entry → Type 0
AreDueSeen plan serves s [] = Unit {0}
AreDueSeen plan serves s (e ∷ es) =
    IsDue plan serves (may_of s.may) (cell_seen s) e × AreDueSeen plan serves (seen_after s e) es
