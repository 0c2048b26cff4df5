-- Orders of entries, each of which can happen after those before it
use Rattle.std.specs.Prelude.{◌≡◌, ◌⊎◌, ℕ, ◌+◌, Bool, true, false, None, List, [], ◌∷◌}
use Rattle.std.specs.List.{Contains}
use Rattle.cell_types.specs.declared.words.Machine.{Machine}
use Rattle.cell_types.specs.declared.words.Machine.TheVariants as machine
use Rattle.cell_types.specs.declared.words.Station.{Station}
use Rattle.cell_types.specs.declared.words.Entry.{Entry}
use Rattle.cell_types.specs.declared.words.Entry.TheVariants.{Declared}
use Rattle.cell_types.specs.Same.{same_machine}
use Rattle.cell_types.specs.After.{Snapshot, after_from, step, with_at}
use Rattle.cell_rules.specs.Situations.{Situation}
use Rattle.cell_rules.specs.SituationIn.{situation_in}
use Rattle.cell_useful.specs.Moves.{entries_of, is_finished}

-- the state but for the number of its entries, since there is always room for one more
abbrev pub unnumbered : Snapshot → Snapshot
unnumbered s = record s { entries = 0 }

-- what the rules read of a state
abbrev pub cell_of : Snapshot → Situation
cell_of s = situation_in (unnumbered s)

-- which machines may yet fail, after an entry: each fails once at most
abbrev pub may_after : Entry → (Machine → Bool) → Machine → Bool
may_after (Declared m cause) may = with_at (same_machine m) false may
may_after _ may = may

-- and after entries
abbrev pub may_then : List Entry → (Machine → Bool) → Machine → Bool
may_then [] may = may
may_then (e ∷ es) may = may_then es (may_after e may)

-- each of the entries can happen in what those before it leave: with a plan of so many plates, an operator who serves
-- or doesn't, and these machines that may yet fail
abbrev pub IsPossible : ℕ → Bool → (Machine → Bool) → Snapshot → List Entry → Type 0
IsPossible plan serves may s [] = Unit {0}
IsPossible plan serves may s (e ∷ es) =
    Contains (entries_of plan serves may (cell_of s)) e × IsPossible plan serves (may_after e may) (step e s) es

-- no machine may fail but one press
abbrev pub IsOnePress : (Machine → Bool) → Type 0
IsOnePress may =
    (p : Machine) × ((p ≡ machine.Press1) ⊎ (p ≡ machine.Press2)) × ((m : Machine) → may m ≡ true → m ≡ p)

-- some entries that are no failures lead on to a state in which it is finished
pub record GoesOn (plan : ℕ) (serves : Bool) (may : Machine → Bool) (s : Snapshot) : Type 0 where
  pub rest : List Entry
  pub possible : IsPossible plan serves may s rest
  pub calm : may_then rest may ≡ may
  pub finished : is_finished plan serves (cell_of (after_from s rest)) ≡ true

-- at the end of an order with an operator who serves all is as at the beginning, and each plate is delivered or cleared
pub record EndsWhole (plan : ℕ) (s : Snapshot) : Type 0 where
  pub healthy : (m : Machine) → s.failed m ≡ false
  pub empty : (t : Station) → s.plate t ≡ None
  pub counted : s.delivered + s.quarantined ≡ plan
