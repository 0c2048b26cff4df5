-- What holds of the journal of a run in which only some machines fail
use Rattle.std.proofs.Common.{◌≡◌, ℕ, Bool, true, List, [], refl}
use Rattle.cell_types.specs.declared.words.Machine.{Machine}
use Rattle.cell_types.specs.declared.words.Entry.{Entry}
use Rattle.cell_types.specs.After.{after}
use Rattle.cell_rules.specs.Legal.{legal}
use Rattle.cell_rules.specs.declared.limits.BookLimits.{BookLimits}
use Rattle.cell_progress.specs.Orders.{may_then}
use Rattle.cell_calm.specs.Calm.{none_may, plain}
use Rattle.cell_calm.proofs.Orders.{IsOrder}
use Rattle.cell_calm.proofs.Still.{AreLeft, Still, still_start}

-- the machines that may yet fail after a journal
abbrev pub may_yet : (Machine → Bool) → List Entry → Machine → Bool
may_yet may J = may_then (plain J) may

pub record Tame (may : Machine → Bool) (l : BookLimits) (plan : ℕ) (J : List Entry) : Type 0 where
  pub legal : legal l J ≡ true
  pub still : Still may plan (after J)
  pub left : AreLeft may (may_yet may J) (after J)
  pub possible : IsOrder may plan J

-- where none may fail
abbrev pub Calm : BookLimits → ℕ → List Entry → Type 0
Calm l plan J = Tame none_may l plan J

pub tame_start : (may : Machine → Bool) (l : BookLimits) (plan : ℕ) → Tame may l plan []
tame_start may l plan =
    record { legal = refl; still = still_start may plan; left = λ m can healthy. can; possible = tt }
