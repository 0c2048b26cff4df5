-- A journal's entries are booked one after another
use Rattle.std.proofs.Common.{◌≡◌, ℕ, ◌+◌, false, List, [], ◌∷◌, ◌++◌, Some, Result, Ok, Err, OnOk, take}
use Rattle.std.specs.Prelude.{slice_get}
use Rattle.std.specs.Result.{is_err}
use Rattle.cell_types.specs.declared.words.Entry.{Entry}
use Rattle.cell_rules.specs.declared.limits.BookLimits.{BookLimits}
use Rattle.cell_rules.specs.History.{History}
use Rattle.cell_explain.proofs.Passed.{take-at}

-- what holds of a success holds where there was no error
pub of-success : {A B P : Type 0} (r : Result A B) → is_err r ≡ false → OnOk r P → P
of-success (Ok x) none p = p
of-success (Err e) none p = cc none

-- one more entry is booked
pub booked-more : (l : BookLimits) (h k : History) (J : List Entry) (i : ℕ) (e : Entry) → slice_get J i ≡ Some e
    → h ≡ record { limits = l; entries = take i J }
    → k ≡ record { limits = h.limits; entries = h.entries ++ e ∷ [] }
    → k ≡ record { limits = l; entries = take (i + 1) J }
booked-more l h k J i e at so_far next = rw (take-at J i e at) (rw so_far at next)
