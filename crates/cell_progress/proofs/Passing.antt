-- What may be booked passes all its tests
use Rattle.std.proofs.Common.{◌≡◌, ◌≢◌, Bool, true, false, List, ◌∷◌, Option, Some, None, refl}
use Rattle.cell_types.specs.declared.words.Entry.{Entry}
use Rattle.cell_types.specs.declared.words.Entry.TheVariants.{Declared}
use Rattle.cell_types.specs.Room.{is_full}
use Rattle.cell_types.specs.After.{Snapshot}
use Rattle.cell_rules.specs.declared.refusal.Refusal.{Refusal}
use Rattle.cell_rules.specs.declared.refusal.Refusal.TheVariants.{JournalFull}
use Rattle.cell_rules.specs.First.{first_true, kind_tests, tests}
use Rattle.cell_rules.proofs.Order.{not_full}
use Rattle.cell_rules.proofs.Safe.Facts.{Passed, none_refused}
use Rattle.cell_machines.specs.Room.{is_bookable, is_none_or_full}
use Rattle.cell_useful.specs.Cells.{ample}
use Rattle.cell_progress.specs.Orders.{cell_of}

-- an entry passes all the tests of its kind
abbrev pub Allowed : Snapshot → Entry → Type 0
Allowed s e = Passed (tests ample (cell_of s) e)

none_of : (o : Option Refusal) → is_none_or_full o ≡ true → o ≢ Some JournalFull → o ≡ None
none_of None h n = refl
none_of (Some JournalFull) h n = absurd (n refl)
none_of (Some _) h n = cc

with_room : (b : Bool) (ts : List (Bool × Refusal)) → b ≡ false
    → is_none_or_full (first_true ((b, JournalFull) ∷ ts)) ≡ true → is_none_or_full (first_true ts) ≡ true
unfolding first_true
with_room true ts e h = cc
with_room false ts e h = h

-- the cell is told without its journal's length, so there is room
pub no_full : (e : Entry) → is_full 1000000 0 e ≡ false
no_full (Declared m cause) = refl
no_full _ = refl

pub passes : (s : Snapshot) (e : Entry) → is_bookable ample (cell_of s) e ≡ true → Allowed s e
unfolding is_bookable
passes s e h =
    let ts = kind_tests ample (cell_of s) e in
    let k : is_none_or_full (first_true ts) ≡ true = with_room (is_full 1000000 0 e) ts (no_full e) h in
    (no_full e, none_refused ts (none_of (first_true ts) k (not_full ample (cell_of s) e)))
