-- What a machine does next is useful for it, and it does nothing only where nothing is
use Rattle.std.proofs.Common.{◌≡◌, ℕ, true, false, Option, Some, None, List, refl}
use Rattle.std.specs.Prelude.{IfSome, IfNone}
use Rattle.std.specs.Option.{option_or}
use Rattle.cell_types.specs.declared.words.Machine.{Machine}
use Rattle.cell_types.specs.declared.words.Machine.TheVariants as machine
use Rattle.cell_types.specs.declared.words.Entry.{Entry}
use Rattle.cell_rules.specs.declared.limits.BookLimits.{BookLimits}
use Rattle.cell_rules.specs.Situations.{Situation, situation_of}
use Rattle.cell_machines.specs.Useful.{is_useful, is_useful_now}
use Rattle.cell_machines.specs.Candidates.{first_bookable, preferred, proposed, proposed_now, rows, unloads}
use Rattle.cell_machines.proofs.Complete.{none_useful, some_useful}
use Rattle.cell_machines.proofs.Unloading.{unloading_law}

some_or : (a b : Option Entry) (P : Entry → Type 0) → IfSome a P → IfSome b P → IfSome (option_or a b) P
some_or (Some x) b P f g = f
some_or None b P f g = g

none_or : (a b : Option Entry) (P : Type 0) → IfNone b P → IfNone (option_or a b) P
none_or (Some x) b P g = tt
none_or None b P g = g

preferred_useful : (l : BookLimits) (c : Situation) (plan : ℕ) (m : Machine)
    → IfSome (preferred l c m) (λ e. is_useful_now l c plan m e ≡ true)
preferred_useful l c plan machine.Feed = tt
preferred_useful l c plan machine.Table = tt
preferred_useful l c plan machine.Robot = unloading_law l c plan (first_bookable l c (unloads c)) refl
preferred_useful l c plan machine.Press1 = tt
preferred_useful l c plan machine.Press2 = tt
preferred_useful l c plan machine.Deposit = tt

pub preferred_law : (l : BookLimits) (c : Situation) (plan : ℕ) (m : Machine) (o : Option Entry) → o ≡ preferred l c m
    → IfSome o (λ e. is_useful_now l c plan m e ≡ true)
preferred_law l c plan m o h = rw h (preferred_useful l c plan m)

some_now : (l : BookLimits) (c : Situation) (plan : ℕ) (m : Machine)
    → IfSome (proposed_now l c plan m) (λ e. is_useful_now l c plan m e ≡ true)
unfolding proposed_now
some_now l c plan m = some_or (preferred l c m) (first_bookable l c (rows l c plan m))
    (λ e. is_useful_now l c plan m e ≡ true) (preferred_useful l c plan m)
    (some_useful l c plan m (first_bookable l c (rows l c plan m)) refl)

none_now : (l : BookLimits) (c : Situation) (plan : ℕ) (m : Machine)
    → IfNone (proposed_now l c plan m) ((e : Entry) → is_useful_now l c plan m e ≡ false)
unfolding proposed_now
none_now l c plan m = none_or (preferred l c m) (first_bookable l c (rows l c plan m))
    ((e : Entry) → is_useful_now l c plan m e ≡ false)
    (none_useful l c plan m (first_bookable l c (rows l c plan m)) refl)

pub some_proposed : (l : BookLimits) (J : List Entry) (plan : ℕ) (m : Machine) (o : Option Entry)
    → o ≡ proposed l J plan m → IfSome o (λ e. is_useful l J plan m e ≡ true)
some_proposed l J plan m o h = rw h (some_now l (situation_of J) plan m)

pub none_proposed : (l : BookLimits) (J : List Entry) (plan : ℕ) (m : Machine) (o : Option Entry)
    → o ≡ proposed l J plan m → IfNone o ((e : Entry) → is_useful l J plan m e ≡ false)
none_proposed l J plan m o h = rw h (none_now l (situation_of J) plan m)
