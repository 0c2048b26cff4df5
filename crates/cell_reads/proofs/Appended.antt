-- Two lists of tests, one after the other
use Rattle.std.proofs.Common.{◌≡◌, Bool, true, false, Option, Some, None, is_some, List, [], ◌∷◌, ◌++◌, refl, ◌∙◌}
use Rattle.std.specs.Prelude.{if◌then◌else◌}
use Rattle.std.specs.Option.{option_or}
use Rattle.cell_rules.specs.declared.refusal.Refusal.{Refusal}
use Rattle.cell_rules.specs.First.{first_true}

or_first : (b : Bool) (r : Refusal) (x y : Option Refusal)
    → option_or (if b then Some r else x) y ≡ (if b then Some r else option_or x y)
or_first true r x y = refl
or_first false r x y = refl

if_same : (b : Bool) (r : Refusal) (x y : Option Refusal) → x ≡ y
    → (if b then Some r else x) ≡ (if b then Some r else y)
if_same true r x y e = refl
if_same false r x y e = e

-- the second list has its say only where no test of the first holds
pub first_true_append : (xs ys : List (Bool × Refusal))
    → option_or (first_true xs) (first_true ys) ≡ first_true (xs ++ ys)
unfolding first_true
first_true_append [] ys = refl
first_true_append (x ∷ xs) ys = rw (or_first x.0 x.1 (first_true xs) (first_true ys))
    (if_same x.0 x.1 _ _ (first_true_append xs ys))

by_some : (o p : Option Refusal) → is_some o ≡ true → o ≡ option_or o p
by_some (Some r) p h = refl
by_some None p h = cc

by_none : (o p : Option Refusal) → is_some o ≡ false → p ≡ option_or o p
by_none None p h = refl
by_none (Some r) p h = cc

-- what the first list refuses is refused
pub found_first : (xs ys : List (Bool × Refusal)) → is_some (first_true xs) ≡ true
    → first_true xs ≡ first_true (xs ++ ys)
found_first xs ys h = by_some (first_true xs) (first_true ys) h ∙ first_true_append xs ys

-- where it refuses nothing, the second list is asked
pub found_later : (xs ys : List (Bool × Refusal)) → is_some (first_true xs) ≡ false
    → first_true ys ≡ first_true (xs ++ ys)
found_later xs ys h = by_none (first_true xs) (first_true ys) h ∙ first_true_append xs ys
