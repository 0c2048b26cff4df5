-- One more item at the end of a list
use Rattle.std.proofs.Common.{◌≡◌, ℕ, ◌+◌, ◌-◌, Bool, true, false, ◌&&◌, ◌||◌, nat_le, List, [], ◌∷◌, ◌++◌, drop, take}
use Rattle.std.proofs.Common.{length, refl, ◌∙◌, ap, arith, length-append}
use Rattle.std.proofs.lemmas.List.{drop-append-le}
use Rattle.std.proofs.lemmas.List.Folds.{list_all-append, list_any-append}
use Rattle.std.proofs.lemmas.Bool.Decides.{nat_tests}
use Rattle.std.specs.List.{list_any, list_all}
use Rattle.cell_diagnosis.specs.Ends.{last_are, before_last}

and_true : (a : Bool) → (a && true) ≡ a
and_true true = refl
and_true false = refl

or_false : (a : Bool) → (a || false) ≡ a
or_false true = refl
or_false false = refl

and_assoc : (a b c : Bool) → (a && (b && c)) ≡ ((a && b) && c)
and_assoc true b c = refl
and_assoc false b c = refl

pub all_snoc : {X : Type 0} (p : X → Bool) (L : List X) (x : X)
    → list_all p (L ++ x ∷ []) ≡ (list_all p L && p x)
all_snoc p L x = list_all-append p L (x ∷ []) ∙ ap (λ b. list_all p L && b) (and_true (p x))

pub any_snoc : {X : Type 0} (p : X → Bool) (L : List X) (x : X)
    → list_any p (L ++ x ∷ []) ≡ (list_any p L || p x)
any_snoc p L x = list_any-append p L (x ∷ []) ∙ ap (λ b. list_any p L || b) (or_false (p x))

pub length_snoc : {X : Type 0} (L : List X) (x : X) → length (L ++ x ∷ []) ≡ length L + 1
length_snoc L x = length-append L (x ∷ [])

le_same : (n k : ℕ) → nat_le (n + 1) (k + 1) ≡ nat_le n k
le_same n k = grind (arith, nat_tests)

minus_same : (n k : ℕ) → (k + 1) - (n + 1) ≡ k - n
minus_same n k = omega arith

-- the last n + 1 items pass a test where the last n before them do, and the new one
pub last_snoc : {X : Type 0} (n : ℕ) (p : X → Bool) (L : List X) (x : X)
    → last_are (n + 1) p (L ++ x ∷ []) ≡ (last_are n p L && p x)
unfolding last_are
last_snoc n p L x =
    rw (
      length_snoc L x,
      le_same n (length L),
      minus_same n (length L),
      drop-append-le (length L - n) L (x ∷ []) (omega arith),
      all_snoc p (drop (length L - n) L) x,
    )
    (and_assoc (nat_le n (length L)) (list_all p (drop (length L - n) L)) (p x))

drop_all : {X : Type 0} (L : List X) → drop (length L) L ≡ []
drop_all [] = refl
drop_all (x ∷ L) = drop_all L

le_zero : (k : ℕ) → nat_le 0 k ≡ true
le_zero k = grind (arith, nat_tests)

minus_zero : (k : ℕ) → k - 0 ≡ k
minus_zero k = omega arith

-- for the case of one item: nothing is asked of those before it
none_are : {X : Type 0} (p : X → Bool) (L : List X) → last_are 0 p L ≡ true
unfolding last_are
none_are p L = rw (le_zero (length L), minus_zero (length L), drop_all L)

pub one_snoc : {X : Type 0} (p : X → Bool) (L : List X) (x : X) → last_are 1 p (L ++ x ∷ []) ≡ p x
one_snoc p L x = last_snoc 0 p L x ∙ ap (λ b. b && p x) (none_are p L)

pub two_snoc : {X : Type 0} (p : X → Bool) (L : List X) (x : X)
    → last_are 2 p (L ++ x ∷ []) ≡ (last_are 1 p L && p x)
two_snoc p L x = last_snoc 1 p L x

pub three_snoc : {X : Type 0} (p : X → Bool) (L : List X) (x : X)
    → last_are 3 p (L ++ x ∷ []) ≡ (last_are 2 p L && p x)
three_snoc p L x = last_snoc 2 p L x

take_front : {X : Type 0} (L M : List X) → take (length L) (L ++ M) ≡ L
take_front [] [] = refl
take_front [] (x ∷ M) = refl
take_front (x ∷ L) M = ap (λ l. x ∷ l) (take_front L M)

add_minus : (k : ℕ) → (k + 1) - 1 ≡ k
add_minus k = omega arith

pub before_snoc : {X : Type 0} (L : List X) (x : X) → before_last (L ++ x ∷ []) ≡ L
unfolding before_last
before_snoc L x = rw (length_snoc L x, add_minus (length L)) (take_front L (x ∷ []))
