-- A walk through the elements from a place on
use Rattle.std.proofs.Common.{◌≡◌, ◌+◌, ◌-◌, ◌≤◌, ℕ, zero, suc, List, [], ◌∷◌, Some, arith, ap}
use Rattle.std.proofs.Common.{drop, take, length, subst}
use Rattle.std.specs.Prelude.{slice_get}
use Rattle.std.proofs.lemmas.List.{length-drop, take_all}

-- the elements between two places
abbrev pub between : {X : Type 0} → ℕ → ℕ → List X → List X
between before place xs = take (place - before) (drop before xs)

behind : {X : Type 0} (xs : List X) (before n : ℕ) (x : X) → slice_get xs (n + before) ≡ Some x
    → slice_get (drop before xs) n ≡ Some x
behind xs zero n x at =
    let same : n + 0 ≡ n = omega arith in
    subst (λ (k : ℕ). slice_get xs k ≡ Some x) same at
behind [] (suc before) n x at = cc at
behind (y ∷ xs) (suc before) n x at =
    let next : n + suc before ≡ suc (n + before) = omega arith in
    behind xs before n x (subst (λ (k : ℕ). slice_get (y ∷ xs) k ≡ Some x) next at)

-- the element at a place, among those from an earlier place on
pub get-onward : {X : Type 0} (xs : List X) (before place : ℕ) (x : X) → before ≤ place → slice_get xs place ≡ Some x
    → slice_get (drop before xs) (place - before) ≡ Some x
get-onward xs before place x from at =
    let same : place ≡ (place - before) + before = omega arith in
    behind xs before (place - before) x (subst (λ (n : ℕ). slice_get xs n ≡ Some x) same at)

-- one place on
pub one-onward : {X : Type 0} (xs : List X) (before place : ℕ) → before ≤ place
    → between before (place + 1) xs ≡ take ((place - before) + 1) (drop before xs)
one-onward xs before place from =
    let next : (place + 1) - before ≡ (place - before) + 1 = omega arith in
    ap (λ (n : ℕ). take n (drop before xs)) next

-- none stand between a place and itself
pub between-none : {X : Type 0} (before : ℕ) (xs : List X) → between before before xs ≡ []
between-none before xs =
    let none : before - before ≡ 0 = omega arith in
    ap (λ (n : ℕ). take n (drop before xs)) none

-- all that stand from a place on, at the end
pub between-all : {X : Type 0} (before place : ℕ) (xs : List X) → length xs ≤ place → before ≤ place
    → between before place xs ≡ drop before xs
between-all before place xs past from =
    let long : length (drop before xs) ≡ length xs - before = length-drop before xs in
    take_all (place - before) (drop before xs) (omega (arith, long))
