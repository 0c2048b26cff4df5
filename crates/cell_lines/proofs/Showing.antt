-- The words of a text, and the byte of those that are told
use Rattle.std.proofs.Common.{◌≡◌, ◌∙◌, ◌<◌, ◌≤◌, ◌+◌, ◌*◌, ◌-◌, ◌^◌, ◌||◌, ℕ, zero, suc, List, [], ◌∷◌, length, map}
use Rattle.std.proofs.Common.{take, drop, get_or, Bool, true, false, if◌then◌else◌, ap, sym, refl, arith, add-one}
use Rattle.std.proofs.Common.{drop-cons}
use mir.Val.{bool_byte}
use Rattle.std.specs.List.{list_any}
use Rattle.std.proofs.Math.Nat.{pow-suc}
use Rattle.std.proofs.Math.Pow.{pow_pos}
use Rattle.std.proofs.lemmas.List.{drop_all, get_or-map, length-drop, length-map, take_all}
use Rattle.std.proofs.lemmas.List.Folds.{list_any_at, list_any_more}
use Rattle.cell_lines.specs.Shown.{byte_of, is_among}

-- one of these passes the test
pub any-here : {X : Type 0} (f : X → List ℕ) (p : List ℕ → Bool) (xs : List X) (i : ℕ) (d : X) → i < length xs
    → p (f (get_or xs i d)) ≡ true → list_any p (map f xs) ≡ true
any-here f p xs i d within h =
    list_any_at p (map f xs) i (f d) (omega (arith, length-map xs f, within))
    (ap p (get_or-map f xs i d (f d) within) ∙ h)

-- none so far, and not this one
pub none-more : {X : Type 0} (f : X → List ℕ) (p : List ℕ → Bool) (xs : List X) (i : ℕ) (d : X) → i < length xs
    → list_any p (take i (map f xs)) ≡ false → p (f (get_or xs i d)) ≡ false
    → list_any p (take (i + 1) (map f xs)) ≡ false
none-more f p xs i d within none h =
    list_any_more p (map f xs) i (f d) (omega (arith, length-map xs f, within))
    ∙ ap (λ v. v || p (get_or (map f xs) i (f d))) none ∙ ap p (get_or-map f xs i d (f d) within) ∙ h

-- none at all
pub none-all : {X : Type 0} (f : X → List ℕ) (p : List ℕ → Bool) (xs : List X) (i : ℕ) → length xs ≤ i
    → list_any p (take i (map f xs)) ≡ false → list_any p (map f xs) ≡ false
none-all f p xs i past none =
    let size : length (map f xs) ≤ i = omega (arith, length-map xs f, past) in
    ap (list_any p) (sym (take_all i (map f xs) size)) ∙ none

-- a byte of so many words
pub byte-small : (words told : List (List ℕ)) (n : ℕ) → length words ≤ n → byte_of words told < 2 ^ n
unfolding byte_of
byte-small [] told n few = pow_pos n
byte-small (word ∷ words) told zero few = absurd (omega (arith, few))
byte-small (word ∷ words) told (suc n) few =
    let rest : byte_of words told < 2 ^ n = byte-small words told n (omega (arith, few)) in
    elim (is_among told word) as (λ v. (if v then 1 else 0) + 2 * byte_of words told < 2 ^ suc n) [
      | true ↦ omega (arith, rest, pow-suc 2 n)
      | false ↦ omega (arith, rest, pow-suc 2 n)
    ]

-- no word is left
pub byte-none-of : {X : Type 0} (f : X → List ℕ) (xs : List X) (told : List (List ℕ))
    → 0 ≡ byte_of (drop (length xs) (map f xs)) told
unfolding byte_of
byte-none-of f xs told =
    let size : length (map f xs) ≤ length xs = omega (arith, length-map xs f) in
    ap (λ ws. byte_of ws told) (sym (drop_all (length xs) (map f xs) size))

-- one word before the others
pub byte-more : {X : Type 0} (f : X → List ℕ) (xs : List X) (told : List (List ℕ)) (i : ℕ) (d : X) (b : Bool)
    → i < length xs → b ≡ is_among told (f (get_or xs i d))
    → (if b then 1 else 0) + 2 * byte_of (drop (i + 1) (map f xs)) told ≡ byte_of (drop i (map f xs)) told
unfolding byte_of
byte-more f xs told i d b within is =
    let size : i < length (map f xs) = omega (arith, length-map xs f, within) in
    ap (λ v. (if v then 1 else 0) + 2 * byte_of (drop (i + 1) (map f xs)) told)
    (is ∙ ap (is_among told) (sym (get_or-map f xs i d (f d) within)))
    ∙ ap (λ n. (if is_among told (get_or (map f xs) i (f d)) then 1 else 0) + 2 * byte_of (drop n (map f xs)) told)
    (add-one i)
    ∙ ap (λ ws. byte_of ws told) (sym (drop-cons (map f xs) i (f d) size))

as-number : (b : Bool) → bool_byte b ≡ (if b then 1 else 0)
as-number true = refl
as-number false = refl

pub at-most-one : (b : Bool) (n : ℕ) → n ≡ bool_byte b → n ≤ 1
at-most-one true n is = omega (arith, is)
at-most-one false n is = omega (arith, is)

-- the byte so far, with one word before the others
pub byte-step : {X : Type 0} (f : X → List ℕ) (xs : List X) (told : List (List ℕ)) (place : ℕ) (d : X) (b : Bool)
    (byte one : ℕ) → 0 < place → place ≤ length xs → b ≡ is_among told (f (get_or xs (place - 1) d))
    → one ≡ bool_byte b → byte ≡ byte_of (drop place (map f xs)) told
    → byte * 2 + one ≡ byte_of (drop (place - 1) (map f xs)) told
byte-step f xs told place d b byte one some within is bit so_far =
    let next : place ≡ (place - 1) + 1 = omega (arith, some) in
    let before : byte ≡ byte_of (drop ((place - 1) + 1) (map f xs)) told =
    so_far ∙ ap (λ n. byte_of (drop n (map f xs)) told) next in
    let turned : byte * 2 + one ≡ one + 2 * byte = omega arith in
    turned ∙ ap (λ n. n + 2 * byte) (bit ∙ as-number b)
    ∙ ap (λ n. (if b then 1 else 0) + 2 * n) before
    ∙ byte-more f xs told (place - 1) d b (omega (arith, some, within)) is

-- before the last word there is room in a byte
pub byte-room : {X : Type 0} (f : X → List ℕ) (xs : List X) (told : List (List ℕ)) (place byte : ℕ) → 0 < place
    → length xs ≤ 6 → byte ≡ byte_of (drop place (map f xs)) told → byte < 32
byte-room f xs told place byte some few so_far =
    let size : length (drop place (map f xs)) ≤ 5 =
    omega (arith, length-drop place (map f xs), length-map xs f, some, few) in
    omega (arith, so_far, byte-small (drop place (map f xs)) told 5 size)
