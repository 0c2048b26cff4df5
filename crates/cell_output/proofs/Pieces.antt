-- Pieces of a text, written one after the other.
use Rattle.std.proofs.Common.{◌≡◌, ◌<◌, ◌+◌, ◌-◌, ◌∙◌, ℕ, zero, suc, List, [], ◌∷◌, ◌++◌, map, length, get_or, take}
use Rattle.std.proofs.Common.{drop, Option, sym, ap, refl, arith, add-one, append_assoc, append-nil, length-append}
use Rattle.std.proofs.Common.{length-drop}
use Rattle.std.specs.List.{concat}
use Rattle.std.specs.Io.KnownBytes.{Appends}
use Rattle.std.proofs.KnownBytes.{Appends-trans}
use Rattle.std.proofs.Math.Seq.{take-append-add}
use Rattle.std.proofs.lemmas.List.{take-append-le, take_all}
use Rattle.cell_output.specs.Watched.{WritesPart}

-- the rest of a slice
pub slice-end : (bytes : List ℕ) (from : ℕ) → take (length bytes - from) (drop from bytes) ≡ drop from bytes
slice-end bytes from =
    let rest = length-drop from bytes in
    take_all (length bytes - from) (drop from bytes) (omega arith)

-- a part of what comes next, after what was written
pub part-after : (a b c : Option (List ℕ)) (done next rest whole : List ℕ) → whole ≡ done ++ (next ++ rest)
    → Appends a b done → WritesPart b c next → WritesPart a c whole
part-after a b c done next rest whole is x (n, short, y) = (
  length done + n,
  rw is (omega (arith, short, length-append done (next ++ rest), length-append next rest)),
  rw (is, take-append-add done (next ++ rest) n, take-append-le n next rest (omega (arith, short)))
      (Appends-trans a b c done (take n next) x y),
)

-- the pieces before one, its own bytes and the pieces after it
pub pieces-split : {X : Type 0} (f : X → List ℕ) (xs : List X) (i : ℕ) (x : X) → i < length xs
    → concat (map f xs) ≡ concat (map f (take i xs)) ++ (f (get_or xs i x) ++ concat (map f (drop (i + 1) xs)))
pieces-split f [] i x h = absurd (omega arith)
pieces-split f (y ∷ xs) zero x h = refl
pieces-split f (y ∷ xs) (suc i) x h =
    rw (add-one (suc i)) (ap (λ (t : List ℕ). f y ++ t) (rw (add-one i) at (pieces-split f xs i x (omega arith)))
    ∙ sym (append_assoc (f y) (concat (map f (take i xs))) _))

-- one piece more
pub pieces-more : {X : Type 0} (f : X → List ℕ) (xs : List X) (i : ℕ) (x : X) → i < length xs
    → concat (map f (take (i + 1) xs)) ≡ concat (map f (take i xs)) ++ f (get_or xs i x)
pieces-more f [] i x h = absurd (omega arith)
pieces-more f (y ∷ xs) zero x h = append-nil (f y)
pieces-more f (y ∷ xs) (suc i) x h =
    rw (add-one (suc i)) (ap (λ (t : List ℕ). f y ++ t) (rw (add-one i) at (pieces-more f xs i x (omega arith)))
    ∙ sym (append_assoc (f y) (concat (map f (take i xs))) (f (get_or xs i x))))

pub piece-after : {X : Type 0} (a b c : Option (List ℕ)) (f : X → List ℕ) (xs : List X) (i : ℕ) (x : X) → i < length xs
    → Appends a b (concat (map f (take i xs))) → Appends b c (f (get_or xs i x))
    → Appends a c (concat (map f (take (i + 1) xs)))
piece-after a b c f xs i x h before next = rw (pieces-more f xs i x h) (Appends-trans a b c _ _ before next)

-- the bytes of no piece stand behind those before, and then those of one more
pub gathered-none : {X : Type 0} (f : X → List ℕ) (xs : List X) (before : List ℕ)
    → before ≡ before ++ concat (map f (take 0 xs))
gathered-none f xs before = sym (append-nil before)

pub gathered-more : {X : Type 0} (f : X → List ℕ) (xs : List X) (i : ℕ) (x : X) (before so_far new : List ℕ)
    → i < length xs → so_far ≡ before ++ concat (map f (take i xs)) → new ≡ so_far ++ f (get_or xs i x)
    → new ≡ before ++ concat (map f (take (i + 1) xs))
gathered-more f xs i x before so_far new inside same next =
    next ∙ ap (λ bytes. bytes ++ f (get_or xs i x)) same
    ∙ append_assoc before (concat (map f (take i xs))) (f (get_or xs i x))
    ∙ sym (ap (λ bytes. before ++ bytes) (pieces-more f xs i x inside))
