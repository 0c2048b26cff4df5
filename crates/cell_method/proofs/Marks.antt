-- The words whose bits a byte has, one after the other
use Rattle.std.proofs.Common.{◌≡◌, ◌∙◌, ◌≤◌, ◌<◌, ◌+◌, ℕ, List, [], ◌∷◌, ◌++◌, length, map, drop, get_or, Bool, true}
use Rattle.std.proofs.Common.{false, ap, sym, refl, arith, append_assoc, append-nil, drop-cons, add-one, suc}
use Rattle.std.proofs.lemmas.List.{drop_all, get_or-map, length-map}
use Rattle.cell_diagnosis.specs.Readings.{bit}
use Rattle.cell_method.specs.Shown.{shown_after, sign_after}

-- the next word
next-word : {X : Type 0} (f : X → List ℕ) (ws : List X) (i : ℕ) (d : X) → i < length ws
    → drop i (map f ws) ≡ f (get_or ws i d) ∷ drop (i + 1) (map f ws)
next-word f ws i d within =
    let size : i < length (map f ws) = omega (arith, length-map ws f) in
    drop-cons (map f ws) i [] size ∙ ap (λ word. word ∷ drop (suc i) (map f ws)) (get_or-map f ws i d [] within)
    ∙ ap (λ n. f (get_or ws i d) ∷ drop n (map f ws)) (sym (add-one i))

yes : (any : Bool) (byte i : ℕ) (word : List ℕ) (words : List (List ℕ)) → bit byte i ≡ true
    → shown_after any byte i (word ∷ words) ≡ (sign_after any ++ word) ++ shown_after true byte (i + 1) words
unfolding shown_after
yes any byte i word words is = rw is refl

no : (any : Bool) (byte i : ℕ) (word : List ℕ) (words : List (List ℕ)) → bit byte i ≡ false
    → shown_after any byte i (word ∷ words) ≡ shown_after any byte (i + 1) words
unfolding shown_after
no any byte i word words is = rw is refl

none : (any : Bool) (byte i : ℕ) → shown_after any byte i [] ≡ []
unfolding shown_after
none any byte i = refl

-- the word moves from what is left to what is written, with the sign before it
pub word-shown : {X : Type 0} (f : X → List ℕ) (ws : List X) (any : Bool) (byte i : ℕ) (d : X) (text sign all : List ℕ)
    → i < length ws → bit byte i ≡ true → sign ≡ sign_after any
    → text ++ shown_after any byte i (drop i (map f ws)) ≡ all
    → (text ++ (sign ++ f (get_or ws i d))) ++ shown_after true byte (i + 1) (drop (i + 1) (map f ws)) ≡ all
word-shown f ws any byte i d text sign all within is after so_far =
    let word = f (get_or ws i d) in
    let rest = shown_after true byte (i + 1) (drop (i + 1) (map f ws)) in
    append_assoc text (sign ++ word) rest ∙ ap (λ s. text ++ ((s ++ word) ++ rest)) after
    ∙ ap (λ xs. text ++ xs) (sym (yes any byte i word (drop (i + 1) (map f ws)) is))
    ∙ ap (λ xs. text ++ shown_after any byte i xs) (sym (next-word f ws i d within)) ∙ so_far

pub word-hidden : {X : Type 0} (f : X → List ℕ) (ws : List X) (any : Bool) (byte i : ℕ) (d : X) (text all : List ℕ)
    → i < length ws → bit byte i ≡ false
    → text ++ shown_after any byte i (drop i (map f ws)) ≡ all
    → text ++ shown_after any byte (i + 1) (drop (i + 1) (map f ws)) ≡ all
word-hidden f ws any byte i d text all within is so_far =
    ap (λ xs. text ++ xs) (sym (no any byte i (f (get_or ws i d)) (drop (i + 1) (map f ws)) is))
    ∙ ap (λ xs. text ++ shown_after any byte i xs) (sym (next-word f ws i d within)) ∙ so_far

-- no word is left, so all is written
pub words-done : {X : Type 0} (f : X → List ℕ) (ws : List X) (any : Bool) (byte i : ℕ) (text all : List ℕ)
    → length ws ≤ i → text ++ shown_after any byte i (drop i (map f ws)) ≡ all → text ≡ all
words-done f ws any byte i text all past so_far =
    let size : length (map f ws) ≤ i = omega (arith, length-map ws f, past) in
    sym (append-nil text) ∙ ap (λ xs. text ++ xs) (sym (none any byte i))
    ∙ ap (λ xs. text ++ shown_after any byte i xs) (sym (drop_all i (map f ws) size)) ∙ so_far
