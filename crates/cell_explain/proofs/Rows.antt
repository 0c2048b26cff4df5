-- Steps of a walk through the records of a text
use Rattle.std.proofs.Common.{◌≡◌, ◌+◌, ◌<◌, ℕ, Bool, true, List, ◌∷◌, Option, Some, None, IfSome, ap, arith}
use Rattle.std.proofs.Common.{drop}
use Rattle.std.proofs.Common.{get_or, length, subst, sym, ◌∙◌}
use Rattle.std.specs.Prelude.{⊤, slice_get}
use Rattle.std.proofs.lemmas.List.{drop_more, length-drop}
use Rattle.std.proofs.lemmas.Option.{slice_get-get_or}
use Rattle.cell_rows.specs.Rows.{Row, TakesRow}
use Rattle.cell_types.specs.declared.words.Entry.{Entry}
use Rattle.cell_types.specs.Records.{read_row}
use Rattle.cell_explain.specs.Told.{IsEntryOf}

-- what is left behind the first n elements begins with the one at n
at-drop : {X : Type 0} (xs : List X) (n : ℕ) (x : X) (rest : List X) → drop n xs ≡ x ∷ rest
    → (slice_get xs n ≡ Some x) × (drop (n + 1) xs ≡ rest)
at-drop xs n x rest h =
    let some : length (drop n xs) ≡ length (x ∷ rest) = ap length h in
    let inside : n < length xs = omega (arith, some, length-drop n xs) in
    let more : drop n xs ≡ get_or xs n x ∷ drop (n + 1) xs = drop_more xs n x inside in
    let both : get_or xs n x ∷ drop (n + 1) xs ≡ x ∷ rest = sym more ∙ h in
    let head : get_or xs n x ≡ x = cc both in
    let tail : drop (n + 1) xs ≡ rest = cc both in
    (slice_get-get_or xs n x inside ∙ ap Some head, tail)

-- the records left of these, where they are known, when n were read
abbrev pub IsLeft : Option (List Row) → Option (List Row) → ℕ → Type 0
IsLeft None left n = ⊤
IsLeft (Some all) left n = left ≡ Some (drop n all)

takes-one : (all : List Row) (n : ℕ) (new : Option (List Row)) (row : Row) → TakesRow (Some (drop n all)) new row true
    → (slice_get all n ≡ Some row) × (new ≡ Some (drop (n + 1) all))
takes-one all n None row h = absurd h
takes-one all n (Some rest) row h =
    let at = at-drop all n row rest h in
    (at.0, ap Some (sym at.1))

takes-of : (all : List Row) (left new : Option (List Row)) (n : ℕ) (row : Row) (found : Bool) → left ≡ Some (drop n all)
    → found ≡ true → TakesRow left new row found → TakesRow (Some (drop n all)) new row true
takes-of all left new n row found so_far is takes =
    subst (λ (l : Option (List Row)). TakesRow l new row true) so_far
    (subst (λ (b : Bool). TakesRow left new row b) is takes)

pub left-more : (old left new : Option (List Row)) (n : ℕ) (row : Row) (found : Bool) → IsLeft old left n → found ≡ true
    → TakesRow left new row found → IsLeft old new (n + 1)
left-more None left new n row found so_far is takes = tt
left-more (Some all) left new n row found so_far is takes =
    (takes-one all n new row (takes-of all left new n row found so_far is takes)).1

-- the record that was read last is that of its number
pub entry-read : (old left new : Option (List Row)) (n m : ℕ) (row : Row) (found : Bool) (e : Option Entry) → n ≡ m
    → IsLeft old left n → found ≡ true → TakesRow left new row found → e ≡ read_row row
    → IfSome old (λ all. IfSome e (IsEntryOf all m))
entry-read None left new n m row found e same so_far is takes read = tt
entry-read (Some all) left new n m row found None same so_far is takes read = tt
entry-read (Some all) left new n m row found (Some e) same so_far is takes read =
    let at : slice_get all n ≡ Some row =
    (takes-one all n new row (takes-of all left new n row found so_far is takes)).0 in
    (row, subst (λ (k : ℕ). slice_get all k ≡ Some row) same at, sym read)
