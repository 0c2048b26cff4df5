-- The bytes in sight after a read
use Rattle.std.proofs.Common.{◌≡◌, ◌≤◌, ◌+◌, ◌-◌, ◌∙◌, ℕ, List, [], ◌++◌, length, take, drop, min, Option, Some, None}
use Rattle.std.proofs.Common.{Result, sym, ap, refl, arith, append_assoc, inl, inr}
use Rattle.std.specs.Prelude.{◌∷◌, false, option_map, slice_range}
use Rattle.csv.specs.Reading.{records_from, strip_bom}
use Rattle.csv.specs.Machine.{next_record}
use Rattle.cell_rows.specs.Rows.{Row, TakesRow, rows_of}
use Rattle.cell_rows.specs.Sights.{FeedsTwice, HasNoLine, KeepsRows}
use Rattle.cell_rows.proofs.RowFacts.{after_feed, unmarked}
use Rattle.std.specs.List.{copy_within}
use Rattle.std.specs.Io.KnownBytes.{Consumes, IsAtEnd, Keeps, ReadConsumes, prepend_known}
use Rattle.std.proofs.lemmas.List.Edits.{length-between}
use Rattle.std.proofs.lemmas.List.{length-drop, length-take, nil_from_length, take-append-le}
use Rattle.std.proofs.lemmas.Slice.{between_from_start}
use Rattle.std.proofs.Math.Seq.{take-append-add, take-append_seam}
use borrow.Rule.Slice.PartMut.{post_of, put_mid}

-- the bytes in sight were moved to the front, and n bytes were read behind them
pub sight_after : (xs new : List ℕ) (at filled m n : ℕ) → at ≤ filled → filled ≤ length xs → n ≤ length new
    → slice_range (put_mid (filled - at) m (copy_within xs at filled 0) new) 0 (filled - at + n)
    ≡ slice_range xs at filled ++ take n new
sight_after xs new at filled m n low high few =
    let front = slice_range xs at filled in
    let moved = copy_within xs at filled 0 in
    let post = post_of (filled - at) m moved in
    let len : length front ≡ filled - at = length-between xs at filled high in
    let first : take (filled - at) moved ≡ front = ap (λ (k : ℕ). take k moved) (sym len)
    ∙ take-append_seam front (drop (0 + (filled - at)) xs) in
    between_from_start (put_mid (filled - at) m moved new) (filled - at + n)
    ∙ ap (λ (l : List ℕ). take (filled - at + n) (l ++ (new ++ post))) first
    ∙ ap (λ (k : ℕ). take (k + n) (front ++ (new ++ post))) (sym len)
    ∙ take-append-add front (new ++ post) n
    ∙ ap (λ (l : List ℕ). front ++ l) (take-append-le n new post few)

-- what was read is left, before what the reader has left
pub read_on : (before after : Option (List ℕ)) (xs ys zs : List ℕ) → Consumes before after ys → zs ≡ xs ++ ys
    → Keeps (prepend_known xs before) (prepend_known zs after)
read_on None after xs ys zs h e = tt
read_on (Some bs) None xs ys zs h e = h
read_on (Some bs) (Some cs) xs ys zs h e = rw (e, h) (append_assoc xs ys cs)

prepend_nothing : (o : Option (List ℕ)) → prepend_known [] o ≡ o
prepend_nothing None = refl
prepend_nothing (Some xs) = refl

-- a read with no byte in sight is the reader's
pub read_through : {E : Type 0} (before after : Option (List ℕ)) (xs : List ℕ) (r : Result ℕ E) (buf : List ℕ) → xs ≡ []
    → ReadConsumes before after r buf
    → ReadConsumes (prepend_known xs before) (prepend_known xs after) r buf
read_through before after xs r buf none h = rw (none, prepend_nothing before, prepend_nothing after) h

-- a part of the bytes in sight is handed out
pub handed_out : (known : Option (List ℕ)) (xs ys zs : List ℕ) → xs ≡ ys ++ zs
    → Consumes (prepend_known xs known) (prepend_known zs known) ys
handed_out None xs ys zs e = tt
handed_out (Some bs) xs ys zs e = rw e (append_assoc ys zs bs)

-- no byte is in sight
pub none_in_sight : (xs : List ℕ) (at filled : ℕ) → min filled (length xs) ≤ at → slice_range xs at filled ≡ []
none_in_sight xs at filled h =
    let none : min (filled - at) (length xs - at) ≡ 0 = omega arith in
    nil_from_length (slice_range xs at filled) (length-take (filled - at) (drop at xs)
    ∙ ap (λ (n : ℕ). min (filled - at) n) (length-drop at xs) ∙ none)

-- a blank line is passed over
pub blank_passed : (known : Option (List ℕ)) (xs : List ℕ) (at filled : ℕ) → FeedsTwice xs at filled
    → option_map rows_of (prepend_known (slice_range xs (at + 1) filled) known)
    ≡ option_map rows_of (prepend_known (slice_range xs at filled) known)
blank_passed None xs at filled feeds = refl
blank_passed (Some bs) xs at filled (more, first, second) =
    let rest = slice_range xs (at + 2) filled ++ bs in
    rw (first, second) (ap Some (unmarked 10 rest (λ e. cc e) ∙ sym (after_feed (10 ∷ rest))))

-- no record is left where the text ends behind the line feed of the line before
no_line : (xs ys : List ℕ) → HasNoLine xs → ys ≡ [] → rows_of (xs ++ ys) ≡ []
unfolding records_from strip_bom next_record
no_line xs ys (inl none) end = rw (none, end) refl
no_line xs ys (inr feed) end = rw (feed, end) refl

pub ended : (before : Option (List Row)) (mid known : Option (List ℕ)) (xs : List ℕ) (row : Row)
    → KeepsRows before (option_map rows_of mid) → Keeps mid (prepend_known xs known) → IsAtEnd known → HasNoLine xs
    → TakesRow before (option_map rows_of (prepend_known xs known)) row false
ended None mid known xs row kept same end none = tt
ended (Some rows) None known xs row kept same end none = absurd kept
ended (Some rows) (Some ys) None xs row kept same end none = absurd same
ended (Some rows) (Some ys) (Some zs) xs row kept same end none =
    sym kept ∙ ap rows_of (sym same) ∙ no_line xs zs none end
