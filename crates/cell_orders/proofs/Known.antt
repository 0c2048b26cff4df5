-- What was read, followed by what is left, is the text
use Rattle.std.proofs.Common.{◌≡◌, ◌+◌, ◌∙◌, ℕ, Bool, List, [], ◌++◌, length, take, drop, Option, Some, None, cond}
use Rattle.std.proofs.Common.{refl, sym, ap, append-nil}
use Rattle.std.specs.Prelude.{count_by, slice_range}
use Rattle.std.specs.Io.{StartsWith}
use Rattle.std.proofs.KnownBytes.{starts_with_rest}
use Rattle.std.proofs.lemmas.List.{length-drop}
use Rattle.std.proofs.lemmas.List.Sums.{sum_by-append}
use Rattle.std.proofs.Math.Seq.{take-length}
use Rattle.std.specs.Io.KnownBytes.{IsAtEnd, Keeps, prepend_known}
use Rattle.cell_orders.specs.Parts.{IsFirstPart, IsWhole}

-- what the reader has left is what comes after these bytes in the text
pub first-part : (known left : Option (List ℕ)) (bytes : List ℕ) → Keeps known (prepend_known bytes left)
    → IsFirstPart known bytes
first-part None left bytes h = tt
first-part (Some text) None bytes h = absurd h
first-part (Some text) (Some rest) bytes h = (rest, sym h)

-- at its end the reader has nothing left, so these bytes are all of the text
pub all-read : (known left : Option (List ℕ)) (bytes : List ℕ) → Keeps known (prepend_known bytes left) → IsAtEnd left
    → IsWhole known bytes
all-read None left bytes h e = tt
all-read (Some text) None bytes h e = absurd h
all-read (Some text) (Some rest) bytes h e = sym (append-nil bytes) ∙ ap (λ l. bytes ++ l) (sym e) ∙ h

-- nothing was read yet
pub nothing-read : (known : Option (List ℕ)) → Keeps known (prepend_known [] known)
nothing-read None = tt
nothing-read (Some text) = refl

-- the rest of a text
slice-end : (bytes : List ℕ) (from : ℕ) → slice_range bytes from (length bytes) ≡ drop from bytes
slice-end bytes from = ap (λ (k : ℕ). take k (drop from bytes)) (sym (length-drop from bytes))
    ∙ take-length (drop from bytes)

-- what is counted in a first part and behind it is counted in all
pub counted-on : (p : ℕ → Bool) (old new : List ℕ) (start n m : ℕ) → StartsWith new old → start ≡ length old
    → n ≡ count_by p old
    → m ≡ count_by p (slice_range new start (length new)) → n + m ≡ count_by p new
counted-on p old new start n m begins at first behind =
    let tail = drop (length old) new in
    let rest : slice_range new start (length new) ≡ tail = rw at (slice-end new (length old)) in
    ap (λ (k : ℕ). k + m) first
    ∙ ap (λ (k : ℕ). count_by p old + k) (behind ∙ ap (count_by p) rest)
    ∙ sym (sum_by-append (λ x. cond (p x) 1 0) old tail)
    ∙ ap (count_by p) (sym (starts_with_rest new old begins))
