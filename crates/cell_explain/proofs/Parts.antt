-- Lines of which something is known
use Rattle.std.proofs.Common.{◌≡◌, ◌≤◌, ℕ, List, Result, Ok, Err, IfOk, append-nil, arith, inl, inr, length, map}
use Rattle.std.proofs.Common.{subst, sym}
use Rattle.std.specs.Prelude.{nat_lt}
use Rattle.std.proofs.lemmas.Bool.{cases_Bool}
use Rattle.std.proofs.lemmas.Bool.Decides.{Decides-ltb}
use Rattle.std.proofs.lemmas.List.{take_all}
use Rattle.cell_explain.specs.declared.wanted.Trouble.{Trouble}
use Rattle.cell_explain.specs.Sayings.{long_line, profile_line, record_line, shown, shown_byte}
use Rattle.cell_explain.specs.Places.{HasLine, HasRecord}
use Rattle.cell_explain.specs.Told.{SaysRecord, SaysUnreadable}

-- a record that isn't long is shown whole
pub short-shown : (bytes : List ℕ) → length bytes ≤ 80 → map shown_byte bytes ≡ shown bytes
short-shown bytes h = elim (cases_Bool (nat_lt 80 (length bytes))) [
  | inl long ↦ absurd (omega (arith, (Decides-ltb 80 (length bytes)).0 long))
  | inr short ↦ rw (take_all 80 bytes h, short) (sym (append-nil (map shown_byte bytes)))
]

-- the line of a script that is too long is that of its first record too many
pub some-line : {S E : Type 0} (r : Result S E) (bytes : S → List ℕ) (text place : List ℕ) (n : ℕ)
    → HasRecord text 1000 n place → IfOk r (λ s. bytes s ≡ long_line n)
    → IfOk r (λ s. (line : ℕ) × HasLine text 1000 line × (bytes s ≡ long_line line))
some-line (Ok s) bytes text place n stands h = (n, (place, stands), h)
some-line (Err e) bytes text place n stands h = tt

-- the first record is told
pub first-line : {S E : Type 0} (r : Result S E) (bytes : S → List ℕ) (text place : List ℕ) (number line : ℕ)
    → number ≡ 0 → HasRecord text number line place → IfOk r (λ s. bytes s ≡ profile_line line)
    → IfOk r (λ s. SaysUnreadable text number (bytes s))
first-line (Ok s) bytes text place number line is stands h =
    inl (is, (line, (place, subst (λ n. HasRecord text n line place) is stands), h))
first-line (Err e) bytes text place number line is stands h = tt

-- a record that can't be read is told
pub record-told : {S E : Type 0} (r : Result S E) (bytes : S → List ℕ) (text name : List ℕ) (place number at : ℕ)
    (record_bytes : List ℕ) (why : Trouble) → HasRecord text place at record_bytes
    → IfOk r (λ s. bytes s ≡ record_line at name number record_bytes why)
    → IfOk r (λ s. SaysRecord text name place number (bytes s))
record-told (Ok s) bytes text name place number at record_bytes why has h = (at, record_bytes, why, has, h)
record-told (Err e) bytes text name place number at record_bytes why has h = tt
