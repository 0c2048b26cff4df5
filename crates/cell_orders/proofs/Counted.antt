-- How many records of a text were read
use Rattle.std.proofs.Common.{◌≡◌, ◌≤◌, ◌<◌, ◌+◌, ◌∙◌, ℕ, List, ◌∷◌, length, Option, Some, None, Bool, true, false}
use Rattle.std.proofs.Common.{arith, ap, refl, zero-add}
use Rattle.std.specs.Prelude.{⊤, IfSome, IsTrue, ◌↔◌, option_map}
use Rattle.cell_rows.specs.Rows.{Row, TakesRow, rows_of}

-- so many records were read, and these are left, where they are known
abbrev pub StillLeft : Option (List Row) → Option (List Row) → ℕ → Type 0
StillLeft None left count = ⊤
StillLeft (Some all) None count = ⊥
StillLeft (Some all) (Some left) count = count + length left ≡ length all

-- nothing was read yet, so all records are left
pub begin : (all left : Option (List Row)) → left ≡ all → StillLeft all left 0
begin None left e = tt
begin (Some all) None e = absurd (cc e)
begin (Some all) (Some left) e = let same : left ≡ all = cc e in zero-add (length left) ∙ ap length same

-- a record that is read passes from those that are left to those that are counted
pub more : (all old new : Option (List Row)) (row : Row) (count : ℕ) → StillLeft all old count
    → TakesRow old new row true → StillLeft all new (count + 1)
more None old new row count h t = tt
more (Some all) None new row count h t = absurd h
more (Some all) (Some old) None row count h t = absurd t
more (Some all) (Some old) (Some new) row count h t = let size : length old ≡ length (row ∷ new) =
    ap length t in omega arith

-- whether a text has so many records, where it is known
abbrev pub TellsCount : Option (List ℕ) → Bool → ℕ → Type 0
TellsCount known has most = IfSome known (λ text. IsTrue has ↔ (most ≤ length (rows_of text)))

-- the records gave out before so many were read, so the text has fewer
pub none : (known : Option (List ℕ)) (old new : Option (List Row)) (row : Row) (count most : ℕ)
    → StillLeft (option_map rows_of known) old count → TakesRow old new row false
    → count < most → TellsCount known false most
none None old new row count most h t less = tt
none (Some text) None new row count most h t less = absurd h
none (Some text) (Some old) None row count most h t less = absurd t
none (Some text) (Some old) (Some new) row count most h t less =
    let size : length old ≡ 0 = ap length t in
    (λ e. absurd (cc e), λ e. absurd (omega arith))

-- so many were read, and those that are left can only add to them
pub enough : (known : Option (List ℕ)) (left : Option (List Row)) (count : ℕ)
    → StillLeft (option_map rows_of known) left count → TellsCount known true count
enough None left count h = tt
enough (Some text) None count h = absurd h
enough (Some text) (Some left) count h = (λ e. omega arith, λ e. refl)
