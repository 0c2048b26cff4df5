-- What was written of a text
use Rattle.std.proofs.Common.{◌≡◌, ℕ, List, length, Option, sym, subst, arith}
use Rattle.std.specs.Io.KnownBytes.{Appends}
use Rattle.std.proofs.KnownBytes.{Appends-nil}
use Rattle.std.proofs.lemmas.List.{take_all}
use Rattle.cell_lines.specs.Stands.{WritesSome}

-- all of it
pub wrote-all : (a b : Option (List ℕ)) (text : List ℕ) → Appends a b text → WritesSome text a b
wrote-all a b text h =
    (length text, omega arith, subst (Appends a b) (sym (take_all (length text) text (omega arith))) h)

-- nothing of it
pub wrote-none : (a : Option (List ℕ)) (text : List ℕ) → WritesSome text a a
wrote-none a text = (0, omega arith, Appends-nil a)

-- the same, and what came then wrote nothing
pub wrote-still : (a b c : Option (List ℕ)) (text : List ℕ) → WritesSome text a b → c ≡ b → WritesSome text a c
wrote-still a b c text h same = subst (λ x. WritesSome text a x) (sym same) h
