-- The lines of totals, in the pieces in which they are written.
use Rattle.std.proofs.Common.{◌≡◌, ◌≢◌, true, false, List, ℕ, [], ◌∷◌, ◌++◌, append_assoc, inl, inr, refl}
use Rattle.std.specs.Prelude.{◌==◌, codes, decimal}
use Rattle.std.proofs.lemmas.Bool.{cases_Bool}
use Rattle.std.proofs.lemmas.Bool.Decides.{Decides-eqb}
use Rattle.cell_types.specs.declared.words.Totals.{Totals}
use Rattle.cell_audit.specs.Lines.{sixth_line, totals_lines}

-- the last pieces: the word and the digits of profile 2, and the line feed
last-pieces : (number n : ℕ) (w f : List ℕ)
    → (number ≡ 2 → (w ≡ codes "\nreinstated ") × (f ≡ decimal n)) → (number ≢ 2 → (w ≡ []) × (f ≡ []))
    → w ++ (f ++ 10 ∷ []) ≡ 10 ∷ sixth_line number n
last-pieces number n w f two other = elim (cases_Bool (number == 2)) [
  | inl y ↦ let (word, digits) = two ((Decides-eqb number 2).0 y) in rw (word, digits, y) refl
  | inr y ↦
      let no : number ≢ 2 = λ is. let bad : false ≡ true = rw y at ((Decides-eqb number 2).1 is) in cc bad in
      let (word, digits) = other no in
      rw (word, digits, y) refl
]

-- the pieces, where the digits are those of the totals
pub pieces-totals : (number : ℕ) (t : Totals) (a b c d e w f : List ℕ)
    → a ≡ decimal t.entries → b ≡ decimal t.admitted → c ≡ decimal t.forged → d ≡ decimal t.quarantined
    → e ≡ decimal t.delivered
    → (number ≡ 2 → (w ≡ codes "\nreinstated ") × (f ≡ decimal t.reinstated)) → (number ≢ 2 → (w ≡ []) × (f ≡ []))
    → codes "legal " ++ (a ++ (codes "\nadmitted "
    ++ (b ++ (codes "\nforged " ++ (c ++ (codes "\nquarantined "
    ++ (d ++ (codes "\ndelivered " ++ (e ++ (w ++ (f ++ 10 ∷ [])))))))))))
    ≡ totals_lines number t
pieces-totals number t a b c d e w f h i j k l two other =
    rw (h, i, j, k, l, last-pieces number t.reinstated w f two other) (simp append_assoc)
