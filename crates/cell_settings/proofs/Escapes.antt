-- What is printed of a path, character by character
use Rattle.std.proofs.Common.{◌≡◌, ℕ, List, [], ◌++◌, Option, ap, append_assoc, append-nil, encode_utf8, sym, subst}
use Rattle.std.proofs.Common.{◌∙◌}
use Rattle.std.specs.Prelude.{flat_map}
use Rattle.std.specs.Str.{IsUtf8, chars}
use Rattle.std.specs.Io.KnownBytes.{Appends}
use Rattle.std.proofs.lemmas.Str.{chars-nil, chars_past_char}
use Rattle.cell_settings.specs.Checked.{escaped, escaped_char}

-- what is left, parted behind its first character
pub escaped-split : (done text rest : List ℕ) (c : ℕ) (whole : List ℕ) → IsUtf8 text → text ≡ encode_utf8 c ++ rest
    → done ++ escaped text ≡ whole
    → whole ≡ done ++ (escaped_char c ++ escaped rest)
escaped-split done text rest c whole is parts so_far =
    sym so_far ∙ ap (λ (cs : List ℕ). done ++ flat_map escaped_char cs) (chars_past_char text rest c is parts)

-- a character more
pub escaped-more : (done text rest : List ℕ) (c : ℕ) (whole : List ℕ) → IsUtf8 text → text ≡ encode_utf8 c ++ rest
    → done ++ escaped text ≡ whole
    → (done ++ escaped_char c) ++ escaped rest ≡ whole
escaped-more done text rest c whole is parts so_far =
    append_assoc done (escaped_char c) (escaped rest) ∙ sym (escaped-split done text rest c whole is parts so_far)

-- no character more
pub escaped-end : (a b : Option (List ℕ)) (done rest whole : List ℕ) → rest ≡ [] → done ++ escaped rest ≡ whole
    → Appends a b done → Appends a b whole
escaped-end a b done rest whole none so_far x =
    subst (λ (bytes : List ℕ). Appends a b bytes)
    (sym (append-nil done) ∙ ap (λ (cs : List ℕ). done ++ flat_map escaped_char cs) (sym (ap chars none ∙ chars-nil))
    ∙ so_far) x
