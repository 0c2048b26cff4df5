-- What is printed of a text, piece by piece.
use Rattle.std.proofs.Common.{◌≡◌, ◌<◌, ◌/◌, ◌%◌, ℕ, List, [], ◌++◌, true, ap, append_assoc, append-nil, codes}
use Rattle.std.proofs.Common.{encode_utf8, refl, sym, ◌∙◌}
use Rattle.std.specs.Prelude.{flat_map}
use Rattle.std.specs.Char.{is_control}
use Rattle.std.specs.Str.{IsUtf8, chars}
use Rattle.std.proofs.lemmas.Str.{chars-nil, chars_past_char, encode_ascii}
use Rattle.cell_command.specs.Escaped.{escaped, escaped_char, hex_digit}

-- an escape is printed as a text and two digits
pub escape-text : (c high low : ℕ) → is_control c ≡ true → high ≡ hex_digit (c / 16) → high < 128
    → low ≡ hex_digit (c % 16) → low < 128
    → codes "\\u00" ++ (encode_utf8 high ++ encode_utf8 low) ≡ escaped_char c
escape-text c high low is h few l less = rw (is, encode_ascii high few, encode_ascii low less, h, l) refl

-- a character more
pub escaped-more : (done text rest : List ℕ) (c : ℕ) (whole : List ℕ) → IsUtf8 text → text ≡ encode_utf8 c ++ rest
    → done ++ escaped text ≡ whole
    → (done ++ escaped_char c) ++ escaped rest ≡ whole
escaped-more done text rest c whole is parts so_far =
    append_assoc done (escaped_char c) (escaped rest)
    ∙ ap (λ (cs : List ℕ). done ++ flat_map escaped_char cs) (sym (chars_past_char text rest c is parts))
    ∙ so_far

-- no character more
pub escaped-end : (done rest whole : List ℕ) → rest ≡ [] → done ++ escaped rest ≡ whole → done ≡ whole
escaped-end done rest whole none so_far = sym (append-nil done) ∙ ap (λ (cs : List ℕ). done ++ flat_map escaped_char cs)
    (sym (ap chars none ∙ chars-nil)) ∙ so_far
