-- Decimal digits, by the test and as std reads them.
use Rattle.std.proofs.Common.{◌≡◌, ℕ, ◌<◌, List, [], ◌∷◌, true, arith, refl}
use Rattle.std.specs.Char.{digit_value, is_ascii_digit}
use Rattle.std.specs.Int.{IsInRange}
use Rattle.std.specs.List.{list_all}
use Rattle.std.specs.Str.Parse.{AllDigits}
use Rattle.std.proofs.lemmas.Bool.{and_from, and_parts}
use Rattle.std.proofs.lemmas.Grind.{common_steps}
use Rattle.std.proofs.lemmas.Str.{digit_value_digit}
use Rattle.std.proofs.lemmas.Str.Parse.{digit_from_value}

-- a word is tested character by character, but which number it writes is said by the digits' values
pub digit-tested : (c : ℕ) → digit_value c < 10 → is_ascii_digit c ≡ true
digit-tested c h = let r : IsInRange 48 57 c = digit_from_value c h in grind (arith, common_steps)

pub digit-value : (c : ℕ) → is_ascii_digit c ≡ true → digit_value c < 10
digit-value c h = let r : IsInRange 48 57 c =
    grind (arith, common_steps) in omega (arith, digit_value_digit c r, r.0, r.1)

pub digits-tested : (ds : List ℕ) → AllDigits 10 ds → list_all is_ascii_digit ds ≡ true
digits-tested [] h = refl
digits-tested (d ∷ ds) h = and_from _ _ (digit-tested d h.0) (digits-tested ds h.1)

pub digits-valued : (ds : List ℕ) → list_all is_ascii_digit ds ≡ true → AllDigits 10 ds
digits-valued [] h = tt
digits-valued (d ∷ ds) h = let parts = and_parts _ _ h in (digit-value d parts.0, digits-valued ds parts.1)
