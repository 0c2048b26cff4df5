-- Bits that differ add up
use Rattle.std.specs.Prelude.{◌≡◌, ◌+◌, Bool, true, false, bit_or}
use Rattle.std.proofs.Common.{refl}
use Rattle.cell_sim.specs.Readings.{bit_if}

pub two_bits : (a b : Bool) → bit_or (bit_if a 1) (bit_if b 2) ≡ bit_if a 1 + bit_if b 2
two_bits true true = refl
two_bits true false = refl
two_bits false true = refl
two_bits false false = refl

pub three_bits : (a b c : Bool)
    → bit_or (bit_or (bit_if a 1) (bit_if b 2)) (bit_if c 4) ≡ bit_if a 1 + (bit_if b 2 + bit_if c 4)
three_bits true true true = refl
three_bits true true false = refl
three_bits true false true = refl
three_bits true false false = refl
three_bits false true true = refl
three_bits false true false = refl
three_bits false false true = refl
three_bits false false false = refl
