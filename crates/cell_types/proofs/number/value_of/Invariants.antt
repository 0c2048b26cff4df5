-- The loop over digits: those left finish the value, which is still small
use Rattle.std.proofs.Common.{◌≡◌, ◌<◌, ◌^◌, drop, true}
use Rattle.std.specs.Str.Parse.{digits_value_after, digits_value}
use Rattle.cell_types.specs.Numbers.{all_digits}
use Rattle.cell_types.proofs.number.value_of.Given as goal

abbrev pub invariant-loop-byte : goal.invariant-loop-byte
invariant-loop-byte l = record {
  value : digits_value_after 10 l.value (drop l.byte-index l.bytes) ≡ digits_value 10 l.bytes;
  digits : all_digits (drop l.byte-index l.bytes) ≡ true;
  small : l.value < 10 ^ l.byte-index;
}
