-- A number has so few digits that its value never overflows
use Rattle.std.proofs.Common.{◌<◌, arith}
use Rattle.cell_types.proofs.Numerals.{under_a_million}
use Rattle.cell_types.proofs.number.value_of.Goals as goal

pub overflow_mul-value : goal.overflow_mul-value
overflow_mul-value c =
    let small : c.loop-byte.value < 1000000 = under_a_million c.loop-byte.byte-index c.loop-byte.value (omega arith)
    c.loop-byte.invariant.small in
    omega arith

pub overflow_add-value : goal.overflow_add-value
overflow_add-value c =
    let small : c.loop-byte.value < 1000000 = under_a_million c.loop-byte.byte-index c.loop-byte.value (omega arith)
    c.loop-byte.invariant.small in
    omega arith
