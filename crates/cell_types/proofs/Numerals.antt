-- How large a number of few digits is
use Rattle.std.proofs.Common.{◌<◌, ◌≤◌, ◌^◌, ℕ, zero, suc, arith}

-- a number has at most seven digits, so before each of them its value is small enough for one digit more
pub under_a_million : (i v : ℕ) → i ≤ 6 → v < 10 ^ i → v < 1000000
under_a_million zero v a h = omega arith
under_a_million (suc zero) v a h = omega arith
under_a_million (suc (suc zero)) v a h = omega arith
under_a_million (suc (suc (suc zero))) v a h = omega arith
under_a_million (suc (suc (suc (suc zero)))) v a h = omega arith
under_a_million (suc (suc (suc (suc (suc zero))))) v a h = omega arith
under_a_million (suc (suc (suc (suc (suc (suc zero)))))) v a h = omega arith
under_a_million (suc (suc (suc (suc (suc (suc (suc i))))))) v a h = absurd (omega arith)
