-- The lines from a place on
use Rattle.std.proofs.Common.{◌≡◌, ◌≤◌, ℕ, zero, suc, List, [], ◌∷◌, length, drop, refl, arith}
use Rattle.operator_desk.specs.Next.{left_after}
use Rattle.operator_desk.specs.declared.line.Line.{Line}

-- one place on, one line is left behind
pub left-next : (n : ℕ) (lines : List Line) → drop (suc n) lines ≡ left_after (drop n lines)
left-next zero [] = refl
left-next zero (line ∷ lines) = refl
left-next (suc n) [] = refl
left-next (suc n) (line ∷ lines) = left-next n lines

-- past the end no line is left
pub left-none : (n : ℕ) (lines : List Line) → length lines ≤ n → drop n lines ≡ left_after (drop n lines)
left-none zero [] h = refl
left-none zero (line ∷ lines) h = absurd (omega arith)
left-none (suc n) [] h = refl
left-none (suc n) (line ∷ lines) h = left-none n lines (omega arith)
