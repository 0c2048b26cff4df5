-- Words that write no part
use Rattle.std.proofs.Common.{◌≡◌, ◌∙◌, ℕ, List, Option, Some, None, subst, sym}
use Rattle.std.specs.List.{after_first, before_first}
use Rattle.std.specs.Prelude.{IfNone}
use Rattle.cell_orders.specs.Numbers.{IsNoNumberIn, IsNumberIn}
use Rattle.cell_sweep.specs.declared.choice.Part.{Part}
use Rattle.cellctl.specs.Swept.{IsPartless, WriteNoPart, WritePart, is_slash}

-- the second is a number, and the first none up to it
pub no_part : (number count : List ℕ) (n : ℕ) → IsNumberIn 1 1000000 count n → IsNoNumberIn 1 n number
    → WriteNoPart number count
no_part number count n known none part (counted, asked) =
    none part.number (subst (λ (m : ℕ). IsNumberIn 1 m number part.number) (sym counted.0.1 ∙ known.0.1) asked)

-- a word writes none where what stands before and behind its first slash doesn't
pub partless : (word number count : List ℕ) (r : Option Part) → number ≡ before_first is_slash word
    → count ≡ after_first is_slash word → IfNone r (WriteNoPart number count) → IfNone r (IsPartless word)
partless word number count (Some part) before after none = tt
partless word number count None before after none = λ (part : Part) (there, asked).
    none part (subst (λ (t : List ℕ). WritePart number t part) (sym after)
    (subst (λ (t : List ℕ). WritePart t (after_first is_slash word) part) (sym before) asked))
