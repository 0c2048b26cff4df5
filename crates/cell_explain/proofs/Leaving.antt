-- Which lines of a script are left, one entry on
use Rattle.std.proofs.Common.{◌≡◌, ◌+◌, ◌∙◌, ◌≤◌, ℕ, suc, List, arith, drop, ap}
use Rattle.std.specs.Prelude.{Some, slice_get}
use Rattle.cell_types.specs.declared.words.Entry.{Entry}
use Rattle.operator_desk.specs.Next.{left_after}
use Rattle.operator_desk.specs.declared.line.Line.{Line}
use Rattle.operator_desk.proofs.Left.{left-next}
use Rattle.cell_explain.specs.Waiting.{AskFor, Leaves, does, passes}
use Rattle.cell_explain.proofs.Onward.{between, get-onward, one-onward}
use Rattle.cell_explain.proofs.Passed.{take-at}

-- the lines from the next on
pub drop-next : (script : List Line) (n : ℕ) → drop (n + 1) script ≡ left_after (drop n script)
drop-next script n =
    let is : n + 1 ≡ suc n = omega arith in
    ap (λ (i : ℕ). drop i script) is ∙ left-next n script

-- an entry does the next line
pub left-does : (script : List Line) (J : List Entry) (before place n m : ℕ) (e : Entry) → before ≤ place
    → slice_get J place ≡ Some e → m ≡ n + 1 → AskFor (drop n script) e
    → Leaves script (between before place J) (drop n script)
    → Leaves script (between before (place + 1) J) (drop m script)
left-does script J before place n m e from at is asked left =
    let next : drop m script ≡ left_after (drop n script) = ap (λ (i : ℕ). drop i script) is ∙ drop-next script n in
    rw (one-onward J before place from, take-at _ _ e (get-onward J before place e from at), next) (does e left asked)

-- an entry does no line
pub left-passes : (script : List Line) (J : List Entry) (before place n m : ℕ) (e : Entry) → before ≤ place
    → slice_get J place ≡ Some e → m ≡ n → (AskFor (drop n script) e → ⊥)
    → Leaves script (between before place J) (drop n script)
    → Leaves script (between before (place + 1) J) (drop m script)
left-passes script J before place n m e from at is other left =
    rw (one-onward J before place from, take-at _ _ e (get-onward J before place e from at), is) (passes e left other)
