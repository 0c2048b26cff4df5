-- The counting of motions
use Rattle.std.proofs.Common.{◌≡◌, ◌≢◌, ℕ, ◌+◌, ◌≤◌, ◌<◌, true, false, List, [], Some, take, set, get_or, length, refl}
use Rattle.std.proofs.Common.{sym}
use Rattle.std.proofs.Common.{subst, ◌∙◌, ap, inl, inr, arith, get_or-set_same, get_or-set_other, replicate}
use Rattle.std.specs.Prelude.{◌==◌, slice_get}
use Rattle.std.proofs.lemmas.Bool.{cases_Bool}
use Rattle.std.proofs.lemmas.Bool.Decides.{Decides-eqb}
use Rattle.std.proofs.lemmas.Grind.{common_steps}
use Rattle.std.proofs.lemmas.List.Sums.{count_by-le-length}
use Rattle.cell_types.specs.Same.{axis_number}
use Rattle.cell_types.specs.declared.words.Axis.{Axis}
use Rattle.cell_types.specs.declared.words.Axis.TheVariants as axis
use Rattle.cell_types.specs.declared.words.Pose.{Pose}
use Rattle.cell_types.specs.declared.words.Entry.{Entry}
use Rattle.cell_types.specs.declared.words.Entry.TheVariants.{Started}
use Rattle.cell_explain.specs.Missed.{motions_of, sets_out}
use Rattle.cell_explain.proofs.Onward.{between}
use Rattle.cell_explain.proofs.Passed.{count-yes, count-no}

-- another entry lets no axis set out
no-start : (e : Entry) (a : Axis) → ((b : Axis) (to : Pose) → e ≢ Started b to) → sets_out a e ≡ false
no-start (Started b to) a other = absurd (other b to refl)
no-start _ a other = refl

-- an axis sets out: its count is one more, and the others are as they were
pub started-more : (xs : List ℕ) (J : List Entry) (i n : ℕ) (b : Axis) (to : Pose) → length xs ≡ 9 → n ≡ axis_number b
    → n < 9 → slice_get J i ≡ Some (Started b to)
    → ((a : Axis) → get_or xs (axis_number a) 0 ≡ motions_of (take i J) a)
    → (a : Axis) → get_or (set xs n (get_or xs n 0 + 1)) (axis_number a) 0 ≡ motions_of (take (i + 1) J) a
started-more xs J i n b to sized is below at counted a = elim (cases_Bool (axis_number b == axis_number a)) [
  | inl same ↦
      let number : axis_number a ≡ n = sym ((Decides-eqb (axis_number b) (axis_number a)).0 same) ∙ sym is in
      let inside : n < length xs = omega arith in
      let written : get_or (set xs n (get_or xs n 0 + 1)) n 0 ≡ get_or xs n 0 + 1 = get_or-set_same xs n _ 0 inside in
      let so_far : get_or xs n 0 ≡ motions_of (take i J) a = subst (λ k. get_or xs k 0 ≡ motions_of (take i J) a) number
      (counted a) in
      subst (λ k. get_or (set xs n (get_or xs n 0 + 1)) k 0 ≡ motions_of (take (i + 1) J) a) (sym number)
      (written ∙ count-yes (sets_out a) J i _ (Started b to) at same so_far)
  | inr other ↦
      let apart : axis_number a ≢ n = λ same. let bad : false ≡ true = sym other
      ∙ (Decides-eqb (axis_number b) (axis_number a)).1 (sym is ∙ sym same) in cc bad in
      get_or-set_other xs n (axis_number a) _ 0 apart ∙ count-no (sets_out a) J i _ (Started b to) at other (counted a)
]

-- no axis sets out
pub still-more : (xs : List ℕ) (J : List Entry) (i : ℕ) (e : Entry) → slice_get J i ≡ Some e
    → ((b : Axis) (to : Pose) → e ≢ Started b to)
    → ((a : Axis) → get_or xs (axis_number a) 0 ≡ motions_of (take i J) a)
    → (a : Axis) → get_or xs (axis_number a) 0 ≡ motions_of (take (i + 1) J) a
still-more xs J i e at other counted a = count-no (sets_out a) J i _ e at (no-start e a other) (counted a)

-- an axis set out at most once with each entry
pub few-motions : (J : List Entry) (a : Axis) (before i n : ℕ) → n ≡ motions_of (between before i J) a → n ≤ i
few-motions J a before i n is = grind (arith, common_steps, count_by-le-length)

abbrev pub no_motions : List ℕ
no_motions = replicate 9 0

zeros : (a : Axis) → get_or no_motions (axis_number a) 0 ≡ 0
zeros axis.FeedBelt = refl
zeros axis.TableLift = refl
zeros axis.TableTurn = refl
zeros axis.RobotTurn = refl
zeros axis.ArmOne = refl
zeros axis.ArmTwo = refl
zeros axis.PressOne = refl
zeros axis.PressTwo = refl
zeros axis.DepositBelt = refl

-- before any entry no axis set out
pub none-set_out : (es : List Entry) → es ≡ [] → (a : Axis) → get_or no_motions (axis_number a) 0 ≡ motions_of es a
none-set_out es none a = zeros a ∙ sym (ap (λ (J : List Entry). motions_of J a) none)
