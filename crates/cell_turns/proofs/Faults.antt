-- A CommandFault is declared exactly where the last command failed
use Rattle.std.proofs.Common.{◌≡◌, ℕ, Bool, true, false, Option, Some, None, List, [], ◌∷◌, ◌++◌, if◌then◌else◌, refl}
use Rattle.cell_types.specs.declared.words.Cause.TheVariants as cause
use Rattle.cell_diagnosis.specs.declared.motion.Motion.{Motion}
use Rattle.cell_diagnosis.specs.declared.verdict.Verdict.{Verdict}
use Rattle.cell_diagnosis.specs.declared.verdict.Verdict.TheVariants.{Pending, Arrived, Fault}
use Rattle.cell_diagnosis.specs.Ends.{last_are}
use Rattle.cell_diagnosis.specs.Verdicts.{then_verdict, verdict_after}
use Rattle.cell_diagnosis.specs.Readings.{Seen}
use Rattle.cell_diagnosis.specs.AxisRules.{judged, verdict, has_arrived, is_stuck_at_end, is_stuck, is_contradictory}
use Rattle.cell_diagnosis.specs.AxisRules.{is_stray, is_silent, has_not_left, is_late}
use Rattle.cell_diagnosis.specs.RestFacts.{Noted, disagrees, shows_several_at}
use Rattle.cell_diagnosis.specs.RestRules.{is_silent_at_rest, axis_fault, is_plate_lost, is_plate_strange, plate_fault}
use Rattle.cell_diagnosis.specs.RestRules.{judged_at_rest, rest}
use Rattle.cell_turns.specs.Following.{Following}
use Rattle.cell_turns.specs.Observed.{axis_verdict}

-- the verdict is that a command failed, which no reading shows
unfoldable pub is_command_verdict : Verdict → Bool
is_command_verdict (Fault cause.CommandFault) = true
is_command_verdict _ = false

of_either : (b : Bool) (x y : Verdict) → is_command_verdict x ≡ false → is_command_verdict y ≡ false
    → is_command_verdict (if b then x else y) ≡ false
of_either true x y h k = h
of_either false x y h k = k

of_both : (x y : Verdict) → is_command_verdict x ≡ false → is_command_verdict y ≡ false
    → is_command_verdict (then_verdict x y) ≡ false
of_both Pending y h k = k
of_both Arrived y h k = h
of_both (Fault c) y h k = h

-- the verdict on a list is the verdict on one of its beginnings
of_list : {X : Type 0} (judge : List X → Verdict) (before L : List X)
    → ((M : List X) → is_command_verdict (judge M) ≡ false) → is_command_verdict (verdict_after judge before L) ≡ false
unfolding is_command_verdict
of_list judge before [] h = refl
of_list judge before (r ∷ rs) h = of_both (judge (before ++ r ∷ [])) (verdict_after judge (before ++ r ∷ []) rs)
    (h (before ++ r ∷ [])) (of_list judge (before ++ r ∷ []) rs h)

-- the rules of the axis watch have causes of their own, and none of them is a failed command
of_judged : (m : Motion) (L : List Seen) → is_command_verdict (judged m L) ≡ false
unfolding is_command_verdict judged
of_judged m L =
    of_either (has_arrived m L) _ _ refl
    (of_either (is_stuck_at_end m L) _ _ refl
    (of_either (is_stuck m L) _ _ refl
    (of_either (is_contradictory L) _ _ refl
    (of_either (is_stray m L) _ _ refl
    (of_either (is_silent L) _ _ refl
    (of_either (has_not_left m L) _ _ refl
    (of_either (is_late m L) _ _ refl refl)))))))

of_axis_fault : (j : ℕ) (L : List Noted) → is_command_verdict (axis_fault j L) ≡ false
unfolding is_command_verdict axis_fault
of_axis_fault j L = of_either (last_are 2 (disagrees j) L) _ _
    (of_either (last_are 2 (shows_several_at j) L) _ _ refl refl) refl

of_plate_fault : (L : List Noted) → is_command_verdict (plate_fault L) ≡ false
unfolding is_command_verdict plate_fault
of_plate_fault L = of_either (is_plate_lost L) _ _ refl (of_either (is_plate_strange L) _ _ refl refl)

-- the rules of the rest watch have causes of their own as well
of_judged_at_rest : (L : List Noted) → is_command_verdict (judged_at_rest L) ≡ false
unfolding is_command_verdict judged_at_rest
of_judged_at_rest L =
    of_either (is_silent_at_rest L) _ _ refl
    (of_both (axis_fault 0 L) _ (of_axis_fault 0 L)
    (of_both (axis_fault 1 L) _ (of_axis_fault 1 L)
    (of_both (axis_fault 2 L) _ (of_axis_fault 2 L) (of_plate_fault L))))

of_verdict : (m : Motion) (L : List Seen) → is_command_verdict (verdict m L) ≡ false
unfolding verdict
of_verdict m L = of_list (judged m) [] L (of_judged m)

pub of_rest : (L : List Noted) → is_command_verdict (rest L) ≡ false
unfolding rest
of_rest L = of_list judged_at_rest [] L of_judged_at_rest

pub of_following : (f : Option Following) → is_command_verdict (axis_verdict f) ≡ false
unfolding is_command_verdict
of_following None = refl
of_following (Some f) = of_verdict f.motion f.readings
