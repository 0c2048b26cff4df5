-- The verdicts on what a motion shows that nothing is amiss with
use Rattle.std.proofs.Common.{◌≡◌, ℕ, zero, suc, ◌≤◌, ◌<◌, ◌+◌, ◌==◌, Bool, true, false, ◌&&◌, Some, List, [], ◌∷◌}
use Rattle.std.proofs.Common.{◌++◌}
use Rattle.std.proofs.Common.{length, replicate, refl, ap, ◌∙◌, subst, arith}
use Rattle.std.proofs.lemmas.List.{length-replicate}
use Rattle.std.specs.List.{list_all, list_any}
use Rattle.std.proofs.lemmas.Bool.Decides.{nat_tests}
use Rattle.cell_types.specs.declared.words.Pose.{Pose}
use Rattle.cell_types.specs.declared.words.Pose.TheVariants as pose
use Rattle.cell_diagnosis.specs.declared.motion.Motion.{Motion}
use Rattle.cell_diagnosis.specs.declared.verdict.Verdict.{Verdict}
use Rattle.cell_diagnosis.specs.declared.verdict.Verdict.TheVariants.{Pending, Arrived}
use Rattle.cell_diagnosis.specs.Ends.{last_are, before_last}
use Rattle.cell_diagnosis.specs.Readings.{Seen, no_bits, place_in_axis}
use Rattle.cell_diagnosis.specs.AxisFacts.{is_missing, is_shown, count_shown, shows, lacks, shows_alone, shows_exactly}
use Rattle.cell_diagnosis.specs.AxisFacts.{shows_several, shows_stray}
use Rattle.cell_diagnosis.specs.AxisRules.{has_arrived, is_stuck_at_end, is_stuck, is_contradictory, is_stray}
use Rattle.cell_diagnosis.specs.AxisRules.{is_silent, has_not_left, is_late, judged, verdict}
use Rattle.cell_diagnosis.proofs.EndLaws.{all_snoc, before_snoc, length_snoc, one_snoc, three_snoc, two_snoc}
use Rattle.cell_diagnosis.proofs.VerdictLaws.{after_snoc}
use Rattle.cell_world.specs.Tied.{only, IsFair}

pub shown_only : (p q : Pose) → is_shown q (only p) ≡ (place_in_axis q == place_in_axis p)
shown_only p pose.Rest = refl
shown_only p pose.ToEnd = refl
shown_only p pose.ToTable = refl
shown_only p pose.Low = refl
shown_only p pose.High = refl
shown_only p pose.Belt = refl
shown_only p pose.Robot = refl
shown_only p pose.Table1 = refl
shown_only p pose.P1Load = refl
shown_only p pose.P1Unload = refl
shown_only p pose.P2Load = refl
shown_only p pose.P2Unload = refl
shown_only p pose.Deposit2 = refl
shown_only p pose.In = refl
shown_only p pose.Out = refl
shown_only p pose.Middle = refl
shown_only p pose.Top = refl
shown_only p pose.Bottom = refl

pub same_place : (p : Pose) → (place_in_axis p == place_in_axis p) ≡ true
same_place p = grind (arith, nat_tests)

pub count_only : (p : Pose) → count_shown (only p) ≡ 1
count_only pose.Rest = refl
count_only pose.ToEnd = refl
count_only pose.ToTable = refl
count_only pose.Low = refl
count_only pose.High = refl
count_only pose.Belt = refl
count_only pose.Robot = refl
count_only pose.Table1 = refl
count_only pose.P1Load = refl
count_only pose.P1Unload = refl
count_only pose.P2Load = refl
count_only pose.P2Unload = refl
count_only pose.Deposit2 = refl
count_only pose.In = refl
count_only pose.Out = refl
count_only pose.Middle = refl
count_only pose.Top = refl
count_only pose.Bottom = refl

nothing_shown : (q : Pose) → is_shown q no_bits ≡ false
nothing_shown pose.Rest = refl
nothing_shown pose.ToEnd = refl
nothing_shown pose.ToTable = refl
nothing_shown pose.Low = refl
nothing_shown pose.High = refl
nothing_shown pose.Belt = refl
nothing_shown pose.Robot = refl
nothing_shown pose.Table1 = refl
nothing_shown pose.P1Load = refl
nothing_shown pose.P1Unload = refl
nothing_shown pose.P2Load = refl
nothing_shown pose.P2Unload = refl
nothing_shown pose.Deposit2 = refl
nothing_shown pose.In = refl
nothing_shown pose.Out = refl
nothing_shown pose.Middle = refl
nothing_shown pose.Top = refl
nothing_shown pose.Bottom = refl

-- what the first reading says of a motion: where it begins is shown alone
from_alone : (m : Motion) → shows_alone m.from (Some (only m.from)) ≡ true
unfolding shows_alone
from_alone m = rw (shown_only m.from m.from, same_place m.from, count_only m.from) refl

to_not_alone : (m : Motion) (further : ℕ) → IsFair m further → shows_alone m.to (Some (only m.from)) ≡ false
unfolding shows_alone
to_not_alone m further fair = rw (shown_only m.from m.to, fair.elsewhere) refl

to_lacks : (m : Motion) (further : ℕ) → IsFair m further → lacks m.to (Some (only m.from)) ≡ true
unfolding lacks
to_lacks m further fair = rw (shown_only m.from m.to, fair.elsewhere) refl

to_alone : (m : Motion) → shows_alone m.to (Some (only m.to)) ≡ true
unfolding shows_alone
to_alone m = rw (shown_only m.to m.to, same_place m.to, count_only m.to) refl

-- the second: nothing is shown
none_alone : (p : Pose) → shows_alone p (Some no_bits) ≡ false
unfolding shows_alone
none_alone p = rw (nothing_shown p) refl

none_shows : (p : Pose) → shows p (Some no_bits) ≡ false
unfolding shows
none_shows p = rw (nothing_shown p) refl

none_lacks : (p : Pose) → lacks p (Some no_bits) ≡ true
unfolding lacks
none_lacks p = rw (nothing_shown p) refl

none_exactly : (p q : Pose) → shows_exactly p q (Some no_bits) ≡ false
unfolding shows_exactly
none_exactly p q = rw (nothing_shown p) refl

none_several : shows_several (Some no_bits) ≡ false
unfolding shows_several
none_several = refl

none_stray : (m : Motion) → shows_stray m (Some no_bits) ≡ false
unfolding shows_stray
none_stray m = refl

not_one : (n : ℕ) → 2 ≤ n → (1 == n) ≡ false
not_one n h = grind (arith, nat_tests)

not_late : (i n : ℕ) → i < n → (i == n) ≡ false
not_late i n h = grind (arith, nat_tests)

and_false : (b : Bool) → (b && false) ≡ false
and_false true = refl
and_false false = refl

-- what the rules say at the first of them
first_judged : (m : Motion) (further : ℕ) → IsFair m further → judged m (Some (only m.from) ∷ []) ≡ Pending
unfolding judged has_arrived is_stuck_at_end is_stuck is_contradictory is_stray is_silent has_not_left is_late
    last_are before_last
first_judged m further fair =
    let a = to_not_alone m further fair in let b = not_one m.limits.leave fair.leave in
    let c = not_late 1 m.limits.limit (omega (arith, fair.limit)) in
    simp (a, b, c) refl

replicate_more : (n : ℕ) (x : Seen) → replicate n x ++ x ∷ [] ≡ replicate (suc n) x
replicate_more zero x = refl
replicate_more (suc n) x = ap (λ (L : List Seen). x ∷ L) (replicate_more n x)

-- at one that shows nothing
two_end : (p : Seen → Bool) (L : List Seen) (r : Seen) → p r ≡ false → last_are 2 p (L ++ r ∷ []) ≡ false
two_end p L r h = two_snoc p L r ∙ (ap (λ (b : Bool). last_are 1 p L && b) h ∙ and_false (last_are 1 p L))

three_end : (p : Seen → Bool) (L : List Seen) (r : Seen) → p r ≡ false → last_are 3 p (L ++ r ∷ []) ≡ false
three_end p L r h = three_snoc p L r ∙ (ap (λ (b : Bool). last_are 2 p L && b) h ∙ and_false (last_are 2 p L))

all_end : (p : Seen → Bool) (L : List Seen) (r : Seen) → p r ≡ false → list_all p (L ++ r ∷ []) ≡ false
all_end p L r h = all_snoc p L r ∙ (ap (λ (b : Bool). list_all p L && b) h ∙ and_false (list_all p L))

none_missing : is_missing (Some no_bits) ≡ false
unfolding is_missing
none_missing = refl

blank_judged : (m : Motion) (L : List Seen) → length L + 1 < m.limits.limit
    → judged m (L ++ Some no_bits ∷ []) ≡ Pending
unfolding judged has_arrived is_stuck_at_end is_stuck is_contradictory is_stray is_silent has_not_left is_late
blank_judged m L h =
    let r = Some no_bits in
    let a = one_snoc (shows_alone m.to) L r ∙ none_alone m.to in
    let b = two_end (shows m.to) L r (none_shows m.to) in
    let c = two_end (shows_exactly m.from m.to) L r (none_exactly m.from m.to) in
    let d = two_end shows_several L r none_several in
    let e = two_end (shows_stray m) L r (none_stray m) in
    let f = three_end is_missing L r none_missing in
    let g = all_end (shows_alone m.from) L r (none_alone m.from) in
    let n = length_snoc L r in
    let k = not_late (length L + 1) m.limits.limit h in
    simp (a, b, c, d, e, f, g, n, k, and_false) refl

-- and at one that shows where it ends
end_judged : (m : Motion) (L : List Seen) → list_any (lacks m.to) L ≡ true
    → judged m (L ++ Some (only m.to) ∷ []) ≡ Arrived
unfolding judged has_arrived
end_judged m L h =
    let r = Some (only m.to) in
    let a = one_snoc (shows_alone m.to) L r ∙ to_alone m in let b = before_snoc L r in
    simp (a, b, h) refl

-- the verdict on the readings so far, and on one more
pub verdict_more : (m : Motion) (L : List Seen) (r : Seen) (v : Verdict) → verdict m L ≡ Pending
    → judged m (L ++ r ∷ []) ≡ v → verdict m (L ++ r ∷ []) ≡ v
unfolding verdict
verdict_more m L r v h k = after_snoc (judged m) [] L r ∙ (let e = k in rw (h, e) refl)

pub first_pending : (m : Motion) (further : ℕ) → IsFair m further → verdict m (Some (only m.from) ∷ []) ≡ Pending
unfolding verdict
first_pending m further fair = let e = first_judged m further fair in rw e refl

-- the readings of a motion that shows nothing beyond the first
abbrev pub blanks : Motion → ℕ → List Seen
blanks m n = Some (only m.from) ∷ replicate n (Some no_bits)

pub blanks_more : (m : Motion) (n : ℕ) → blanks m n ++ Some no_bits ∷ [] ≡ blanks m (suc n)
blanks_more m n = ap (λ (L : List Seen). Some (only m.from) ∷ L) (replicate_more n (Some no_bits))

pub blanks_pending : (m : Motion) (further n : ℕ) → IsFair m further → n ≤ further + 1
    → verdict m (blanks m n) ≡ Pending
blanks_pending m further zero fair h = first_pending m further fair
blanks_pending m further (suc n) fair h =
    subst (λ (L : List Seen). verdict m L ≡ Pending) (blanks_more m n)
    (verdict_more m (blanks m n) (Some no_bits) Pending (blanks_pending m further n fair (omega arith))
    (blank_judged m (blanks m n) (let e = length-replicate n (Some no_bits) in omega (arith, e, fair.limit))))

pub blanks_arrived : (m : Motion) (further n : ℕ) → IsFair m further → n ≤ further + 1
    → verdict m (blanks m n ++ Some (only m.to) ∷ []) ≡ Arrived
blanks_arrived m further n fair h =
    verdict_more m (blanks m n) (Some (only m.to)) Arrived (blanks_pending m further n fair h)
    (end_judged m (blanks m n) (let e = to_lacks m further fair in rw e refl))
