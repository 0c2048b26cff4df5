-- A motion whose end is never shown alone is declared faulty by the reading that its limit names
use Rattle.std.proofs.Common.{◌≡◌, ◌≢◌, ◌+◌, ◌<◌, ◌≤◌, Bool, true, false, ◌||◌, if◌then◌else◌, List, [], ◌∷◌, ◌++◌}
use Rattle.std.proofs.Common.{length, refl, arith}
use Rattle.std.proofs.lemmas.Bool.Decides.{nat_tests}
use Rattle.cell_types.specs.declared.words.Cause.{Cause}
use Rattle.cell_types.specs.declared.words.Cause.TheVariants as cause
use Rattle.cell_diagnosis.specs.declared.motion.Motion.{Motion}
use Rattle.cell_diagnosis.specs.declared.verdict.Verdict.{Verdict}
use Rattle.cell_diagnosis.specs.declared.verdict.Verdict.TheVariants.{Pending, Arrived, Fault}
use Rattle.cell_diagnosis.specs.Readings.{Seen}
use Rattle.cell_diagnosis.specs.Verdicts.{then_verdict, verdict_after}
use Rattle.cell_diagnosis.specs.AxisFacts.{shows_alone}
use Rattle.cell_diagnosis.specs.AxisRules.{has_arrived, is_stuck_at_end, is_stuck, is_contradictory, is_stray}
use Rattle.cell_diagnosis.specs.AxisRules.{is_silent, has_not_left, is_late, judged}
use Rattle.cell_diagnosis.specs.Laws.{NeverShowsEnd}
use Rattle.cell_diagnosis.proofs.EndLaws.{length_snoc, one_snoc}

-- what holds of each fault, and of what the rules after this one say, holds with this one before them
by_rule : (P : Verdict → Type 0) → ((why : Cause) → P (Fault why)) → (b : Bool) (why : Cause) (v : Verdict) → P v
    → P (if b then Fault why else v)
by_rule P f true why v h = f why
by_rule P f false why v h = h

-- so where the axis hasn't arrived, all depends on what is said where only the last rule is left
by_rules : (P : Verdict → Type 0) → ((why : Cause) → P (Fault why)) → (m : Motion) (L : List Seen)
    → has_arrived m L ≡ false → P (if is_late m L then Fault cause.MissingMotion else Pending) → P (judged m L)
unfolding judged
by_rules P f m L away last =
    rw away
    (by_rule P f (is_stuck_at_end m L) cause.StuckSwitch _
    (by_rule P f (is_stuck m L) cause.StuckSwitch _
    (by_rule P f (is_contradictory L) cause.Contradictory _
    (by_rule P f (is_stray m L) cause.StrayPosition _
    (by_rule P f (is_silent L) cause.Silent _
    (by_rule P f (has_not_left m L) cause.NoDeparture _ last))))))

-- a reading that doesn't show the end alone isn't an arrival, whatever came before
is_away : (m : Motion) (L : List Seen) (r : Seen) → shows_alone m.to r ≡ false → has_arrived m (L ++ r ∷ []) ≡ false
unfolding has_arrived
is_away m L r h = rw (one_snoc (shows_alone m.to) L r, h) refl

-- the last rule applies at the reading that the limit names, so that one isn't left undecided
late_now : (m : Motion) (L : List Seen) (r : Seen) → length L + 1 ≡ m.limits.limit → is_late m (L ++ r ∷ []) ≡ true
unfolding is_late
late_now m L r e = rw (length_snoc L r) (grind (arith, nat_tests, e))

not_arrived : (m : Motion) (L : List Seen) (r : Seen) → shows_alone m.to r ≡ false
    → judged m (L ++ r ∷ []) ≢ Arrived
not_arrived m L r h =
    by_rules (λ v. v ≢ Arrived) (λ why e. cc) m (L ++ r ∷ []) (is_away m L r h)
    (by_rule (λ v. v ≢ Arrived) (λ why e. cc) (is_late m (L ++ r ∷ [])) cause.MissingMotion Pending (λ e. cc))

not_pending : (m : Motion) (L : List Seen) (r : Seen) → shows_alone m.to r ≡ false → length L + 1 ≡ m.limits.limit
    → judged m (L ++ r ∷ []) ≢ Pending
not_pending m L r h e =
    by_rules (λ v. v ≢ Pending) (λ why p. cc) m (L ++ r ∷ []) (is_away m L r h) (rw (late_now m L r e) (λ p. cc))

-- a test that fails at each item fails at the first, and at each of the others
fails_first : (a b : Bool) → (a || b) ≡ false → a ≡ false
fails_first false b h = refl
fails_first true b h = h

fails_rest : (a b : Bool) → (a || b) ≡ false → b ≡ false
fails_rest false b h = h
fails_rest true b h = cc

-- a verdict that isn't an arrival is a fault, or leaves it to the later ones
fault_then : (v later : Verdict) → v ≢ Arrived → (v ≡ Pending → (why : Cause) × (later ≡ Fault why))
    → (why : Cause) × (then_verdict v later ≡ Fault why)
fault_then Pending later h find = find refl
fault_then Arrived later h find = absurd (h refl)
fault_then (Fault why) later h find = (why, refl)

-- a reading that leaves it undecided comes before the one that the limit names
pending_below : (m : Motion) (L : List Seen) (r : Seen) → shows_alone m.to r ≡ false → length L < m.limits.limit
    → judged m (L ++ r ∷ []) ≡ Pending → length (L ++ r ∷ []) < m.limits.limit
pending_below m L r h below pending =
    let other : length L + 1 ≢ m.limits.limit = λ e. not_pending m L r h e pending in
    rw (length_snoc L r) (omega (arith, below, other))

-- each reading up to the limit's finds a fault, or else is before it, and then there are others to come
pub found_after : (m : Motion) (before L : List Seen) → NeverShowsEnd m L → length before < m.limits.limit
    → m.limits.limit ≤ length before + length L → (why : Cause) × (verdict_after (judged m) before L ≡ Fault why)
found_after m before [] never below enough = absurd (omega (arith, below, enough))
found_after m before (r ∷ L) never below enough =
    let away : shows_alone m.to r ≡ false = fails_first _ _ never in
    fault_then (judged m (before ++ r ∷ [])) _ (not_arrived m before r away)
    (λ pending.
    found_after m (before ++ r ∷ []) L (fails_rest _ _ never) (pending_below m before r away below pending)
    (rw (length_snoc before r) (omega (arith, enough))))
