-- What an axis watch keeps is what the rules ask of the readings before
use Rattle.std.proofs.Common.{◌≡◌, ℕ, ◌+◌, ◌≤◌, ◌==◌, min, Bool, ◌&&◌, ◌||◌, List, [], ◌∷◌, ◌++◌, length, sym, ◌∙◌, ap}
use Rattle.std.proofs.Common.{arith}
use Rattle.std.proofs.lemmas.Bool.Decides.{nat_tests}
use Rattle.std.specs.List.{list_any, list_all}
use Rattle.cell_diagnosis.specs.declared.motion.Motion.{Motion}
use Rattle.cell_diagnosis.specs.declared.verdict.Verdict.{Verdict}
use Rattle.cell_diagnosis.specs.declared.axis_facts.AxisFacts.{AxisFacts}
use Rattle.cell_diagnosis.specs.declared.axis_watch.AxisWatch.{AxisWatch}
use Rattle.cell_diagnosis.specs.Readings.{Seen}
use Rattle.cell_diagnosis.specs.Ends.{last_are}
use Rattle.cell_diagnosis.specs.Verdicts.{then_verdict}
use Rattle.cell_diagnosis.specs.AxisFacts.{is_missing, shows, lacks, shows_alone, shows_exactly, shows_several}
use Rattle.cell_diagnosis.specs.AxisFacts.{shows_stray}
use Rattle.cell_diagnosis.specs.AxisRules.{has_arrived, is_stuck_at_end, is_stuck, is_contradictory, is_stray}
use Rattle.cell_diagnosis.specs.AxisRules.{is_silent, has_not_left, is_late, judged, verdict}
use Rattle.cell_diagnosis.specs.AxisWatches.{facts_of, last_facts, ruling, Fits}
use Rattle.cell_diagnosis.proofs.EndLaws.{all_snoc, any_snoc, length_snoc, one_snoc, two_snoc, three_snoc, before_snoc}
use Rattle.cell_diagnosis.proofs.VerdictLaws.{after_snoc}

-- these facts are of the last reading alone, so what came before plays no part
facts_snoc : (m : Motion) (L : List Seen) (r : Seen) → last_facts m (L ++ r ∷ []) ≡ facts_of m r
unfolding last_facts
facts_snoc m L r =
    rw (
      one_snoc is_missing L r,
      one_snoc (shows m.to) L r,
      one_snoc (lacks m.to) L r,
      one_snoc (shows_alone m.from) L r,
      one_snoc (shows_alone m.to) L r,
      one_snoc (shows_exactly m.from m.to) L r,
      one_snoc shows_several L r,
      one_snoc (shows_stray m) L r,
    )

-- each rule at one more reading
arrived_snoc : (m : Motion) (L : List Seen) (r : Seen)
    → has_arrived m (L ++ r ∷ []) ≡ (shows_alone m.to r && list_any (lacks m.to) L)
unfolding has_arrived
arrived_snoc m L r = rw (one_snoc (shows_alone m.to) L r, before_snoc L r)

-- the watch's count stops at 65535, but while it is small it is the number of readings
second : (k : ℕ) → (k + 1 == 2) ≡ (min k 65535 == 1)
second k = grind (arith, nat_tests)

-- the rules ask for numbers up to 1000, far below where the watch stops counting
at_number : (k n : ℕ) → n ≤ 1000 → (k + 1 == n) ≡ (min k 65535 + 1 == n)
at_number k n h = grind (arith, nat_tests)

stuck_at_end_snoc : (m : Motion) (L : List Seen) (r : Seen)
    → is_stuck_at_end m (L ++ r ∷ []) ≡ ((min (length L) 65535 == 1) && (last_are 1 (shows m.to) L && shows m.to r))
unfolding is_stuck_at_end
stuck_at_end_snoc m L r = rw (length_snoc L r, two_snoc (shows m.to) L r, second (length L))

stuck_snoc : (m : Motion) (L : List Seen) (r : Seen)
    → is_stuck m (L ++ r ∷ []) ≡ (last_are 1 (shows_exactly m.from m.to) L && shows_exactly m.from m.to r)
unfolding is_stuck
stuck_snoc m L r = two_snoc _ L r

contradictory_snoc : (L : List Seen) (r : Seen)
    → is_contradictory (L ++ r ∷ []) ≡ (last_are 1 shows_several L && shows_several r)
unfolding is_contradictory
contradictory_snoc L r = two_snoc _ L r

stray_snoc : (m : Motion) (L : List Seen) (r : Seen)
    → is_stray m (L ++ r ∷ []) ≡ (last_are 1 (shows_stray m) L && shows_stray m r)
unfolding is_stray
stray_snoc m L r = two_snoc _ L r

silent_snoc : (L : List Seen) (r : Seen) → is_silent (L ++ r ∷ []) ≡ (last_are 2 is_missing L && is_missing r)
unfolding is_silent
silent_snoc L r = three_snoc _ L r

not_left_snoc : (m : Motion) (L : List Seen) (r : Seen) → m.limits.leave ≤ 1000
    → has_not_left m (L ++ r ∷ [])
    ≡ ((min (length L) 65535 + 1 == m.limits.leave) && (list_all (shows_alone m.from) L && shows_alone m.from r))
unfolding has_not_left
not_left_snoc m L r h =
    rw (length_snoc L r, all_snoc (shows_alone m.from) L r, at_number (length L) m.limits.leave h)

late_snoc : (m : Motion) (L : List Seen) (r : Seen) → m.limits.limit ≤ 1000
    → is_late m (L ++ r ∷ []) ≡ (min (length L) 65535 + 1 == m.limits.limit)
unfolding is_late
late_snoc m L r h = rw (length_snoc L r) (at_number (length L) m.limits.limit h)

-- of the earlier readings each rule asks only what the watch keeps of them
judged_snoc : (w : AxisWatch) (L : List Seen) (r : Seen) → w.motion.limits.leave ≤ 1000
    → w.motion.limits.limit ≤ 1000 → Fits w L → judged w.motion (L ++ r ∷ []) ≡ ruling w (facts_of w.motion r)
unfolding judged last_facts
judged_snoc w L r h k f =
    rw (
      arrived_snoc w.motion L r,
      stuck_at_end_snoc w.motion L r,
      stuck_snoc w.motion L r,
      contradictory_snoc L r,
      stray_snoc w.motion L r,
      silent_snoc L r,
      not_left_snoc w.motion L r h,
      late_snoc w.motion L r k,
      f.count,
      f.last,
      f.two_missing,
      f.lacked_to,
      f.only_from,
    )

verdict_snoc : (m : Motion) (L : List Seen) (r : Seen)
    → verdict m (L ++ r ∷ []) ≡ then_verdict (verdict m L) (judged m (L ++ r ∷ []))
unfolding verdict
verdict_snoc m L r = after_snoc (judged m) [] L r

-- a watch after one more reading: what it answers, and what it keeps
pub verdict_note : (w : AxisWatch) (L : List Seen) (r : Seen) (next : AxisFacts) (ruled answer : Verdict)
    → next ≡ facts_of w.motion r → ruled ≡ ruling w next → answer ≡ then_verdict w.verdict ruled
    → w.motion.limits.leave ≤ 1000 → w.motion.limits.limit ≤ 1000 → Fits w L
    → answer ≡ verdict w.motion (L ++ r ∷ [])
verdict_note w L r next ruled answer e1 e2 e3 h k f =
    e3 ∙ ap (then_verdict w.verdict) (e2 ∙ ap (ruling w) e1 ∙ sym (judged_snoc w L r h k f))
    ∙ rw (f.verdict) (sym (verdict_snoc w.motion L r))

-- a count that has stopped stays where it is
count_more : (k : ℕ) → min (k + 1) 65535 ≡ min (min k 65535 + 1) 65535
count_more k = omega arith

pub count_note : (w : AxisWatch) (L : List Seen) (r : Seen) (more : ℕ) → more ≡ min (w.count + 1) 65535
    → Fits w L → more ≡ min (length (L ++ r ∷ [])) 65535
count_note w L r more e f = rw (e, f.count, length_snoc L r) (sym (count_more (length L)))

pub last_note : (m : Motion) (L : List Seen) (r : Seen) (next : AxisFacts) → next ≡ facts_of m r
    → next ≡ last_facts m (L ++ r ∷ [])
last_note m L r next e = e ∙ sym (facts_snoc m L r)

pub missing_note : (w : AxisWatch) (L : List Seen) (r : Seen) (next : AxisFacts) (both : Bool)
    → next ≡ facts_of w.motion r → both ≡ (w.last.missing && next.missing) → Fits w L
    → both ≡ last_are 2 is_missing (L ++ r ∷ [])
unfolding last_facts
missing_note w L r next both e1 e2 f = rw (e2, e1, f.last) (sym (two_snoc is_missing L r))

pub lacked_note : (w : AxisWatch) (L : List Seen) (r : Seen) (next : AxisFacts) (some : Bool)
    → next ≡ facts_of w.motion r → some ≡ (w.lacked_to || next.lacks_to) → Fits w L
    → some ≡ list_any (lacks w.motion.to) (L ++ r ∷ [])
lacked_note w L r next some e1 e2 f = rw (e2, e1, f.lacked_to) (sym (any_snoc (lacks w.motion.to) L r))

pub from_note : (w : AxisWatch) (L : List Seen) (r : Seen) (next : AxisFacts) (each : Bool)
    → next ≡ facts_of w.motion r → each ≡ (w.only_from && next.from_alone) → Fits w L
    → each ≡ list_all (shows_alone w.motion.from) (L ++ r ∷ [])
from_note w L r next each e1 e2 f = rw (e2, e1, f.only_from) (sym (all_snoc (shows_alone w.motion.from) L r))
