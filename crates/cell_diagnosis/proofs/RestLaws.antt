-- What a rest watch keeps is what the rules ask of the readings before
use Rattle.std.specs.Prelude.{Option, Some, None, IfSome}
use Rattle.std.proofs.Common.{◌≡◌, ℕ, Bool, true, false, ◌&&◌, not, List, [], ◌∷◌, ◌++◌, sym, refl, ◌∙◌, ap}
use Rattle.std.proofs.Common.{if◌then◌else◌}
use Rattle.cell_types.specs.declared.words.Cause.TheVariants as cause
use Rattle.cell_diagnosis.specs.declared.verdict.Verdict.{Verdict}
use Rattle.cell_diagnosis.specs.declared.verdict.Verdict.TheVariants.{Pending, Arrived, Fault}
use Rattle.cell_diagnosis.specs.declared.expect.Expect.{Expect}
use Rattle.cell_diagnosis.specs.declared.reading.Reading.{Reading}
use Rattle.cell_diagnosis.specs.declared.rest_facts.RestFacts.{RestFacts}
use Rattle.cell_diagnosis.specs.declared.rest_watch.RestWatch.{RestWatch}
use Rattle.cell_diagnosis.specs.Ends.{last_are}
use Rattle.cell_diagnosis.specs.Verdicts.{then_verdict}
use Rattle.cell_diagnosis.specs.RestFacts.{Noted, noted, is_unread, agrees, disagrees, shows_several_at, is_lost}
use Rattle.cell_diagnosis.specs.RestFacts.{is_strange, rest_facts_of}
use Rattle.cell_diagnosis.specs.RestRules.{is_silent_at_rest, axis_fault, is_plate_lost, is_plate_strange, plate_fault}
use Rattle.cell_diagnosis.specs.RestRules.{judged_at_rest, rest}
use Rattle.cell_diagnosis.specs.RestWatches.{last_rest_facts, noted_by, plate_ruling, rest_ruling, RestFits}
use Rattle.cell_diagnosis.proofs.RestAgrees.{agreeing_facts}
use Rattle.cell_diagnosis.proofs.EndLaws.{one_snoc, two_snoc, three_snoc}
use Rattle.cell_diagnosis.proofs.VerdictLaws.{after_snoc}

-- these facts are of the last reading alone, so what came before plays no part
facts_snoc : (L : List Noted) (n : Noted) → last_rest_facts (L ++ n ∷ []) ≡ rest_facts_of n
unfolding last_rest_facts
facts_snoc L n =
    rw (
      one_snoc is_unread L n,
      one_snoc agrees L n,
      one_snoc (disagrees 0) L n,
      one_snoc (disagrees 1) L n,
      one_snoc (disagrees 2) L n,
      one_snoc (shows_several_at 0) L n,
      one_snoc (shows_several_at 1) L n,
      one_snoc (shows_several_at 2) L n,
      one_snoc (is_lost 0) L n,
      one_snoc (is_lost 1) L n,
      one_snoc (is_lost 2) L n,
      one_snoc (is_strange 0) L n,
      one_snoc (is_strange 1) L n,
      one_snoc (is_strange 2) L n,
    )

-- each rule at one more reading
silent_snoc : (L : List Noted) (n : Noted)
    → is_silent_at_rest (L ++ n ∷ []) ≡ (last_are 2 is_unread L && is_unread n)
unfolding is_silent_at_rest
silent_snoc L n = three_snoc is_unread L n

axis_snoc : (j : ℕ) (L : List Noted) (n : Noted) → axis_fault j (L ++ n ∷ []) ≡
    (if last_are 1 (disagrees j) L && disagrees j n
    then (if last_are 1 (shows_several_at j) L && shows_several_at j n then Fault cause.Contradictory else Fault
    cause.LostPosition)
    else Pending)
unfolding axis_fault
axis_snoc j L n = rw (two_snoc (disagrees j) L n, two_snoc (shows_several_at j) L n)

plate_snoc : (L : List Noted) (n : Noted)
    → plate_fault (L ++ n ∷ []) ≡ plate_ruling (last_rest_facts L) (rest_facts_of n)
unfolding plate_fault is_plate_lost is_plate_strange last_rest_facts
plate_snoc L n =
    rw (
      two_snoc (is_lost 0) L n,
      two_snoc (is_lost 1) L n,
      two_snoc (is_lost 2) L n,
      two_snoc (is_strange 0) L n,
      two_snoc (is_strange 1) L n,
      two_snoc (is_strange 2) L n,
    )

-- of the earlier readings each rule asks only what the watch keeps of them
judged_snoc : (L : List Noted) (n : Noted)
    → judged_at_rest (L ++ n ∷ []) ≡ rest_ruling (last_are 2 is_unread L) (last_rest_facts L) (rest_facts_of n)
unfolding judged_at_rest last_rest_facts
judged_snoc L n = rw (silent_snoc L n, axis_snoc 0 L n, axis_snoc 1 L n, axis_snoc 2 L n, plate_snoc L n)

rest_snoc : (L : List Noted) (n : Noted)
    → rest (L ++ n ∷ []) ≡ then_verdict (rest L) (judged_at_rest (L ++ n ∷ []))
unfolding rest
rest_snoc L n = after_snoc judged_at_rest [] L n

-- a watch after one more reading: what it answers, and what it keeps
pub rest_note : (w : RestWatch) (L : List Noted) (n : Noted) (next : RestFacts) (ruled answer : Verdict)
    → next ≡ rest_facts_of n → ruled ≡ rest_ruling w.two_missing w.last next → answer ≡ then_verdict w.verdict ruled
    → RestFits w L → answer ≡ rest (L ++ n ∷ [])
rest_note w L n next ruled answer e1 e2 e3 f =
    rw (e3, e2, e1, f.verdict, f.last, f.two_missing)
    (sym (rest_snoc L n ∙ ap (then_verdict (rest L)) (judged_snoc L n)))

pub last_note : (L : List Noted) (n : Noted) (next : RestFacts) → next ≡ rest_facts_of n
    → next ≡ last_rest_facts (L ++ n ∷ [])
last_note L n next e = e ∙ sym (facts_snoc L n)

pub missing_note : (w : RestWatch) (L : List Noted) (n : Noted) (next : RestFacts) (both : Bool)
    → next ≡ rest_facts_of n → both ≡ (w.last.missing && next.missing) → RestFits w L
    → both ≡ last_are 2 is_unread (L ++ n ∷ [])
unfolding last_rest_facts
missing_note w L n next both e1 e2 f = rw (e2, e1, f.last) (sym (two_snoc is_unread L n))

-- a reading that agrees isn't missing
pub agreeing_is_there : (n : Noted) (f : RestFacts) → f ≡ rest_facts_of n → f.agrees ≡ true → f.missing ≡ false
unfolding agrees
agreeing_is_there n f e agreed = ap (λ (facts : RestFacts). facts.missing) e
    ∙ by (is_unread n) _ (sym (ap (λ (facts : RestFacts). facts.agrees) e) ∙ agreed)
  where
    by : (unread rest_agrees : Bool) → (not unread && rest_agrees) ≡ true → unread ≡ false
    by false b h = refl
    by true b h = cc

and_false : (b : Bool) → (b && false) ≡ false
and_false true = refl
and_false false = refl

agreed_at : (f g : RestFacts) → f ≡ g → f.agrees ≡ true → g.agrees ≡ true
agreed_at f g e h = sym (ap (λ (facts : RestFacts). facts.agrees) e) ∙ h

-- a reading in which nothing disagrees is no fault, whatever came before
pub agreeing_is_no_fault : (both : Bool) (last next : RestFacts) (n : Noted) → next ≡ rest_facts_of n
    → next.agrees ≡ true → Pending ≡ rest_ruling both last next
agreeing_is_no_fault both last next n e h = rw (e ∙ sym (agreeing_facts n (agreed_at next (rest_facts_of n) e h)))
    (simp and_false refl)

-- a reading at which no rule applies leaves the verdict as it was
then_pending : (v : Verdict) → v ≡ then_verdict v Pending
then_pending Pending = refl
then_pending Arrived = refl
then_pending (Fault cause) = refl

-- a reading that repeats one that agreed, with the same Expect, changes nothing
pub repeated : (w : RestWatch) (L : List Noted) (e : Expect) (r : Option Reading) → w.last.agrees ≡ true
    → r ≡ Some w.reading → e ≡ w.expect
    → RestFits w L → RestFits w (L ++ noted_by w e r ∷ [])
repeated w L e r agreed same_reading same_expect f =
    let n : Noted = noted_by w w.expect (Some w.reading) in
    let is : w.last ≡ rest_facts_of n = f.kept agreed in
    let there : w.last.missing ≡ false = agreeing_is_there n w.last is agreed in
    let none : Pending ≡ rest_ruling w.two_missing w.last w.last =
    agreeing_is_no_fault w.two_missing w.last w.last n is agreed in
    rw (same_reading, same_expect) (record {
      last = last_note L n w.last is;
      two_missing = missing_note w L n w.last w.two_missing is (f.present agreed
          ∙ sym (ap (λ (b : Bool). b && b) there)) f;
      verdict = rest_note w L n w.last Pending w.verdict is none (then_pending w.verdict) f;
      kept = f.kept;
      present = f.present;
    })

-- after another reading: its facts, if they agree, are those of the reading that is kept, and it wasn't missing
pub kept_note : (w : RestWatch) (e : Expect) (r : Option Reading) (new : Reading) (next : RestFacts)
    → next ≡ rest_facts_of (noted_by w e r)
    → IfSome r (λ x. new ≡ x) → next.agrees ≡ true → next ≡ rest_facts_of (noted_by w e (Some new))
unfolding noted agrees is_unread
kept_note w e (Some x) new next is same h = rw same is
kept_note w e None new next is same h = let never : false ≡ true =
    agreed_at next (rest_facts_of (noted_by w e None)) is h in cc

-- a reading that agrees isn't missing, so it ends any row of missing ones
pub present_note : (w : RestWatch) (n : Noted) (next : RestFacts) → next ≡ rest_facts_of n → next.agrees ≡ true
    → (w.last.missing && next.missing) ≡ false
present_note w n next is h = rw (agreeing_is_there n next is h) (and_false w.last.missing)
