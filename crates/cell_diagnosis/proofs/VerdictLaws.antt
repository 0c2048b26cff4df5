-- The verdict after one more reading; a verdict stays; the first reading at which a rule applies decides
use Rattle.std.proofs.Common.{◌≡◌, ◌≢◌, ℕ, zero, suc, ◌<◌, ◌≤◌, List, [], ◌∷◌, ◌++◌, length, take, refl, sym, ◌∙◌, ap}
use Rattle.std.proofs.Common.{arith, append_assoc}
use Rattle.std.proofs.lemmas.List.{append-nil}
use Rattle.cell_diagnosis.specs.declared.verdict.Verdict.{Verdict}
use Rattle.cell_diagnosis.specs.declared.verdict.Verdict.TheVariants.{Pending, Arrived, Fault}
use Rattle.cell_diagnosis.specs.Verdicts.{then_verdict, verdict_after, IsFirstDecided, IsNeverDecided}

-- the verdict is defined from the first reading on, but a watch adds the newest one at the end
then_assoc : (a b c : Verdict) → then_verdict (then_verdict a b) c ≡ then_verdict a (then_verdict b c)
then_assoc Pending b c = refl
then_assoc Arrived b c = refl
then_assoc (Fault x) b c = refl

then_pending : (a : Verdict) → then_verdict a Pending ≡ a
then_pending Pending = refl
then_pending Arrived = refl
then_pending (Fault x) = refl

-- so a watch needs only its last answer and what the rules say at the new reading
pub after_snoc : {X : Type 0} (judge : List X → Verdict) (before L : List X) (r : X)
    → verdict_after judge before (L ++ r ∷ [])
    ≡ then_verdict (verdict_after judge before L) (judge ((before ++ L) ++ r ∷ []))
after_snoc judge before [] r =
    then_pending (judge (before ++ r ∷ [])) ∙ ap (λ l. judge (l ++ r ∷ [])) (sym (append-nil before))
after_snoc judge before (x ∷ L) r =
    rw (after_snoc judge (before ++ x ∷ []) L r, append_assoc before (x ∷ []) L)
    (sym (then_assoc (judge (before ++ x ∷ [])) (verdict_after judge (before ++ x ∷ []) L) _))

pub then_stays : (a b : Verdict) → a ≢ Pending → then_verdict a b ≡ a
then_stays Pending b h = absurd (h refl)
then_stays Arrived b h = refl
then_stays (Fault c) b h = refl

-- either the first verdict stands already, or it is up to the second, which stays
then_after : (a b c : Verdict) → (b ≢ Pending → c ≡ b) → then_verdict a b ≢ Pending
    → then_verdict a c ≡ then_verdict a b
then_after Pending b c f h = f h
then_after Arrived b c f h = refl
then_after (Fault x) b c f h = refl

-- what decides comes before the readings that are added, so these are never asked
pub after_stays : {X : Type 0} (judge : List X → Verdict) (before L M : List X)
    → verdict_after judge before L ≢ Pending
    → verdict_after judge before (L ++ M) ≡ verdict_after judge before L
after_stays judge before [] M h = absurd (h refl)
after_stays judge before (x ∷ L) M h =
    then_after (judge (before ++ x ∷ [])) _ _ (after_stays judge (before ++ x ∷ []) L M) h

-- item i, counted from 0, of those that come after those before is the first at which the judge says something
pub record IsFirstAfter {X : Type 0} (judge : List X → Verdict) (before L : List X) (i : ℕ) : Type 0 where
  pub within : i < length L
  pub decided : judge (before ++ take (suc i) L) ≢ Pending
  pub pending_before : (j : ℕ) → j < i → judge (before ++ take (suc j) L) ≡ Pending

-- the same items, the first of them taken to those before
moved : {X : Type 0} (judge : List X → Verdict) (before : List X) (x : X) (L : List X) (i : ℕ)
    → judge ((before ++ x ∷ []) ++ take (suc i) L) ≡ judge (before ++ take (suc (suc i)) (x ∷ L))
moved judge before x L i = ap judge (append_assoc before (x ∷ []) (take (suc i) L))

-- without the first item each of the others stands one place lower
first_in_rest : {X : Type 0} (judge : List X → Verdict) (before : List X) (x : X) (L : List X) (i : ℕ)
    → IsFirstAfter judge before (x ∷ L) (suc i) → IsFirstAfter judge (before ++ x ∷ []) L i
first_in_rest judge before x L i f = record {
  within = omega arith;
  decided = λ e. f.decided (sym (moved judge before x L i) ∙ e);
  pending_before = λ j below. moved judge before x L j ∙ f.pending_before (suc j) (omega arith);
}

-- at all items before it the judge says Pending, and these are passed over
pub first_after : {X : Type 0} (judge : List X → Verdict) (before L : List X) (i : ℕ)
    → IsFirstAfter judge before L i → verdict_after judge before L ≡ judge (before ++ take (suc i) L)
first_after judge before [] i f = absurd (omega (arith, f.within))
first_after judge before (x ∷ L) zero f =
    then_stays (judge (before ++ x ∷ [])) (verdict_after judge (before ++ x ∷ []) L) f.decided
first_after judge before (x ∷ L) (suc i) f =
    ap (λ v. then_verdict v (verdict_after judge (before ++ x ∷ []) L)) (f.pending_before zero (omega arith))
    ∙ first_after judge (before ++ x ∷ []) L i (first_in_rest judge before x L i f)
    ∙ moved judge before x L i

pub first_decides : {X : Type 0} (judge : List X → Verdict) (L : List X) (i : ℕ) → IsFirstDecided judge L i
    → verdict_after judge [] L ≡ judge (take i L)
first_decides judge L zero f = absurd (omega (arith, f.from_one))
first_decides judge L (suc i) f = first_after judge [] L i (record {
  within = omega arith;
  decided = f.decided;
  pending_before = λ j below. f.pending_before (suc j) (omega arith) (omega arith);
})

none_after : {X : Type 0} (judge : List X → Verdict) (before L : List X)
    → ((i : ℕ) → i < length L → judge (before ++ take (suc i) L) ≡ Pending)
    → verdict_after judge before L ≡ Pending
none_after judge before [] h = refl
none_after judge before (x ∷ L) h =
    ap (λ v. then_verdict v (verdict_after judge (before ++ x ∷ []) L)) (h zero (omega arith))
    ∙ none_after judge (before ++ x ∷ []) L (λ i below. moved judge before x L i ∙ h (suc i) (omega arith))

pub none_decides : {X : Type 0} (judge : List X → Verdict) (L : List X) → IsNeverDecided judge L
    → verdict_after judge [] L ≡ Pending
none_decides judge L h = none_after judge [] L (λ i below. h (suc i) (omega arith) (omega arith))

pending_before_later : {X : Type 0} (judge : List X → Verdict) (before : List X) (x : X) (L : List X) (i : ℕ)
    → judge (before ++ x ∷ []) ≡ Pending → IsFirstAfter judge (before ++ x ∷ []) L i → (j : ℕ) → j < suc i
    → judge (before ++ take (suc j) (x ∷ L)) ≡ Pending
pending_before_later judge before x L i e f zero below = e
pending_before_later judge before x L i e f (suc j) below =
    sym (moved judge before x L j) ∙ f.pending_before j (omega arith)

-- at the first item, or else at a later one
here : {X : Type 0} (judge : List X → Verdict) (before : List X) (x : X) (L : List X)
    → judge (before ++ x ∷ []) ≢ Pending → (i : ℕ) × IsFirstAfter judge before (x ∷ L) i
here judge before x L h =
    (zero, record { within = omega arith; decided = h; pending_before = λ j below. absurd (omega (arith, below)) })

later : {X : Type 0} (judge : List X → Verdict) (before : List X) (x : X) (L : List X)
    → judge (before ++ x ∷ []) ≡ Pending → (i : ℕ) × IsFirstAfter judge (before ++ x ∷ []) L i
    → (i : ℕ) × IsFirstAfter judge before (x ∷ L) i
later judge before x L e found = (
  suc found.0,
  record {
    within = omega (arith, found.1.within);
    decided = λ p. found.1.decided (moved judge before x L found.0 ∙ p);
    pending_before = pending_before_later judge before x L found.0 e found.1;
  },
)

here_or_later : {X : Type 0} (judge : List X → Verdict) (before : List X) (x : X) (L : List X) (v : Verdict)
    → judge (before ++ x ∷ []) ≡ v → then_verdict v (verdict_after judge (before ++ x ∷ []) L) ≢ Pending
    → (verdict_after judge (before ++ x ∷ []) L ≢ Pending → (i : ℕ) × IsFirstAfter judge (before ++ x ∷ []) L i)
    → (i : ℕ) × IsFirstAfter judge before (x ∷ L) i
here_or_later judge before x L Pending e h find = later judge before x L e (find h)
here_or_later judge before x L Arrived e h find = here judge before x L (λ p. h (sym e ∙ p))
here_or_later judge before x L (Fault c) e h find = here judge before x L (λ p. h (sym e ∙ p))

-- goes on to the next item for as long as the judge says Pending
some_after : {X : Type 0} (judge : List X → Verdict) (before L : List X)
    → verdict_after judge before L ≢ Pending → (i : ℕ) × IsFirstAfter judge before L i
some_after judge before [] h = absurd (h refl)
some_after judge before (x ∷ L) h =
    here_or_later judge before x L (judge (before ++ x ∷ [])) refl h (some_after judge (before ++ x ∷ []) L)

from_zero : {X : Type 0} (judge : List X → Verdict) (L : List X) (i : ℕ) → IsFirstAfter judge [] L i → (j : ℕ)
    → 1 ≤ j → j < suc i → judge (take j L) ≡ Pending
from_zero judge L i f zero one below = absurd (omega (arith, one))
from_zero judge L i f (suc j) one below = f.pending_before j (omega arith)

pub some_decides : {X : Type 0} (judge : List X → Verdict) (L : List X) → verdict_after judge [] L ≢ Pending
    → (i : ℕ) × IsFirstDecided judge L i
some_decides judge L h =
    let found : (i : ℕ) × IsFirstAfter judge [] L i = some_after judge [] L h in (
      suc found.0,
      record {
        from_one = omega arith;
        within = omega (arith, found.1.within);
        decided = found.1.decided;
        pending_before = from_zero judge L found.0 found.1;
      },
    )
