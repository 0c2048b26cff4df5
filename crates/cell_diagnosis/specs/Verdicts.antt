-- Verdicts on a list of readings, oldest first, by a judge: what the rules say at the last reading of a list
use Rattle.std.specs.Prelude.{◌≡◌, ◌≢◌, ℕ, ◌<◌, ◌≤◌, List, [], ◌∷◌, ◌++◌, length, take}
use Rattle.cell_diagnosis.specs.declared.verdict.Verdict.{Verdict}
use Rattle.cell_diagnosis.specs.declared.verdict.Verdict.TheVariants.{Pending, Arrived, Fault}

-- the first verdict, or the later one where the first is Pending
abbrev pub then_verdict : Verdict → Verdict → Verdict
then_verdict Pending later = later
then_verdict Arrived later = Arrived
then_verdict (Fault c) later = Fault c

-- the first verdict other than Pending at one of the readings that come after those before
abbrev pub verdict_after : {X : Type 0} → (List X → Verdict) → List X → List X → Verdict
verdict_after judge before [] = Pending
verdict_after judge before (r ∷ rs) =
    then_verdict (judge (before ++ r ∷ [])) (verdict_after judge (before ++ r ∷ []) rs)

-- reading i, counted from 1, is the first at which the judge says something other than Pending
pub record IsFirstDecided {X : Type 0} (judge : List X → Verdict) (L : List X) (i : ℕ) : Type 0 where
  pub from_one : 1 ≤ i
  pub within : i ≤ length L
  pub decided : judge (take i L) ≢ Pending
  pub pending_before : (j : ℕ) → 1 ≤ j → j < i → judge (take j L) ≡ Pending

-- the judge says Pending at each reading
abbrev pub IsNeverDecided : {X : Type 0} → (List X → Verdict) → List X → Type 0
IsNeverDecided judge L = (i : ℕ) → 1 ≤ i → i ≤ length L → judge (take i L) ≡ Pending
