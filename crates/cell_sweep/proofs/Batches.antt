-- Steps of the loops over what threads make
use Rattle.std.proofs.Common.{◌≡◌, ℕ, ◌+◌, ◌-◌, ◌<◌, ◌≤◌, Bool, List, [], ◌∷◌, ◌++◌, All, Option, arith, drop}
use Rattle.std.proofs.Common.{OnOk, Result, Some, if◌then◌else◌, get_or, length, true, false, refl, sym, ap, subst}
use Rattle.std.proofs.Common.{◌∙◌, slice_get, take}
use Rattle.std.specs.Io.KnownBytes.{Appends}
use Rattle.std.proofs.lemmas.List.{drop-drop, drop-take, take-append-drop, take-take}
use Rattle.std.proofs.lemmas.List.Elements.{All-append, All-cons, All-get_or, All-nil}
use Rattle.std.proofs.lemmas.Option.{get_or_from_slice_get, slice_get_within}
use Rattle.cell_sim.specs.declared.fault.PlannedFault.{PlannedFault}
use Rattle.cell_sweep.specs.declared.batch.Made.{Made}
use Rattle.cell_sweep.specs.declared.places.Span.{Span}
use Rattle.cell_sweep.specs.Batches.{AreMade, IsMade, TellsPlace, cases_between}
use Rattle.cell_sweep.specs.Sweeps.{TellsCases, Wanted}
use Rattle.cell_sweep.proofs.Steps.{cases-more, cases-then}

-- the cases up to a place and those from it on
pub between-join : (cases : List (List PlannedFault)) (begin mid end : ℕ) → begin ≤ mid → mid ≤ end
    → cases_between cases begin mid ++ cases_between cases mid end ≡ cases_between cases begin end
between-join cases begin mid end first second =
    let rest = drop begin cases in
    let n = mid - begin in
    let k = end - mid in
    let all : n + k ≡ end - begin = omega (arith, first, second) in
    let low : take n (take (n + k) rest) ≡ take n rest = take-take n (n + k) rest (omega arith) in
    let place : begin + n ≡ mid = omega (arith, first) in
    let high : drop n (take (n + k) rest) ≡ take k (drop mid cases) =
    drop-take n k rest ∙ ap (take k) (drop-drop n begin cases ∙ ap (λ i. drop i cases) place) in
    sym (ap (λ xs. xs ++ take k (drop mid cases)) low)
    ∙ sym (ap (λ xs. take n (take (n + k) rest) ++ xs) high)
    ∙ take-append-drop n (take (n + k) rest) ∙ ap (λ i. take i rest) all

-- the cases up to a place are told, and then those from it on
pub told-join : (settings operator : List ℕ) (w : Wanted) (cases : List (List PlannedFault)) (begin mid end : ℕ)
    (old so_far new : Option (List ℕ)) → begin ≤ mid → mid ≤ end
    → TellsCases settings operator w (cases_between cases begin mid) old so_far
    → TellsCases settings operator w (cases_between cases mid end) so_far new
    → TellsCases settings operator w (cases_between cases begin end) old new
told-join settings operator w cases begin mid end old so_far new first second told more =
    subst (λ (fs : List (List PlannedFault)). TellsCases settings operator w fs old new)
    (between-join cases begin mid end first second)
    (cases-then settings operator w (cases_between cases begin mid) (cases_between cases mid end) old so_far new told
    more)

-- the cases between two places are those between the same places
pub told-between : (settings operator : List ℕ) (w : Wanted) (cases : List (List PlannedFault)) (from to begin end : ℕ)
    (old new : Option (List ℕ)) → from ≡ begin → to ≡ end
    → TellsCases settings operator w (cases_between cases from to) old new
    → TellsCases settings operator w (cases_between cases begin end) old new
told-between settings operator w cases from to begin end old new starts stops told =
    subst (λ i. TellsCases settings operator w (cases_between cases begin i) old new) stops
    (subst (λ i. TellsCases settings operator w (cases_between cases i to) old new) starts told)

pub told-in-span : {X E : Type 0} (r : Result X E) (settings operator : List ℕ) (w : Wanted)
    (cases : List (List PlannedFault)) (s t : Span) (old new : Option (List ℕ)) → s ≡ t
    → OnOk r (TellsCases settings operator w (cases_between cases s.begin s.end) old new)
    → OnOk r (TellsCases settings operator w (cases_between cases t.begin t.end) old new)
told-in-span r settings operator w cases s t old new same told =
    subst (λ (u : Span). OnOk r (TellsCases settings operator w (cases_between cases u.begin u.end) old new)) same told

-- the line that is written of a run that is made tells of it
pub made-told : (settings operator : List ℕ) (w : Wanted) (cases : List (List PlannedFault)) (place : ℕ) (m : Made)
    (line : List ℕ) (old new : Option (List ℕ)) → line ≡ m.line.items → IsMade settings operator w cases m
    → m.place ≡ place → Appends old new line → TellsPlace settings operator w cases place old new
made-told settings operator w cases place m line old new same is here next = (
  m.row.faults,
  λ d. ap (λ n. get_or cases n d) (sym here) ∙ is.case d,
  (m.row, refl, is.told, (line, next, λ is_csv. same ∙ is.line is_csv)),
)

-- what holds of all holds of what is found
pub found : {X : Type 0} (P : X → Type 0) (xs ys : List X) (i : ℕ) (x : X) → All P xs → ys ≡ xs
    → slice_get ys i ≡ Some x → P x
found P xs ys i x all same at =
    let here : slice_get xs i ≡ Some x = subst (λ zs. slice_get zs i ≡ Some x) same at in
    subst P (get_or_from_slice_get xs i x x here) (All-get_or P xs i x (slice_get_within xs i x here) all)

-- the run at one more place is told
pub place-more : (settings operator : List ℕ) (w : Wanted) (cases : List (List PlannedFault)) (begin place : ℕ)
    (old mid new : Option (List ℕ)) → begin ≤ place → place < length cases
    → TellsCases settings operator w (take (place - begin) (drop begin cases)) old mid
    → TellsPlace settings operator w cases place mid new
    → TellsCases settings operator w (take (place + 1 - begin) (drop begin cases)) old new
place-more settings operator w cases begin place old mid new after inside so_far (faults, case, next) =
    cases-more settings operator w cases begin place faults old mid new after inside case so_far next

-- a run that was made stands behind those before it
pub pushed-made : (settings operator : List ℕ) (w : Wanted) (cases : List (List PlannedFault)) (old new : List Made)
    (m : Made) (pushed : Bool) → new ≡ (if pushed then old ++ m ∷ [] else old) → IsMade settings operator w cases m
    → AreMade settings operator w cases old → AreMade settings operator w cases new
pushed-made settings operator w cases old new m true is made so_far =
    let P = IsMade settings operator w cases in
    subst (All P) (sym is) (All-append P old (m ∷ []) so_far (All-cons P m [] made (All-nil P)))
pushed-made settings operator w cases old new m false is made so_far =
    subst (All (IsMade settings operator w cases)) (sym is) so_far
