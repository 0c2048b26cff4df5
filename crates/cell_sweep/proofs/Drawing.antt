-- Faults that are drawn one after another
use Rattle.std.proofs.Common.{rules, ◌≡◌, ℕ, ◌+◌, ◌-◌, ◌<◌, ◌≤◌, inl, inr, List, [], ◌∷◌, ◌++◌}
use Rattle.std.proofs.Common.{length, get_or, drop, refl, sym, ap, subst, ◌∙◌, append-nil, append_assoc, arith}
use Rattle.std.proofs.Common.{Result, Ok, Err, IfOk, Vec, Global, zero-add}
use Rattle.std.specs.Prelude.{All, cond, min}
use Rattle.std.proofs.lemmas.List.FromFn.{get_or-map-range_with_len, length-map-range_with_len}
use Rattle.cell_sweep.specs.declared.choice.Choice.TheVariants as choice
use Rattle.std.proofs.lemmas.Bool.{cases_lt, le-ltb, lt-ltb}
use Rattle.std.proofs.lemmas.List.{drop_all, drop_more, get_or_default, length-drop}
use Rattle.cell_sim.specs.declared.fault.Fault.{Fault}
use Rattle.cell_sim.specs.declared.fault.Fault.TheVariants as fault
use Rattle.cell_sim.specs.declared.fault.PlannedFault.{PlannedFault}
use Rattle.cell_sweep.specs.Cases.{below, cases_of, drawn, drawn_in, generator_of, of_kind}
use Rattle.cell_sweep.specs.Drawn.{AreDrawn, AreIn}
use Rattle.cell_sweep.specs.declared.places.Motion.{Motion}

-- a motion is taken if the number drawn is below those still wanted
taken : (kinds : List Fault) (m : Motion) (later : List Motion) (wanted : ℕ) (state : List ℕ)
    → (below (length later + 1) state).0 < wanted
    → drawn_in kinds (m ∷ later) wanted state
    ≡ of_kind kinds m (below (length kinds) (below (length later + 1) state).1).0
    ∷ drawn_in kinds later (wanted - 1) (below (length kinds) (below (length later + 1) state).1).1
unfolding drawn_in
taken kinds m later wanted state less =
    let lot = below (length later + 1) state in
    let kind = below (length kinds) lot.1 in
    ap (λ b. cond b (of_kind kinds m kind.0 ∷ drawn_in kinds later (wanted - 1) kind.1)
    (drawn_in kinds later wanted lot.1)) (lt-ltb lot.0 wanted less)

-- and else it is passed over
passed : (kinds : List Fault) (m : Motion) (later : List Motion) (wanted : ℕ) (state : List ℕ)
    → wanted ≤ (below (length later + 1) state).0
    → drawn_in kinds (m ∷ later) wanted state ≡ drawn_in kinds later wanted (below (length later + 1) state).1
unfolding drawn_in
passed kinds m later wanted state more =
    let lot = below (length later + 1) state in
    let kind = below (length kinds) lot.1 in
    ap (λ b. cond b (of_kind kinds m kind.0 ∷ drawn_in kinds later (wanted - 1) kind.1)
    (drawn_in kinds later wanted lot.1)) (le-ltb lot.0 wanted more)

-- the motions that are left, with this one
left-with : (ms : List Motion) (i count : ℕ) → i < length ms → count ≡ length ms
    → count - i ≡ length (drop (i + 1) ms) + 1
left-with ms i count inside same = omega (arith, inside, same, length-drop (i + 1) ms)

-- one motion further, which is taken
pub drawn-taken : (kinds : List Fault) (ms : List Motion) (i count wanted value kind : ℕ) (state mid end : List ℕ)
    (faults all : List PlannedFault) (f : PlannedFault) (m : Motion) → i < length ms → count ≡ length ms
    → (value, mid) ≡ below (count - i) state → value < wanted
    → (kind, end) ≡ below (length kinds) mid → f ≡ of_kind kinds (get_or ms i m) kind
    → faults ++ drawn_in kinds (drop i ms) wanted state ≡ all
    → (faults ++ f ∷ []) ++ drawn_in kinds (drop (i + 1) ms) (wanted - 1) end ≡ all
drawn-taken kinds ms i count wanted value kind state mid end faults all f m inside same lot less second is so_far =
    let later = drop (i + 1) ms in
    let x = get_or ms i m in
    let first = below (length later + 1) state in
    let next = below (length kinds) first.1 in
    let here : (value, mid) ≡ first = lot ∙ ap (λ n. below n state) (left-with ms i count inside same) in
    let wins : first.0 < wanted = subst (λ n. n < wanted) (ap (λ (p : ℕ × List ℕ). p.0) here) less in
    let there : (kind, end) ≡ next = second ∙ ap (λ (p : ℕ × List ℕ). below (length kinds) p.1) here in
    let fault : f ≡ of_kind kinds x next.0 = is ∙ ap (λ (p : ℕ × List ℕ). of_kind kinds x p.0) there in
    let step : drawn_in kinds (drop i ms) wanted state
    ≡ of_kind kinds x next.0 ∷ drawn_in kinds later (wanted - 1) next.1 =
    ap (λ xs. drawn_in kinds xs wanted state) (drop_more ms i m inside) ∙ taken kinds x later wanted state wins in
    append_assoc faults (f ∷ []) (drawn_in kinds later (wanted - 1) end)
    ∙ ap (λ (p : ℕ × List ℕ). faults ++ (f ∷ drawn_in kinds later (wanted - 1) p.1)) there
    ∙ ap (λ g. faults ++ (g ∷ drawn_in kinds later (wanted - 1) next.1)) fault
    ∙ ap (λ xs. faults ++ xs) (sym step) ∙ so_far

-- one motion further, which is passed over
pub drawn-passed : (kinds : List Fault) (ms : List Motion) (i count wanted value : ℕ) (state mid : List ℕ)
    (faults all : List PlannedFault) (m : Motion) → i < length ms → count ≡ length ms
    → (value, mid) ≡ below (count - i) state → wanted ≤ value
    → faults ++ drawn_in kinds (drop i ms) wanted state ≡ all
    → faults ++ drawn_in kinds (drop (i + 1) ms) wanted mid ≡ all
drawn-passed kinds ms i count wanted value state mid faults all m inside same lot more so_far =
    let later = drop (i + 1) ms in
    let x = get_or ms i m in
    let first = below (length later + 1) state in
    let here : (value, mid) ≡ first = lot ∙ ap (λ n. below n state) (left-with ms i count inside same) in
    let fails : wanted ≤ first.0 = subst (λ n. wanted ≤ n) (ap (λ (p : ℕ × List ℕ). p.0) here) more in
    let step : drawn_in kinds (drop i ms) wanted state ≡ drawn_in kinds later wanted first.1 =
    ap (λ xs. drawn_in kinds xs wanted state) (drop_more ms i m inside) ∙ passed kinds x later wanted state fails in
    ap (λ (p : ℕ × List ℕ). faults ++ drawn_in kinds later wanted p.1) here
    ∙ ap (λ xs. faults ++ xs) (sym step) ∙ so_far

-- the same of other names
pub drawn-named : (kinds : List Fault) (motions : List Motion) (wanted less : ℕ) (state behind : List ℕ)
    (faults new all : List PlannedFault) → new ≡ faults → less ≡ wanted → behind ≡ state
    → faults ++ drawn_in kinds motions wanted state ≡ all → new ++ drawn_in kinds motions less behind ≡ all
drawn-named kinds motions wanted less state behind faults new all same alike after so_far =
    ap (λ xs. xs ++ drawn_in kinds motions less behind) same
    ∙ ap (λ n. faults ++ drawn_in kinds motions n behind) alike
    ∙ ap (λ s. faults ++ drawn_in kinds motions wanted s) after ∙ so_far

-- where no motion is left, all faults are drawn
pub drawn-done : (kinds : List Fault) (ms : List Motion) (i wanted : ℕ) (state : List ℕ)
    (faults all : List PlannedFault) → length ms ≤ i
    → faults ++ drawn_in kinds (drop i ms) wanted state ≡ all → faults ≡ all
unfolding drawn_in
drawn-done kinds ms i wanted state faults all past so_far =
    sym (append-nil faults) ∙ ap (λ xs. faults ++ drawn_in kinds xs wanted state) (sym (drop_all i ms past)) ∙ so_far

-- a number that is drawn is below the limit
below-inside : (limit : ℕ) (state : List ℕ) → 0 < limit → (below limit state).0 < limit
unfolding below
below-inside limit state some = search rules

-- faults in some motions are in one more motion and these
are_in-wider : (kinds : List Fault) (faults : List PlannedFault) (m : Motion) (ms : List Motion)
    → AreIn kinds faults ms → AreIn kinds faults (m ∷ ms)
are_in-wider kinds [] m ms are = tt
are_in-wider kinds (f ∷ faults) m ms (before, x, after, is, of, rest) =
    (m ∷ before, x, after, ap (λ xs. m ∷ xs) is, of, rest)

-- so many faults of the kinds are drawn, in different motions
drawn_in-are : (kinds : List Fault) (ms : List Motion) (n : ℕ) (state : List ℕ) → 0 < length kinds → n ≤ length ms
    → (length (drawn_in kinds ms n state) ≡ n) × AreIn kinds (drawn_in kinds ms n state) ms
unfolding drawn_in
drawn_in-are kinds [] n state some few = (omega (arith, few), tt)
drawn_in-are kinds (m ∷ later) n state some few =
    let lot = below (length later + 1) state in
    let kind = below (length kinds) lot.1 in
    let place : kind.0 < length kinds = below-inside (length kinds) lot.1 some in
    let of = get_or kinds kind.0 fault.Both in
    let same : get_or kinds kind.0 of ≡ of = get_or_default kinds kind.0 of fault.Both place in
    elim (cases_lt lot.0 n) [
      | inl less ↦
          let (long, are) = drawn_in-are kinds later (n - 1) kind.1 some (omega (arith, few)) in
          subst (λ (fs : List PlannedFault). (length fs ≡ n) × AreIn kinds fs (m ∷ later))
          (sym (taken kinds m later n state less)) (
            omega (arith, long, less),
            ([], m, later, refl, (of, (kind.0, place, same), refl), are),
          )
      | inr more ↦
          let inside : lot.0 < length later + 1 = below-inside (length later + 1) state (omega arith) in
          let (long, are) = drawn_in-are kinds later n lot.1 some (omega (arith, more, inside)) in
          subst (λ (fs : List PlannedFault). (length fs ≡ n) × AreIn kinds fs (m ∷ later))
          (sym (passed kinds m later n state more))
          (long, are_in-wider kinds (drawn_in kinds later n lot.1) m later are)
    ]

-- the faults of a run that is drawn are so many, in different motions
pub are-drawn : (kinds : List Fault) (ms : List Motion) (n seed run : ℕ)
    → AreDrawn kinds ms n (drawn kinds ms n seed run)
are-drawn [] ms n seed run = (refl, tt)
are-drawn (kind ∷ kinds) ms n seed run =
    drawn_in-are (kind ∷ kinds) ms (min n (length ms)) (generator_of seed run) (omega arith) (omega arith)

-- they are no more than asked for
pub drawn-most : (kinds : List Fault) (ms : List Motion) (n seed run : ℕ) → length (drawn kinds ms n seed run) ≤ n
drawn-most [] ms n seed run = omega arith
drawn-most (kind ∷ kinds) ms n seed run = omega (arith, (are-drawn (kind ∷ kinds) ms n seed run).0)

-- what holds of the faults that are drawn holds of those that are given
pub if-drawn : {X : Type 0} (r : Result (Vec PlannedFault Global) X) (faults : List PlannedFault)
    (P : List PlannedFault → Type 0) → P faults → IfOk r (λ case. case.items ≡ faults) → IfOk r (λ case. P case.items)
if-drawn (Ok case) faults P holds same = subst P (sym same) holds
if-drawn (Err e) faults P holds same = tt

-- there are so many runs with drawn faults, each with so many, in different motions
pub runs-are-drawn : (kinds : List Fault) (ms : List Motion) (runs n seed : ℕ)
    → (length (cases_of (choice.Random runs n seed) kinds ms) ≡ runs)
    × All (AreDrawn kinds ms n) (cases_of (choice.Random runs n seed) kinds ms)
runs-are-drawn kinds ms runs n seed =
    let f = drawn kinds ms n seed in
    let long = length-map-range_with_len f 0 runs in (
      long,
      λ k d inside.
          subst (AreDrawn kinds ms n)
          (sym (get_or-map-range_with_len f 0 runs k k d (subst (λ m. k < m) long inside) (zero-add k)))
          (are-drawn kinds ms n seed k),
    )
