-- The fault is alone in its list
use Rattle.std.proofs.Common.{◌≡◌, ◌∙◌, ap, sym, ◌<◌, ℕ, List, length, subst, zero-add, ◌∷◌, []}
use Rattle.std.proofs.lemmas.List.{get_or-map, length-map}
use Rattle.std.proofs.lemmas.List.FromFn.{get_or-map-range_with_len, length-map-range_with_len}
use Rattle.cell_sim.specs.declared.fault.Fault.{Fault}
use Rattle.cell_sweep.specs.declared.choice.Choice.{Choice}
use Rattle.cell_sweep.specs.declared.choice.Choice.TheVariants as choice
use Rattle.cell_sweep.specs.declared.places.Motion.{Motion}
use Rattle.cell_sim.specs.declared.fault.PlannedFault.{PlannedFault}
use Rattle.cell_sweep.specs.Cases.{IsCaseAt, cases_of, drawn, motions_of, singles}
use Rattle.cell_sweep.proofs.Drawing.{if-drawn}
use Rattle.cell_sweep.proofs.places.Places.case_at.Goals as goal

pub returns-in_ok-faults-in-Single-clause-case : goal.returns-in_ok-faults-in-Single-clause-case
returns-in_ok-faults-in-Single-clause-case c = λ d.
    let self = c.args.self.now in
    let all = singles self.kinds.now (motions_of self.counts) in
    let inside = subst (λ n. c.args.place < n) (length-map all (λ (f : PlannedFault). f ∷ []))
    (rw (c.in-Single.is) at c.requires) in
    rw (c.in-Single.is)
    (get_or-map (λ (f : PlannedFault). f ∷ []) all c.args.place c.fault_at.result d inside
    ∙ ap (λ (f : PlannedFault). f ∷ []) (c.fault_at.ensures c.fault_at.result)
    ∙ sym (c.in_ok-faults-in-Single.ensures.items ∙ c.as_slice.ensures))

-- the place is below the number of runs
inside : (which : Choice) (kinds : List Fault) (motions : List Motion) (place runs faults seed : ℕ)
    → which ≡ choice.Random runs faults seed → place < length (cases_of which kinds motions) → place < runs
inside which kinds motions place runs faults seed is within =
    subst (λ n. place < n) (length-map-range_with_len (drawn kinds motions faults seed) 0 runs)
    (subst (λ (c : Choice). place < length (cases_of c kinds motions)) is within)

pub returns-in-Random-clause-case : goal.returns-in-Random-clause-case
returns-in-Random-clause-case c =
    let self = c.args.self.now in
    let f = drawn self.kinds.now (motions_of self.counts) c.in-Random.faults c.in-Random.seed in
    let below = inside c.args.choice self.kinds.now (motions_of self.counts) c.args.place c.in-Random.runs
    c.in-Random.faults c.in-Random.seed c.in-Random.is c.requires in
    if-drawn c.drawn_at.result (f c.args.place)
    (IsCaseAt c.args.choice self.kinds.now (motions_of self.counts) c.args.place)
    (rw (c.in-Random.is) (λ d. get_or-map-range_with_len f 0 c.in-Random.runs c.args.place c.args.place d below
    (zero-add c.args.place)))
    c.drawn_at.ensures.drawn
