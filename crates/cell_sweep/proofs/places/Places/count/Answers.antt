-- As many runs as there are faults, or pairs of them
use Rattle.std.proofs.Common.{◌≡◌, ◌∙◌, ◌∷◌, [], ap, sym, subst, ◌*◌, ◌-◌, ◌/◌, length, IfSome}
use Rattle.std.proofs.lemmas.List.{length-map}
use Rattle.std.proofs.lemmas.List.FromFn.{length-map-range_with_len}
use Rattle.cell_sim.specs.declared.fault.PlannedFault.{PlannedFault}
use Rattle.cell_sweep.specs.Cases.{drawn, motions_of, singles}
use Rattle.cell_sweep.proofs.Standing.{length-pairs, length-singles}
use Rattle.cell_sweep.proofs.places.Places.count.Goals as goal

pub returns-in-Single : goal.returns-in-Single
returns-in-Single c =
    let self = c.args.self.now in
    rw (c.in-Single.is)
    (ap (λ n. n * length self.kinds.now) self.counted ∙ sym (length-singles self.kinds.now (motions_of self.counts))
    ∙ sym (length-map (singles self.kinds.now (motions_of self.counts)) (λ (f : PlannedFault). f ∷ [])))

pub returns-in-Pairs : goal.returns-in-Pairs
returns-in-Pairs c =
    let self = c.args.self.now in
    rw (c.in-Pairs.is)
    (subst (λ n. IfSome c.count_pairs.result (λ all. all ≡ n))
    (ap (λ n. n * (n - 1) / 2 * (length self.kinds.now * length self.kinds.now)) self.counted
    ∙ sym (length-pairs self.kinds.now (motions_of self.counts))) c.count_pairs.ensures)

pub returns-in-Random : goal.returns-in-Random
returns-in-Random c =
    let self = c.args.self.now in
    rw (c.in-Random.is)
    (c.from.ensures ∙ sym (length-map-range_with_len (drawn self.kinds.now (motions_of self.counts) c.in-Random.faults
    c.in-Random.seed) 0 c.in-Random.runs))
