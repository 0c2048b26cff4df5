-- What is found is made
use Rattle.cell_sweep.specs.Batches.{AreMade, IsMade}
use Rattle.cell_sweep.proofs.Batches.{found}
use Rattle.cell_sweep.proofs.batch.Batch.made_at.Goals as goal

pub returns-then-one-place-clause-made : goal.returns-then-one-place-clause-made
returns-then-one-place-clause-made c = λ settings operator w cases all.
    found (IsMade settings operator w cases) _ _ _ _
    (found (λ lane. AreMade settings operator w cases lane.items) _ _ _ _ all c.as_slice.ensures.value
    c.in_ok-made.ensures) c.as_slice-2.ensures.value c.in_ok-one.ensures
