-- The watch of an axis with switches finds a fault that keeps the axis from its end
use Rattle.std.proofs.Common.{◌≡◌, ℕ, zero, suc, [], length, refl, ap, arith}
use Rattle.cell_types.specs.Cell.{machine_of_axis}
use Rattle.cell_types.specs.declared.words.Command.TheVariants.{On}
use Rattle.cell_diagnosis.specs.declared.motion.Motion.{Motion}
use Rattle.cell_diagnosis.specs.AxisRules.{verdict}
use Rattle.cell_diagnosis.proofs.LimitLaws.{found_after}
use Rattle.cell_sim.specs.Commands.{after_command}
use Rattle.cell_sim.specs.Readings.{after_reading}
use Rattle.cell_sim.specs.Simulated.{Simulated}
use Rattle.cell_world.specs.Faulty.{PlannedIsFound, seen_next}
use Rattle.cell_world.proofs.FaultStarts.{planned_hides}

next_long : (k : ℕ) (m : Motion) (w : Simulated) → length (seen_next k m w) ≡ k
next_long zero m w = refl
next_long (suc k) m w = ap suc (next_long k m (after_reading w (machine_of_axis m.axis)))

pub planned_is_found : PlannedIsFound
unfolding verdict
planned_is_found faults m f w fails some within =
    let v = after_command faults w (On m.axis m.to) in
    let long = next_long m.limits.limit m v in
    found_after m [] (seen_next m.limits.limit m v) (planned_hides m.limits.limit faults m f w fails within)
    (omega (arith, some)) (omega (arith, long))
