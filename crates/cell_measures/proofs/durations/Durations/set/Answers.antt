-- Each axis has a row with a number for each pose, so the duration of one motion alone is set
use Rattle.std.proofs.Common.{◌<◌, ◌∙◌, ap, arith, length, ℕ}
use Rattle.std.specs.Prelude.{◌&&◌, ◌==◌, if◌then◌else◌}
use Rattle.cell_types.specs.Same.{axis_number, pose_number, same_pose}
use Rattle.cell_measures.specs.Times.{duration}
use Rattle.cell_measures.proofs.Setting.{after_set_in}
use Rattle.cell_measures.proofs.durations.Durations.set.Goals as goal

pub returns : goal.returns
returns c =
    λ m. let within : c.axis_number-place.result < length c.args.self.now.rows =
    omega (arith, c.axis_number-place.ensures.below) in
    after_set_in c.args.self.now.rows c.with_time.result c.axis_number-place.result (pose_number c.args.to)
    (axis_number m.axis) (pose_number m.to) c.args.time within (c.with_time.ensures m.to)
    ∙ ap (λ (n : ℕ). if (n == axis_number m.axis) && same_pose c.args.to m.to then c.args.time else duration
    c.args.self.now m) c.axis_number-place.ensures.value
