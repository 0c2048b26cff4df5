-- What the book asks of a Started of an axis with switches
use Rattle.std.specs.Prelude.{◌≡◌, ◌≢◌, true, false, None, List}
use Rattle.cell_types.specs.declared.words.Axis.{Axis}
use Rattle.cell_types.specs.declared.words.Pose.{Pose}
use Rattle.cell_types.specs.declared.words.Entry.{Entry}
use Rattle.cell_types.specs.declared.words.Entry.TheVariants.{Started}
use Rattle.cell_types.specs.Cell.{is_pose_of, machine_of_axis}
use Rattle.cell_rules.specs.declared.limits.BookLimits.{BookLimits}
use Rattle.cell_rules.specs.Legal.{first_of, legal}
use Rattle.cell_rules.specs.Views.{at_of, going_of}
use Rattle.cell_sim.specs.Looks.{is_belt}

-- all axes of its machine rest in the book, and it leads to another of the axis's poses
pub record MayStart (J : List Entry) (a : Axis) (to : Pose) : Type 0 where
  pub rest : (b : Axis) → machine_of_axis b ≡ machine_of_axis a → going_of J b ≡ None
  pub own_pose : is_pose_of a to ≡ true
  pub elsewhere : to ≢ at_of J a

-- the book has no other
abbrev pub StartsFromRest : Type 0
StartsFromRest =
    (l : BookLimits) (J : List Entry) (a : Axis) (to : Pose)
    → is_belt a ≡ false → legal l J ≡ true → first_of l J (Started a to) ≡ None → MayStart J a to
