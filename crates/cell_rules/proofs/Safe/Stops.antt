-- An axis that was moving comes to rest: the part of the invariant that is about axes and zones is kept.
use Rattle.std.proofs.Common.{◌≡◌, Bool, true, false, cond, Some, refl, arith}
use Rattle.cell_types.specs.declared.words.Axis.{Axis}
use Rattle.cell_types.specs.declared.words.Pose.{Pose}
use Rattle.cell_types.specs.declared.words.Arm.{Arm}
use Rattle.cell_types.specs.Same.{same_axis}
use Rattle.cell_types.specs.Cell.{axis_of_arm}
use Rattle.cell_types.specs.After.{with_at}
use Rattle.cell_rules.proofs.Safe.Facts.{pose_same, Axes, rest}
use Rattle.cell_rules.proofs.Safe.Motion.{Spot, Holders, Facing, ArmSafe, inside, facing, fits}
use Rattle.cell_rules.proofs.Safe.Motion.{MotionSafe, Away, put_rest, facing_put, fits_put}

-- an axis that moves isn't one that rests
moving_case : (ax : Axes) (a y : Axis) (p q : Pose) (b : Bool) → same_axis a y ≡ b → ax y ≡ rest p
    → (ax a).going ≡ Some q → b ≡ false
moving_case ax a y p q b e f g = grind (arith, pose_same)

pub moving_other : (ax : Axes) (a y : Axis) (p q : Pose) → ax y ≡ rest p → (ax a).going ≡ Some q → same_axis a y ≡ false
moving_other ax a y p q r g = moving_case ax a y p q (same_axis a y) refl r g

-- what moves is nothing on which a spot depends where an arm may be out
pub moving_away : (ax : Axes) (h : Holders) (a : Axis) (q : Pose) (x : Spot) → (ax a).going ≡ Some q → Facing ax h x
    → Away x a
moving_away ax h a q x e f = grind (arith, pose_same)

-- an axis that was moving isn't that of an arm that is in, and no spot with an arm out depends on it
arm_rests : (ax : Axes) (h : Holders) (a : Axis) (p q : Pose) (arm : Arm) → (ax a).going ≡ Some q → ArmSafe ax h arm
    → ArmSafe (with_at (same_axis a) (rest p) ax) h arm
arm_rests ax h a p q arm g (inside e) =
    inside (put_rest ax a (axis_of_arm arm) (rest p) Pose.In e (moving_other ax a (axis_of_arm arm) Pose.In q e g))
arm_rests ax h a p q arm g (facing x e f) = facing x e (facing_put ax h a (rest p) x (moving_away ax h a q x g f) f)

-- used for the rules on what moves: what moves after the stop was moving before it
still_going : (ax : Axes) (a y : Axis) (p q : Pose) (b : Bool) → same_axis a y ≡ b
    → (cond b (rest p) (ax y)).going ≡ Some q → (ax y).going ≡ Some q
still_going ax a y p q b e f = grind (arith, pose_same)

-- what the rules need at rest isn't the axis that stops, so they keep what they need
pub motion_rests : (ax : Axes) (h : Holders) (a : Axis) (p q : Pose) → MotionSafe ax h → (ax a).going ≡ Some q
    → fits a (rest p) ≡ true → MotionSafe (with_at (same_axis a) (rest p) ax) h
motion_rests ax h a p q m g n =
    record {
      arm_one = arm_rests ax h a p q Arm.Arm1 g m.arm_one;
      arm_two = arm_rests ax h a p q Arm.Arm2 g m.arm_two;
      feed = λ to.
          let w = m.feed (still_going ax a Axis.FeedBelt p Pose.ToTable (same_axis a Axis.FeedBelt) refl to) in
          record {
            zone = w.zone;
            lift = put_rest ax a Axis.TableLift (rest p) Pose.Low w.lift
                (moving_other ax a Axis.TableLift Pose.Low q w.lift g);
            turn = put_rest ax a Axis.TableTurn (rest p) Pose.Belt w.turn
                (moving_other ax a Axis.TableTurn Pose.Belt q w.turn g);
          };
      fitting = fits_put ax a (rest p) n m.fitting;
      owned = λ y d z e r. m.owned y d z (still_going ax a y p d (same_axis a y) refl e) r;
    }
