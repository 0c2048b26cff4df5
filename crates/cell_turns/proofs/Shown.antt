-- The motion that the book shows for a machine is on an axis of its own
use Rattle.std.proofs.Common.{◌≡◌, IfSome, ℕ, zero, suc, Option, Some, None, List, refl, subst}
use Rattle.std.specs.Option.{option_map, option_or, option_and_then}
use Rattle.std.specs.List.{slice_get}
use Rattle.cell_types.specs.declared.words.Machine.{Machine}
use Rattle.cell_types.specs.declared.words.Machine.TheVariants as machine
use Rattle.cell_types.specs.declared.words.Axis.{Axis}
use Rattle.cell_types.specs.declared.words.Pose.{Pose}
use Rattle.cell_types.specs.declared.words.Entry.{Entry}
use Rattle.cell_types.specs.Cell.{machine_of_axis, axes_of}
use Rattle.cell_rules.specs.Views.{at_of, going_of}
use Rattle.cell_diagnosis.specs.declared.motion.Motion.{Motion}
use Rattle.cell_ports.specs.declared.plan.Plan.{Plan}
use Rattle.cell_turns.specs.Moving.{limits_of, motion_on, motion_of_axis, motion_of_machine}

pub record Shown (J : List Entry) (m : Machine) (mo : Motion) : Type 0 where
  pub own : machine_of_axis mo.axis ≡ m
  pub going : going_of J mo.axis ≡ Some mo.to

abbrev pub AreShown : List Entry → Machine → Option Motion → Type 0
AreShown J m None = Unit {0}
AreShown J m (Some mo) = Shown J m mo

on_shown : (J : List Entry) (p : Plan) (a : Axis) → AreShown J (machine_of_axis a) (motion_on J p a)
on_shown J p a = go (going_of J a) refl
  where
    go : (o : Option Pose) → going_of J a ≡ o
        → AreShown J (machine_of_axis a) (option_map
        (λ to. record { axis = a; from = at_of J a; to = to; limits = limits_of p a }) o)
    go None is = tt
    go (Some to) is = record { own = refl; going = is }

or_shown : (J : List Entry) (m : Machine) (o q : Option Motion) → AreShown J m o → AreShown J m q
    → AreShown J m (option_or o q)
or_shown J m None q h k = k
or_shown J m (Some mo) q h k = h

-- the axes of a machine are its own
pub own_axis : (m : Machine) (i : ℕ) → IfSome (slice_get (axes_of m) i) (λ a. machine_of_axis a ≡ m)
own_axis machine.Feed zero = refl
own_axis machine.Feed (suc i) = tt
own_axis machine.Table zero = refl
own_axis machine.Table (suc zero) = refl
own_axis machine.Table (suc (suc i)) = tt
own_axis machine.Robot zero = refl
own_axis machine.Robot (suc zero) = refl
own_axis machine.Robot (suc (suc zero)) = refl
own_axis machine.Robot (suc (suc (suc i))) = tt
own_axis machine.Press1 zero = refl
own_axis machine.Press1 (suc i) = tt
own_axis machine.Press2 zero = refl
own_axis machine.Press2 (suc i) = tt
own_axis machine.Deposit zero = refl
own_axis machine.Deposit (suc i) = tt

axis_shown : (J : List Entry) (p : Plan) (m : Machine) (i : ℕ) → AreShown J m (motion_of_axis J p m i)
axis_shown J p m i = go (slice_get (axes_of m) i) (own_axis m i)
  where
    go : (o : Option Axis) → IfSome o (λ a. machine_of_axis a ≡ m) → AreShown J m (option_and_then (motion_on J p) o)
    go None own = tt
    go (Some a) own = subst (λ (n : Machine). AreShown J n (motion_on J p a)) own (on_shown J p a)

-- a machine has three axes at most, and its motion is that of the first one that moves
pub shown : (J : List Entry) (p : Plan) (m : Machine) → AreShown J m (motion_of_machine J p m)
shown J p m =
    or_shown J m (option_or (motion_of_axis J p m 0) (motion_of_axis J p m 1)) (motion_of_axis J p m 2)
    (or_shown J m (motion_of_axis J p m 0) (motion_of_axis J p m 1) (axis_shown J p m 0) (axis_shown J p m 1))
    (axis_shown J p m 2)
