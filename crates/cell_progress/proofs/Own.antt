-- Who holds which zone, that no plate is laid back, and that few fail
use Rattle.std.proofs.Common.{◌≡◌, ℕ, Bool, true, ◌||◌, Some, None, refl, arith, subst, ◌⊎◌, inl, inr}
use Rattle.cell_types.specs.declared.words.Machine.{Machine}
use Rattle.cell_types.specs.declared.words.Axis.{Axis}
use Rattle.cell_types.specs.declared.words.Pose.{Pose}
use Rattle.cell_types.specs.declared.words.Zone.{Zone}
use Rattle.cell_types.specs.declared.words.Entry.{Entry}
use Rattle.cell_types.specs.declared.words.Entry.TheVariants.{Claimed, Declared, Repaired, Expected, Reinstated}
use Rattle.cell_types.specs.After.{Snapshot, step}
use Rattle.cell_rules.proofs.Safe.Facts.{machine_same, pose_same, axes_of}
use Rattle.cell_rules.proofs.Safe.Motion.{MotionSafe}
use Rattle.cell_machines.specs.Useful.{is_useful_now}
use Rattle.cell_progress.specs.Orders.{cell_of, may_after}
use Rattle.cell_progress.proofs.Machines.{Which, First, Second, press, IsNear}
use Rattle.cell_progress.proofs.Happening.{Happens, operators_never, is_operators, declared_may}
use Rattle.cell_progress.proofs.Moves.{came_top, keeps_zone}
use Rattle.cell_progress.proofs.Passing.{Allowed}

pub record Own (s : Snapshot) : Type 0 where
  pub near : (z : Zone) → IsNear s z
  pub top_one : s.at Axis.PressOne ≡ Pose.Top → s.holder Zone.Z3 ≡ Some Machine.Press1
  pub top_two : s.at Axis.PressTwo ≡ Pose.Top → s.holder Zone.Z4 ≡ Some Machine.Press2
  pub expected : s.expected ≡ None

-- zones change hands only between neighbours
near_step : (s : Snapshot) (e : Entry) (y : Zone) → Allowed s e → IsNear s y → IsNear (step e s) y
near_step s (Claimed m z) y p n = grind (arith, machine_same)
near_step s _ y p n = grind arith

-- a press at Top holds its zone, as it did while it went there
top_holds : (s : Snapshot) (x : Which) → MotionSafe (axes_of s) s.holder
    → (s.at (press x).axis ≡ Pose.Top → s.holder (press x).zone ≡ Some (press x).machine)
    → (s.at (press x).axis ≡ Pose.Top) ⊎ (s.going (press x).axis ≡ Some Pose.Top)
    → s.holder (press x).zone ≡ Some (press x).machine
top_holds s x v f (inl g) = f g
top_holds s First v f (inr g) = v.owned Axis.PressOne Pose.Top Zone.Z3 g refl
top_holds s Second v f (inr g) = v.owned Axis.PressTwo Pose.Top Zone.Z4 g refl

top_step : (plan : ℕ) (may : Machine → Bool) (s : Snapshot) (e : Entry) (x : Which) → MotionSafe (axes_of s) s.holder
    → Happens plan may (cell_of s) e → Allowed s e
    → (s.at (press x).axis ≡ Pose.Top → s.holder (press x).zone ≡ Some (press x).machine)
    → (step e s).at (press x).axis ≡ Pose.Top → (step e s).holder (press x).zone ≡ Some (press x).machine
unfolding is_useful_now
top_step plan may s e x v h p f g =
    let t = was (came_top s e x p g) in
    keeps_zone plan may s e (press x).zone (press x).machine h p (λ by u. grind (arith, pose_same))
    (λ i. at_home x (subst (λ (y : Entry). (step y s).at (press x).axis ≡ Pose.Top) i g)) (top_holds s x v f t)
  where
    was : {A B C : Type 0} → A ⊎ (B × C) → A ⊎ B
    was (inl a) = inl a
    was (inr b) = inr b.0

    at_home : (x : Which) → (step (Repaired (press x).machine) s).at (press x).axis ≡ Pose.Top → ⊥
    at_home First i = cc
    at_home Second i = cc

expected_step : (plan : ℕ) (may : Machine → Bool) (s : Snapshot) (e : Entry) → Happens plan may (cell_of s) e
    → s.expected ≡ None → (step e s).expected ≡ None
unfolding is_operators
expected_step plan may s (Expected k) h i = absurd (operators_never plan may (cell_of s) (Expected k) h refl)
expected_step plan may s (Reinstated k) h i = refl
expected_step plan may s _ h i = i

-- every entry that can happen keeps this
pub own_step : (plan : ℕ) (may : Machine → Bool) (s : Snapshot) (e : Entry) → MotionSafe (axes_of s) s.holder
    → Happens plan may (cell_of s) e → Allowed s e → Own s → Own (step e s)
own_step plan may s e v h p w =
    record {
      near = λ y. near_step s e y p (w.near y);
      top_one = top_step plan may s e First v h p w.top_one;
      top_two = top_step plan may s e Second v h p w.top_two;
      expected = expected_step plan may s e h w.expected;
    }

-- who may fail, or has failed, was one that may fail
abbrev pub Few : (Machine → Bool) → (Machine → Bool) → (Machine → Bool) → Type 0
Few first may failed = (m : Machine) → (may m || failed m) ≡ true → first m ≡ true

pub few_step : (plan : ℕ) (first may : Machine → Bool) (s : Snapshot) (e : Entry) → Happens plan may (cell_of s) e
    → Few first may s.failed → Few first (may_after e may) (step e s).failed
few_step plan first may s (Declared m why) h w =
    λ x g. let d = declared_may plan may (cell_of s) m why h in w x (grind (arith, machine_same))
few_step plan first may s (Repaired m) h w = λ x g. w x (grind arith)
few_step plan first may s _ h w = w
