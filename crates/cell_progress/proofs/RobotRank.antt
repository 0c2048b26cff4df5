-- The robot's part of the rank
use Rattle.std.proofs.Common.{◌≡◌, ◌+◌, ◌≤◌, Bool, true, false, ◌||◌, is_some, refl, arith}
use Rattle.cell_types.specs.declared.words.Axis.{Axis}
use Rattle.cell_types.specs.declared.words.Axis.TheVariants as axis
use Rattle.cell_types.specs.declared.words.Pose.{Pose}
use Rattle.cell_types.specs.declared.words.Pose.TheVariants as pose
use Rattle.cell_types.specs.declared.words.Zone.{Zone}
use Rattle.cell_types.specs.declared.words.Zone.TheVariants as zone
use Rattle.cell_types.specs.declared.words.Entry.{Entry}
use Rattle.cell_types.specs.declared.words.Entry.TheVariants.{Started, Arrived}
use Rattle.cell_types.specs.Same.{same_pose}
use Rattle.cell_rules.specs.First.{is_pose}
use Rattle.cell_rules.specs.Situations.{Situation}
use Rattle.cell_machines.specs.Robot.{holds_a_zone}
use Rattle.cell_machines.specs.Jobs.{is_robots}
use Rattle.cell_progress.specs.Rank.{robot_rank, robot_by, any_zone, has_work, works_in, is_there, there_in}

-- some zone passes a test, and which one does
pub any_is : (f : Zone → Bool) (z : Zone) → f z ≡ true → any_zone f ≡ true
any_is f zone.Z1 h = grind arith
any_is f _ h = grind arith

tells : (f : Zone → Bool) (z : Zone) (b : Bool) → (f z || b) ≡ true → (b ≡ true → (y : Zone) × (f y ≡ true))
    → (y : Zone) × (f y ≡ true)
tells f z b h k = go (f z) refl h
  where
    go : (a : Bool) → f z ≡ a → (a || b) ≡ true → (y : Zone) × (f y ≡ true)
    go true e h = (z, e)
    go false e h = k h

pub any_tells : (f : Zone → Bool) → any_zone f ≡ true → (z : Zone) × (f z ≡ true)
any_tells f h =
    tells f zone.Z1 (f zone.Z2 || (f zone.Z3 || (f zone.Z4 || f zone.Z5))) h
    (λ h. tells f zone.Z2 (f zone.Z3 || (f zone.Z4 || f zone.Z5)) h
    (λ h. tells f zone.Z3 (f zone.Z4 || f zone.Z5) h (λ h. tells f zone.Z4 (f zone.Z5) h (λ h. (zone.Z5, h)))))

pub any_kept : (f g : Zone → Bool) → ((z : Zone) → f z ≡ true → g z ≡ true) → any_zone f ≡ true → any_zone g ≡ true
any_kept f g k h = let z = any_tells f h in any_is g z.0 (k z.0 z.1)

-- a motion starts, or ends by arrival
abbrev pub motion : Bool → Axis → Pose → Entry
motion true a p = Started a p
motion false a p = Arrived a p

-- what the robot holds and works in is kept in a zone
abbrev pub KeepsIn : Situation → Situation → Zone → Type 0
KeepsIn c d z =
    (is_robots d z ≡ is_robots c z) × (works_in c z ≡ true → works_in d z ≡ true)
    × (there_in c z ≡ true → there_in d z ≡ true)

-- the axes of the robot are the same
abbrev pub SameAxes : Situation → Situation → Type 0
SameAxes c d =
    (d.going axis.ArmOne ≡ c.going axis.ArmOne) × (d.going axis.ArmTwo ≡ c.going axis.ArmTwo)
    × (d.going axis.RobotTurn ≡ c.going axis.RobotTurn) × (d.at axis.ArmOne ≡ c.at axis.ArmOne)
    × (d.at axis.ArmTwo ≡ c.at axis.ArmTwo)

-- more work lowers the rank, and so does being turned to it; and at most 8 are lost with it
by_more : (i g o u w h t w' h' t' : Bool) → (w ≡ true → w' ≡ true) → h' ≡ h → (t ≡ true → t' ≡ true)
    → robot_by i g o u w' h' t' ≤ robot_by i g o u w h t
by_more i g o u w h t w' h' t' f e k = grind arith

by_eight : (i g o u w h t w' h' t' : Bool) → robot_by i g o u w' h' t' ≤ robot_by i g o u w h t + 8
by_eight i g o u w h t w' h' t' = grind arith

by_most : (i g o u w h t : Bool) → robot_by i g o u w h t ≤ 9
by_most i g o u w h t = grind arith

holds_kept : (c d : Situation) → ((z : Zone) → is_robots d z ≡ is_robots c z) → holds_a_zone d ≡ holds_a_zone c
unfolding holds_a_zone
holds_kept c d k = rw (k zone.Z1, k zone.Z2, k zone.Z3, k zone.Z4, k zone.Z5)

work_kept : (c d : Situation) → ((z : Zone) → works_in c z ≡ true → works_in d z ≡ true) → has_work c ≡ true
    → has_work d ≡ true
unfolding has_work
work_kept c d k h = any_kept (works_in c) (works_in d) k h

there_kept : (c d : Situation) → ((z : Zone) → there_in c z ≡ true → there_in d z ≡ true) → is_there c ≡ true
    → is_there d ≡ true
unfolding is_there
there_kept c d k h = any_kept (there_in c) (there_in d) k h

pub robot_kept : (c d : Situation) → SameAxes c d → ((z : Zone) → KeepsIn c d z) → robot_rank d ≤ robot_rank c
robot_kept c d a k =
    rw (a.0, a.1, a.2, a.3, a.4)
    (by_more _ _ _ _ (has_work c) (holds_a_zone c) (is_there c) (has_work d) (holds_a_zone d) (is_there d)
    (work_kept c d (λ z. (k z).1)) (holds_kept c d (λ z. (k z).0)) (there_kept c d (λ z. (k z).2)))

pub robot_eight : (c d : Situation) → SameAxes c d → robot_rank d ≤ robot_rank c + 8
robot_eight c d a =
    rw (a.0, a.1, a.2, a.3, a.4)
    (by_eight _ _ _ _ (has_work c) (holds_a_zone c) (is_there c) (has_work d) (holds_a_zone d) (is_there d))

pub robot_most : (c : Situation) → robot_rank c ≤ 9
robot_most c = by_most _ _ _ _ (has_work c) (holds_a_zone c) (is_there c)

-- the robot's axes as bits
pub record Bits (c : Situation) (i g o u : Bool) : Type 0 where
  pub inward : (is_pose pose.In (c.going axis.ArmOne) || is_pose pose.In (c.going axis.ArmTwo)) ≡ i
  pub going : (is_some (c.going axis.ArmOne) || is_some (c.going axis.ArmTwo)) ≡ g
  pub out : (same_pose (c.at axis.ArmOne) pose.Out || same_pose (c.at axis.ArmTwo) pose.Out) ≡ o
  pub turning : is_some (c.going axis.RobotTurn) ≡ u

pub rank_bits : (c : Situation) (i g o u : Bool) → Bits c i g o u
    → robot_rank c ≡ robot_by i g o u (has_work c) (holds_a_zone c) (is_there c)
rank_bits c i g o u b = rw (b.inward, b.going, b.out, b.turning)
