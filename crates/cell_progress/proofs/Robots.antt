-- Where nothing can happen, the robot rests and no plate is left
use Rattle.std.proofs.Common.{◌≡◌, ◌≢◌, ℕ, Bool, true, false, ◌&&◌, Some, None, List, [], ◌∷◌, refl, arith, ◌≤◌, not}
use Rattle.std.proofs.Common.{Option}
use Rattle.std.specs.List.{list_any}
use Rattle.cell_types.specs.declared.words.Axis.{Axis}
use Rattle.cell_types.specs.declared.words.Pose.{Pose}
use Rattle.cell_types.specs.declared.words.Zone.{Zone}
use Rattle.cell_types.specs.declared.words.Arm.{Arm}
use Rattle.cell_types.specs.declared.words.Entry.{Entry}
use Rattle.cell_types.specs.declared.words.Entry.TheVariants.{Yielded, Started, Gripped, Dropped, Claimed}
use Rattle.cell_types.specs.Cell.{axis_of_arm, owner, visitor}
use Rattle.cell_types.specs.After.{Snapshot, is_machine}
use Rattle.cell_rules.specs.First.{first_true}
use Rattle.cell_rules.proofs.Safe.Facts.{pose_same, axes_of}
use Rattle.cell_rules.proofs.Safe.Motion.{fits, Spot, TableSpot, Load1, Load2, Unload1, Unload2, DepositSpot}
use Rattle.cell_rules.proofs.Safe.Motion.{spot_arm, spot_pose, spot_zone}
use Rattle.cell_useful.specs.Cells.{ample}
use Rattle.cell_machines.specs.Room.{is_bookable}
use Rattle.cell_machines.specs.Useful.{is_useful_now}
use Rattle.cell_machines.specs.Jobs.{has_job, has_job_in, holds_zone_at, is_to_enter}
use Rattle.cell_machines.specs.Robot.{wants_handing, handings, has_handing, is_out, is_drawn_in, is_at_job}
use Rattle.cell_machines.specs.Robot.{holds_a_zone}
use Rattle.cell_progress.specs.Orders.{cell_of}
use Rattle.cell_machines.specs.Candidates.{candidates}
use Rattle.cell_progress.proofs.Machines.{Not, Which, First, Second, press, WantsNone, TableWaits, PressWaits}
use Rattle.cell_progress.proofs.Machines.{DepositWaits}
use Rattle.std.specs.Prelude.{nat_lt}
use Rattle.std.proofs.lemmas.Bool.Decides.{nat_tests}
use Rattle.cell_types.specs.declared.words.Machine.{Machine}
use Rattle.cell_types.specs.declared.words.Station.{Station}
use Rattle.cell_machines.specs.Router.{press_chosen}
use Rattle.cell_machines.specs.Lights.{feed_light}
use Rattle.cell_useful.specs.Events.{laid_in}

none_such : (f : Entry → Bool) (xs : List Entry) → ((e : Entry) → f e ≡ false) → list_any f xs ≡ false
none_such f [] h = refl
none_such f (x ∷ xs) h = let e : f x ≡ false = h x in let r : list_any f xs ≡ false = none_such f xs h in grind arith

-- the robot is healthy, rests, and has both arms in
pub record Drawn (s : Snapshot) : Type 0 where
  pub healthy : s.failed Machine.Robot ≡ false
  pub still : s.going Axis.RobotTurn ≡ None
  pub one : s.going Axis.ArmOne ≡ None
  pub two : s.going Axis.ArmTwo ≡ None
  pub one_in : s.at Axis.ArmOne ≡ Pose.In
  pub two_in : s.at Axis.ArmTwo ≡ Pose.In

-- the robot holds no zone
abbrev pub HoldsNone : Snapshot → Type 0
HoldsNone s = (z : Zone) → s.holder z ≢ Some Machine.Robot

-- nothing is to be gripped or dropped
not_handed : (s : Snapshot) (plan : ℕ) → ((e : Entry) → Not plan s Machine.Robot e) → (e : Entry)
    → (wants_handing (cell_of s) e && is_bookable ample (cell_of s) e) ≡ false
unfolding is_useful_now
not_handed s plan u (Gripped x k t) = u (Gripped x k t)
not_handed s plan u (Dropped x k t) = u (Dropped x k t)
not_handed s plan u _ = refl

no_handing : (s : Snapshot) (plan : ℕ) (x : Arm) → ((e : Entry) → Not plan s Machine.Robot e)
    → has_handing ample (cell_of s) x ≡ false
unfolding has_handing
no_handing s plan x u =
    none_such (λ e. wants_handing (cell_of s) e && is_bookable ample (cell_of s) e) (handings (cell_of s) x)
    (not_handed s plan u)

-- so no arm stays out
arm_in : (s : Snapshot) (plan : ℕ) (x : Arm) → s.failed Machine.Robot ≡ false → s.going (axis_of_arm x) ≡ None
    → fits (axis_of_arm x) (axes_of s (axis_of_arm x)) ≡ true → has_handing ample (cell_of s) x ≡ false
    → Not plan s Machine.Robot (Started (axis_of_arm x) Pose.In) → s.at (axis_of_arm x) ≡ Pose.In
unfolding is_useful_now is_bookable first_true is_out
arm_in s plan Arm.Arm1 f g p h u = grind (arith, pose_same)
arm_in s plan Arm.Arm2 f g p h u = grind (arith, pose_same)

pub drawn : (s : Snapshot) (plan : ℕ) → s.failed Machine.Robot ≡ false → s.going Axis.RobotTurn ≡ None
    → s.going Axis.ArmOne ≡ None → s.going Axis.ArmTwo ≡ None → fits Axis.ArmOne (axes_of s Axis.ArmOne) ≡ true
    → fits Axis.ArmTwo (axes_of s Axis.ArmTwo) ≡ true → ((e : Entry) → Not plan s Machine.Robot e) → Drawn s
drawn s plan f g g1 g2 p1 p2 u =
    let a = arm_in s plan Arm.Arm1 f g1 p1 (no_handing s plan Arm.Arm1 u) (u (Started Axis.ArmOne Pose.In)) in
    let b = arm_in s plan Arm.Arm2 f g2 p2 (no_handing s plan Arm.Arm2 u) (u (Started Axis.ArmTwo Pose.In)) in
    assumption

-- in a zone that the robot holds there is no job: it would turn there, or put out the arm
no_job_at : (s : Snapshot) (plan : ℕ) (x : Spot) → Drawn s
    → fits Axis.DepositBelt (axes_of s Axis.DepositBelt) ≡ true → s.holder (spot_zone x) ≡ Some Machine.Robot
    → Not plan s Machine.Robot (Started Axis.RobotTurn (spot_pose x))
    → Not plan s Machine.Robot (Started (axis_of_arm (spot_arm x)) Pose.Out)
    → has_job (cell_of s) (spot_pose x) ≡ false
unfolding is_useful_now is_bookable first_true is_machine is_drawn_in has_job is_at_job holds_zone_at
no_job_at s plan TableSpot d p h v w = grind (arith, pose_same)
no_job_at s plan _ d p h v w = grind (arith, pose_same)

no_job_in : (s : Snapshot) (plan : ℕ) (z : Zone) → Drawn s
    → fits Axis.DepositBelt (axes_of s Axis.DepositBelt) ≡ true → ((e : Entry) → Not plan s Machine.Robot e)
    → s.holder z ≡ Some Machine.Robot → has_job_in (cell_of s) z ≡ false
unfolding has_job_in
no_job_in s plan z d p u h = go z h
  where
    at : (x : Spot) → s.holder (spot_zone x) ≡ Some Machine.Robot → has_job (cell_of s) (spot_pose x) ≡ false
    at x h =
        no_job_at s plan x d p h (u (Started Axis.RobotTurn (spot_pose x)))
        (u (Started (axis_of_arm (spot_arm x)) Pose.Out))

    go : (z : Zone) → s.holder z ≡ Some Machine.Robot → has_job_in (cell_of s) z ≡ false
    go Zone.Z1 h = refl
    go Zone.Z2 h = at TableSpot h
    go Zone.Z3 h = rw (at Load1 h, at Unload1 h)
    go Zone.Z4 h = rw (at Load2 h, at Unload2 h)
    go Zone.Z5 h = at DepositSpot h

-- so it would give the zone up
gives_up : (s : Snapshot) (plan : ℕ) (z : Zone) → Drawn s → has_job_in (cell_of s) z ≡ false
    → Not plan s Machine.Robot (Yielded Machine.Robot z) → s.holder z ≢ Some Machine.Robot
unfolding is_useful_now is_bookable first_true is_machine is_drawn_in
gives_up s plan z d j u h = grind (arith, pose_same)

pub holds_none : (s : Snapshot) (plan : ℕ) → Drawn s → fits Axis.DepositBelt (axes_of s Axis.DepositBelt) ≡ true
    → ((e : Entry) → Not plan s Machine.Robot e) → HoldsNone s
holds_none s plan d p u z h =
    gives_up s plan z d (no_job_in s plan z d p u h) (u (Yielded Machine.Robot z)) h

pub is_drawn : (s : Snapshot) → Drawn s → is_drawn_in (cell_of s) ≡ true
unfolding is_drawn_in
is_drawn s d = grind (arith, pose_same)

not_robots : (o : Option Machine) → o ≢ Some Machine.Robot → is_machine Machine.Robot o ≡ false
unfolding is_machine
not_robots o n = grind (arith, pose_same)

pub holds_nothing : (s : Snapshot) → HoldsNone s → holds_a_zone (cell_of s) ≡ false
unfolding holds_a_zone
holds_nothing s h = rw (at Zone.Z1, at Zone.Z2, at Zone.Z3, at Zone.Z4, at Zone.Z5)
  where
    at : (z : Zone) → is_machine Machine.Robot (s.holder z) ≡ false
    at z = not_robots (s.holder z) (h z)

-- the robot may claim a free zone of a healthy machine
may_claim : (s : Snapshot) (z : Zone) → s.failed Machine.Robot ≡ false → s.failed (owner z) ≡ false
    → s.holder z ≡ None → visitor z ≡ Machine.Robot
    → is_bookable ample (cell_of s) (Claimed Machine.Robot z) ≡ true
unfolding is_bookable first_true
may_claim s z f g h e = grind (arith, pose_same)

-- so there is no job for which it would
pub no_job : (s : Snapshot) (plan : ℕ) (z : Zone) → Drawn s → HoldsNone s → s.failed (owner z) ≡ false
    → s.holder z ≡ None → visitor z ≡ Machine.Robot → ((e : Entry) → Not plan s Machine.Robot e)
    → is_to_enter (cell_of s) z ≡ false
unfolding is_useful_now
no_job s plan z d h g f e u =
    by_case (is_to_enter (cell_of s) z) (is_drawn_in (cell_of s)) (holds_a_zone (cell_of s))
    (is_bookable ample (cell_of s) (Claimed Machine.Robot z)) (u (Claimed Machine.Robot z)) (is_drawn s d)
    (holds_nothing s h) (may_claim s z d.healthy g f e)
  where
    by_case : (w d h b : Bool) → ((w && (d && not h)) && b) ≡ false → d ≡ true → h ≡ false → b ≡ true → w ≡ false
    by_case w d h b e f g i = grind arith

-- the second arm is empty
pub arm_two_empty : (s : Snapshot) → DepositWaits s → is_to_enter (cell_of s) Zone.Z5 ≡ false
    → s.plate Station.Arm2 ≡ None
unfolding has_job is_to_enter
arm_two_empty s w h = grind (arith, pose_same)

-- so no healthy press has a plate
pub press_empty : (s : Snapshot) (p : Which) → PressWaits s p → s.plate Station.Arm2 ≡ None
    → is_to_enter (cell_of s) (press p).zone ≡ false → s.plate (press p).station ≡ None
unfolding has_job is_to_enter
press_empty s First w e h = grind (arith, pose_same)
press_empty s Second w e h = grind (arith, pose_same)

-- a press that waits for a plate, and for which the robot has no job
pub record Waiting (s : Snapshot) (p : Which) : Type 0 where
  pub waits : PressWaits s p
  pub empty : s.plate (press p).station ≡ None
  pub no_job : is_to_enter (cell_of s) (press p).zone ≡ false

-- a press is failed, or it waits
pub data State (s : Snapshot) (p : Which) : Type 0 where
  broken : s.failed (press p).machine ≡ true → State s p
  waits : Waiting s p → State s p

-- so the first arm is empty, if not both presses are failed
pub arm_one_empty : (s : Snapshot) → State s First → State s Second
    → (s.failed Machine.Press1 ≡ true → s.failed Machine.Press2 ≡ true → ⊥) → s.plate Station.Arm1 ≡ None
unfolding is_machine has_job is_to_enter press_chosen
arm_one_empty s (waits w) (waits x) n = grind (arith, pose_same)
arm_one_empty s (waits w) (broken f) n = grind (arith, pose_same)
arm_one_empty s (broken f) (waits x) n = grind (arith, pose_same)
arm_one_empty s (broken f) (broken g) n = absurd (n f g)

-- so the table is empty
pub table_empty : (s : Snapshot) → s.plate Station.Arm1 ≡ None → TableWaits s
    → is_to_enter (cell_of s) Zone.Z2 ≡ false → s.plate Station.Table ≡ None
unfolding has_job is_to_enter
table_empty s e w u = grind (arith, pose_same)

-- so the feed belt is empty
pub feed_end_empty : (s : Snapshot) (plan : ℕ) → s.plate Station.Table ≡ None → TableWaits s
    → s.failed Machine.Feed ≡ false → s.going Axis.FeedBelt ≡ None → WantsNone plan s Machine.Feed
    → s.plate Station.FeedEnd ≡ None
unfolding is_useful_now is_bookable first_true is_machine candidates
feed_end_empty s plan e w f g u = grind (arith, pose_same)

pub feed_in_empty : (s : Snapshot) (plan : ℕ) → s.plate Station.FeedEnd ≡ None → s.failed Machine.Feed ≡ false
    → s.going Axis.FeedBelt ≡ None → WantsNone plan s Machine.Feed → s.plate Station.FeedIn ≡ None
unfolding is_useful_now is_bookable first_true is_machine candidates
feed_in_empty s plan e f g u = grind (arith, pose_same)

-- and all plates were admitted
pub all_admitted : (s : Snapshot) (plan : ℕ) → plan ≤ 100000 → s.plate Station.FeedEnd ≡ None
    → s.plate Station.FeedIn ≡ None → s.failed Machine.Feed ≡ false → s.going Axis.FeedBelt ≡ None
    → s.expected ≡ None → WantsNone plan s Machine.Feed → laid_in plan (cell_of s) ≡ None
    → nat_lt s.admitted plan ≡ false
unfolding is_useful_now is_bookable first_true is_machine feed_light candidates
all_admitted s plan n e1 e2 f g x u v = grind (arith, nat_tests, pose_same)
