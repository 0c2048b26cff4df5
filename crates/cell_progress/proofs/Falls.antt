-- The rank falls with every entry that can happen
use Rattle.std.proofs.Common.{◌≡◌, ℕ, ◌+◌, ◌-◌, ◌<◌, Bool, true, false, not, Some, None, refl, sym}
use Rattle.std.proofs.Common.{◌∙◌, arith, subst}
use Rattle.std.specs.Prelude.{nat_lt}
use Rattle.std.proofs.lemmas.Bool.Decides.{nat_tests}
use Rattle.cell_types.specs.declared.words.Machine.{Machine}
use Rattle.cell_types.specs.declared.words.Machine.TheVariants as machine
use Rattle.cell_types.specs.declared.words.Station.{Station}
use Rattle.cell_types.specs.declared.words.Station.TheVariants as station
use Rattle.cell_types.specs.declared.words.Axis.{Axis}
use Rattle.cell_types.specs.declared.words.Axis.TheVariants as axis
use Rattle.cell_types.specs.declared.words.Pose.{Pose}
use Rattle.cell_types.specs.declared.words.Pose.TheVariants as pose
use Rattle.cell_types.specs.declared.words.Zone.{Zone}
use Rattle.cell_types.specs.declared.words.Zone.TheVariants as zone
use Rattle.cell_types.specs.declared.words.Arm.{Arm}
use Rattle.cell_types.specs.declared.words.Arm.TheVariants as arm
use Rattle.cell_types.specs.declared.words.Belt.{Belt}
use Rattle.cell_types.specs.declared.words.Belt.TheVariants as belt
use Rattle.cell_types.specs.declared.words.Colour.{Colour}
use Rattle.cell_types.specs.declared.words.Colour.TheVariants as colour
use Rattle.cell_types.specs.declared.words.Cause.{Cause}
use Rattle.cell_types.specs.declared.words.Place.{Place}
use Rattle.cell_types.specs.declared.words.Entry.{Entry}
use Rattle.cell_types.specs.declared.words.Entry.TheVariants.{Lamp, Admitted, Claimed, Yielded, Started, Arrived}
use Rattle.cell_types.specs.declared.words.Entry.TheVariants.{Conveyed, Forged, Gripped, Dropped, Delivered, Declared}
use Rattle.cell_types.specs.declared.words.Entry.TheVariants.{Quarantined, Repaired}
use Rattle.cell_types.specs.Same.{same_machine}
use Rattle.cell_types.specs.Cell.{axis_of_arm, is_pose_of, machine_of_axis, machine_of_station}
use Rattle.cell_types.specs.After.{Snapshot, is_machine, step}
use Rattle.cell_rules.specs.First.{is_pose, ends_by_arrival}
use Rattle.cell_rules.proofs.Safe.Facts.{pose_same, axes_of, not_false}
use Rattle.cell_rules.proofs.Safe.Facts.{is_pose_tells, is_machine_tells}
use Rattle.cell_rules.proofs.Safe.Motion.{fits, Spot, TableSpot, Load1, Load2, Unload1, Unload2, DepositSpot, Ready}
use Rattle.cell_rules.proofs.Safe.Motion.{spot_arm}
use Rattle.cell_rules.proofs.Safe.Motion.{runs_in, spot_pose, spot_zone}
use Rattle.cell_rules.proofs.Safe.Step.{Inv, green}
use Rattle.cell_useful.specs.Cells.{ample}
use Rattle.cell_machines.specs.Useful.{is_useful_now}
use Rattle.cell_machines.specs.Jobs.{is_robots}
use Rattle.cell_progress.specs.Orders.{cell_of, may_after}
use Rattle.cell_progress.specs.Rank.{rank, plate_weight, part}
use Rattle.cell_progress.specs.Rank.{may_weight, failed_weight, robot_rank}
use Rattle.cell_progress.proofs.Machines.{Which, First, Second, press}
use Rattle.cell_progress.proofs.Passing.{passes, Allowed}
use Rattle.cell_progress.proofs.Happening.{Happens, may_be_booked, wanted_by, declared_may}
use Rattle.cell_progress.proofs.Happening.{operators_never, is_operators}
use Rattle.cell_progress.proofs.Taken.{taken, taken_step, conveyed, out_full, cleared_full}
use Rattle.cell_progress.proofs.Moves.{Handed, handed, held_before}
use Rattle.cell_progress.proofs.More.{More}
use Rattle.cell_progress.proofs.Whole.{Whole}
use Rattle.cell_progress.proofs.RobotFalls.{robot_turns, arm_goes_out, robots_arm}
use Rattle.cell_progress.proofs.ArmFalls.{Arms, arm_draws_in, arm_comes_out, arm_comes_in, robot_turned, reach, handing}
use Rattle.cell_progress.proofs.ArmFalls.{hand_from, hand_to}
use Rattle.cell_progress.proofs.Keeping.{next, Others, not_robots, starts_hold}
use Rattle.cell_progress.proofs.Keeping as keeping
use Rattle.cell_progress.proofs.Parts as parts
use Rattle.cell_progress.proofs.Rises as rises
use Rattle.cell_progress.proofs.Rises.{Rises, up, up_table, up_handing, up_failed, up_repaired, up_cleared}
use Rattle.cell_progress.proofs.Sums.{by_rise, by_own, rest_of, total, plates_left, plates_came, plates_moved}
use Rattle.cell_progress.proofs.Sums.{fail_more, fail_less}

-- a deposit belt with a plate at its end rests
belt_still : (s : Snapshot) (k : ℕ) → fits axis.DepositBelt (axes_of s axis.DepositBelt) ≡ true
    → (s.going axis.DepositBelt ≡ Some pose.ToEnd → s.plate station.DepEnd ≡ None) → s.plate station.DepEnd ≡ Some k
    → s.going axis.DepositBelt ≡ None
belt_still s k f c e = grind (arith, pose_same)

-- the tests, as facts
lamp_lit : (s : Snapshot) (b : Belt) → Allowed s (Lamp b colour.Red) → s.lamp b ≡ colour.Green
lamp_lit s b h = grind (arith, nat_tests)

claim_free : (s : Snapshot) (m : Machine) (z : Zone) → Allowed s (Claimed m z) → s.holder z ≡ None
claim_free s m z h = grind arith

forging : (s : Snapshot) (a : Axis) → not (is_pose pose.Top (s.going a)) ≡ false → s.going a ≡ Some pose.Top
forging s a h = is_pose_tells pose.Top (s.going a) (not_false (is_pose pose.Top (s.going a)) h)

arriving : (s : Snapshot) (a : Axis) (q : Pose) → Allowed s (Arrived a q)
    → (s.going a ≡ Some q) × (ends_by_arrival a q ≡ true)
arriving s a q p = (grind (arith, pose_same), grind arith)

module _ (plan : ℕ) (may : Machine → Bool) (s : Snapshot) (place : ℕ → Place) (marks : ℕ → ℕ) (v : Inv s place marks)
    (w : More plan s (taken s)) where
  abbrev Less : Entry → Type 0
  Less e = rank plan (may_after e may) (next e s) < rank plan may (cell_of s)

  -- the entry is useful for somebody
  abbrev Useful : Entry → Type 0
  Useful e = (by : Machine) × (is_useful_now ample (cell_of s) plan by e ≡ true)

  -- the parts rise by less than the rest falls, or one falls
  rises_by : (e : Entry) (u : Machine → ℕ) → Rises s e u
      → rest_of plan (may_after e may) (next e s) + total u < rest_of plan may (cell_of s) → Less e
  rises_by e u k h = by_rise plan may (may_after e may) (cell_of s) (next e s) u k h

  own_falls : (e : Entry) (m : Machine) → rest_of plan (may_after e may) (next e s) ≡ rest_of plan may (cell_of s)
      → part m (next e s) < part m (cell_of s) → Others s e m → Less e
  own_falls e m r h k = by_own plan may (may_after e may) (cell_of s) (next e s) m r h k

  arms : Arms s
  arms = (v.motion.arm_one, v.motion.arm_two)

  lamp_case : (b : Belt) (to : Colour) → Useful (Lamp b to) → Allowed s (Lamp b to) → Less (Lamp b to)
  lamp_case b colour.Green u p =
      rises_by (Lamp b colour.Green) (λ o. 0) (rises.lamp_rises s b colour.Green)
      (omega (arith, parts.lamp_green_falls s b p))
  lamp_case belt.Feed colour.Red u p =
      let lit : s.lamp belt.Feed ≡ colour.Green = lamp_lit s belt.Feed p in
      absurd (parts.no_feed_red s plan u.0 u.1 w.green (v.lights.feed lit) p.1.0 lit)
  lamp_case belt.Deposit colour.Red u p =
      let l = v.lights.deposit (lamp_lit s belt.Deposit p) in
      absurd (parts.no_deposit_red s plan u.0 u.1 l (belt_still s l.plate_there (v.motion.fitting axis.DepositBelt)
      (λ g. v.plates.clear axis.DepositBelt pose.ToEnd station.DepEnd g refl) l.there))

  -- motions start
  start_own : (a : Axis) (to : Pose) → same_machine (machine_of_axis a) machine.Robot ≡ false → Useful (Started a to)
      → Allowed s (Started a to) → Less (Started a to)
  start_own a to m u p =
      own_falls (Started a to) (machine_of_axis a) refl
      (parts.start_falls s plan u.0 a to m u.1 p)
      (keeping.motion_others s true a to m (λ z r. not_robots s z (machine_of_axis a) (starts_hold s a to z p r) m))

  start_robot : (a : Axis) (to : Pose) → same_machine (machine_of_axis a) machine.Robot ≡ true
      → robot_rank (next (Started a to) s) < robot_rank (cell_of s) → Less (Started a to)
  start_robot a to m h =
      own_falls (Started a to) machine.Robot refl h (keeping.robot_others s true a to m)

  start_case : (a : Axis) (to : Pose) → Useful (Started a to) → Allowed s (Started a to) → Less (Started a to)
  start_case axis.RobotTurn to u p = start_robot axis.RobotTurn to refl (robot_turns s plan u.0 to w.one_zone u.1)
  start_case axis.ArmOne pose.In u p =
      start_robot axis.ArmOne pose.In refl (arm_draws_in s plan u.0 arm.Arm1 w.one_zone p.1.0 arms u.1)
  start_case axis.ArmOne pose.Out u p = start_robot axis.ArmOne pose.Out refl (arm_goes_out s plan u.0 arm.Arm1 u.1)
  start_case axis.ArmOne _ u p = let n = p.1.1.0 in cc
  start_case axis.ArmTwo pose.In u p =
      start_robot axis.ArmTwo pose.In refl (arm_draws_in s plan u.0 arm.Arm2 w.one_zone p.1.0 arms u.1)
  start_case axis.ArmTwo pose.Out u p = start_robot axis.ArmTwo pose.Out refl (arm_goes_out s plan u.0 arm.Arm2 u.1)
  start_case axis.ArmTwo _ u p = let n = p.1.1.0 in cc
  start_case a to u p = start_own a to refl u p

  -- motions end
  arrive_own : (a : Axis) (q : Pose) → same_machine (machine_of_axis a) machine.Robot ≡ false → s.going a ≡ Some q
      → part (machine_of_axis a) (next (Arrived a q) s) < part (machine_of_axis a) (cell_of s) → Less (Arrived a q)
  arrive_own a q m g h =
      own_falls (Arrived a q) (machine_of_axis a) refl h
      (keeping.motion_others s false a q m (λ z r. not_robots s z (machine_of_axis a) (v.motion.owned a q z g r) m))

  arrive_robot : (a : Axis) (q : Pose) → same_machine (machine_of_axis a) machine.Robot ≡ true
      → robot_rank (next (Arrived a q) s) < robot_rank (cell_of s) → Less (Arrived a q)
  arrive_robot a q m h =
      own_falls (Arrived a q) machine.Robot refl h (keeping.robot_others s false a q m)

  arrive_arm : (x : Arm) (q : Pose) → fits (axis_of_arm x) (axes_of s (axis_of_arm x)) ≡ true
      → s.going (axis_of_arm x) ≡ Some q → Less (Arrived (axis_of_arm x) q)
  arrive_arm x pose.In f g = arrive_robot (axis_of_arm x) pose.In (robots_arm x) (arm_comes_in s x arms g)
  arrive_arm x pose.Out f g = arrive_robot (axis_of_arm x) pose.Out (robots_arm x) (arm_comes_out s x arms g)
  arrive_arm x q f g = absurd (no_such s x q f g refl)
    where
      no_such : (s : Snapshot) (x : Arm) (q : Pose) → fits (axis_of_arm x) (axes_of s (axis_of_arm x)) ≡ true
          → s.going (axis_of_arm x) ≡ Some q → is_pose_of axis.ArmOne q ≡ false → ⊥
      no_such s arm.Arm1 q f g n = grind (arith, pose_same)
      no_such s arm.Arm2 q f g n = grind (arith, pose_same)

  arrive_turn : (q : Pose) (x : Spot) → q ≡ spot_pose x → s.going axis.RobotTurn ≡ Some q
      → s.holder (spot_zone x) ≡ Some machine.Robot → Ready (axes_of s) x → Less (Arrived axis.RobotTurn q)
  arrive_turn q x e g h r =
      subst (λ (y : Pose). Less (Arrived axis.RobotTurn y)) (sym e)
      (arrive_robot axis.RobotTurn (spot_pose x) refl (robot_turned s x w.one_zone arms (rw e at g) h r))

  arrive_case : (a : Axis) (q : Pose) → s.going a ≡ Some q → Allowed s (Arrived a q) → Less (Arrived a q)
  arrive_case axis.FeedBelt q g p = let n = (arriving s axis.FeedBelt q p).1 in cc
  arrive_case axis.DepositBelt q g p = let n = (arriving s axis.DepositBelt q p).1 in cc
  arrive_case axis.TableLift q g p =
      arrive_own axis.TableLift q refl g
      (parts.lift_arrives s q g (w.lift q p.1.0 g) (v.motion.owned axis.TableLift q zone.Z1 g refl)
      (v.motion.owned axis.TableLift q zone.Z2 g refl))
  arrive_case axis.TableTurn q g p =
      arrive_own axis.TableTurn q refl g
      (parts.turn_arrives s q g (w.turn q p.1.0 g) (v.motion.owned axis.TableTurn q zone.Z1 g refl)
      (v.motion.owned axis.TableTurn q zone.Z2 g refl))
  arrive_case axis.PressOne q g p =
      arrive_own axis.PressOne q refl g
      (parts.press_arrives s First q p (v.motion.fitting axis.PressOne) (v.motion.owned axis.PressOne q zone.Z3 g refl)
      (w.top_one p.1.0) (λ m. v.plates.clear axis.PressOne pose.Middle station.Press1 m refl))
  arrive_case axis.PressTwo q g p =
      arrive_own axis.PressTwo q refl g
      (parts.press_arrives s Second q p (v.motion.fitting axis.PressTwo) (v.motion.owned axis.PressTwo q zone.Z4 g refl)
      (w.top_two p.1.0) (λ m. v.plates.clear axis.PressTwo pose.Middle station.Press2 m refl))
  arrive_case axis.RobotTurn q g p = let b = w.robot q g in arrive_turn q b.spot b.to g b.zone b.ready
  arrive_case axis.ArmOne q g p = arrive_arm arm.Arm1 q (v.motion.fitting axis.ArmOne) g
  arrive_case axis.ArmTwo q g p = arrive_arm arm.Arm2 q (v.motion.fitting axis.ArmTwo) g

  forge_press : (x : Which) (k : ℕ) → s.going (press x).axis ≡ Some pose.Top
      → ((z : Zone) → runs_in (press x).axis z ≡ true → is_robots (cell_of s) z ≡ false)
      → Less (Forged (press x).machine k)
  forge_press x k g h =
      own_falls (Forged (press x).machine k) (press x).machine refl
      (parts.press_forges s x k g) (keeping.forged_others s x k h)

  forge_case : (m : Machine) (k : ℕ) → Allowed s (Forged m k) → Less (Forged m k)
  forge_case machine.Press1 k p =
      let g = forging s axis.PressOne p.1.1.0 in
      forge_press First k g (λ z r. not_robots s z machine.Press1 (v.motion.owned axis.PressOne pose.Top z g r) refl)
  forge_case machine.Press2 k p =
      let g = forging s axis.PressTwo p.1.1.0 in
      forge_press Second k g (λ z r. not_robots s z machine.Press2 (v.motion.owned axis.PressTwo pose.Top z g r) refl)
  forge_case _ k p = let n = p.1.1.0 in cc

  -- plates move
  belt_case : (a : Axis) (k : ℕ) (dest : Station) → Allowed s (Conveyed a k dest) → Less (Conveyed a k dest)
  belt_case axis.FeedBelt k station.FeedEnd p =
      let r = conveyed s axis.FeedBelt k station.FeedEnd p in
      rises_by (Conveyed axis.FeedBelt k station.FeedEnd) (up machine.Feed 1)
      (rises.end_rises s k r.going)
      (omega (
        arith,
        plates_moved s station.FeedIn station.FeedEnd k r.full
            (v.plates.clear axis.FeedBelt pose.ToEnd station.FeedEnd r.going refl),
      ))
  belt_case axis.FeedBelt k station.Table p =
      let r = conveyed s axis.FeedBelt k station.Table p in
      rises_by (Conveyed axis.FeedBelt k station.Table) up_table
      (rises.to_table_rises s k r.going (v.motion.feed r.going))
      (omega (
        arith,
        plates_moved s station.FeedEnd station.Table k r.full
            (v.plates.clear axis.FeedBelt pose.ToTable station.Table r.going refl),
      ))
  belt_case axis.DepositBelt k station.DepEnd p =
      let r = conveyed s axis.DepositBelt k station.DepEnd p in
      let h = v.motion.owned axis.DepositBelt pose.ToEnd zone.Z5 r.going refl in
      own_falls (Conveyed axis.DepositBelt k station.DepEnd) machine.Deposit
      (omega (
        arith,
        plates_moved s station.DepIn station.DepEnd k r.full
            (v.plates.clear axis.DepositBelt pose.ToEnd station.DepEnd r.going refl),
      ))
      (parts.deposit_conveys s k r.going h)
      (keeping.conveyed_others s k (not_robots s zone.Z5 machine.Deposit h refl))
  belt_case _ k _ p = let n = p.1.1.0 in cc

  hand_case : (x : Spot) (k : ℕ) → Handed s x (hand_from x) (hand_to x) k → Less (handing x k)
  hand_case TableSpot k r =
      rises_by (handing TableSpot k) (up_handing TableSpot)
      (rises.handing_rises s k TableSpot r.faced.ready (reach s arm.Arm1 arms r.out))
      (omega (arith, plates_moved s station.Table station.Arm1 k r.full r.empty))
  hand_case x k r =
      rises_by (handing x k) (up_handing x)
      (rises.handing_rises s k x r.faced.ready (reach s (spot_arm x) arms r.out))
      (omega (arith, plates_moved s (hand_from x) (hand_to x) k r.full r.empty))

  -- a machine fails, is cleared, is repaired
  fail_case : (m : Machine) (why : Cause) → may m ≡ true → Allowed s (Declared m why) → Less (Declared m why)
  fail_case m why e p = go (is_machine machine.Feed (s.holder zone.Z1)) refl
    where
      enough : (m : Machine) (b : Bool)
          → (failed_weight m + (up machine.Feed 1 m + up machine.Deposit 1 m)) + total (up_failed m b) < may_weight m
      enough machine.Feed b = omega arith
      enough machine.Table true = omega arith
      enough m b = omega arith

      go : (b : Bool) → is_machine machine.Feed (s.holder zone.Z1) ≡ b → Less (Declared m why)
      go b i =
          rises_by (Declared m why) (up_failed m b)
          (rises.failed_rises s m why b i (λ t. w.feed_low (is_machine_tells machine.Feed (s.holder zone.Z1) (i ∙ t))))
          (omega (arith, rises.dark_rises s m why, fail_more may s.failed m e p.1.0, enough m b))

  clear_case : (k : ℕ) (t : Station) → Allowed s (Quarantined k t) → Less (Quarantined k t)
  clear_case k t p =
      rises_by (Quarantined k t) (up_cleared t)
      (rises.cleared_rises s k t (not_false (s.failed (machine_of_station t)) p.1.0))
      (omega (arith, plates_left s t k (cleared_full s k t p), enough t))
    where
      enough : (t : Station) → total (up_cleared t) < plate_weight t
      enough station.FeedIn = omega arith
      enough _ = omega arith

  repair_case : (m : Machine) → Allowed s (Repaired m) → Less (Repaired m)
  repair_case m p =
      let f = not_false (s.failed m) p.1.0 in
      rises_by (Repaired m) (up_repaired m)
      (rises.repaired_rises s m p) (omega (arith, fail_less may s.failed m f, enough m))
    where
      enough : (m : Machine) → total (up_repaired m) < failed_weight m
      enough machine.Feed = omega arith
      enough _ = omega arith

  fall_next : (e : Entry) → Happens plan may (cell_of s) e → Allowed s e → Less e
  unfolding is_operators
  fall_next (Lamp b to) h p = lamp_case b to (wanted_by plan may (cell_of s) (Lamp b to) h refl) p
  fall_next (Admitted k) h p =
      let lit = green (s.lamp belt.Feed) p.1.1.1.1.0 in
      rises_by (Admitted k) (λ o. 0) (rises.admitted_rises s k)
      (omega (
        arith,
        fewer plan s.admitted (w.green lit),
        rises.admitted_lamp s k lit,
        plates_came s station.FeedIn (v.lights.feed lit).front,
      ))
    where
      fewer : (n m : ℕ) → nat_lt m n ≡ true → (n - (m + 1)) + 1 ≡ n - m
      fewer n m h = grind (arith, nat_tests)
  fall_next (Claimed m z) h p =
      let u = wanted_by plan may (cell_of s) (Claimed m z) h refl in
      let e = claim_free s m z p in
      own_falls (Claimed m z) m refl (parts.claim_falls s plan u.0 m z u.1 e p.1.1.0) (keeping.claimed_others s m z e)
  fall_next (Yielded m z) h p =
      let u = wanted_by plan may (cell_of s) (Yielded m z) h refl in
      let e = held_before s m z p in
      own_falls (Yielded m z) m refl (parts.yield_falls s plan u.0 m z w u.1 e p) (keeping.yielded_others s m z e)
  fall_next (Started a to) h p = start_case a to (wanted_by plan may (cell_of s) (Started a to) h refl) p
  fall_next (Arrived a q) h p = arrive_case a q (arriving s a q p).0 p
  fall_next (Conveyed a k dest) h p = belt_case a k dest p
  fall_next (Forged m k) h p = forge_case m k p
  fall_next (Gripped arm.Arm1 k station.Table) h p =
      hand_case TableSpot k (handed s TableSpot station.Table station.Arm1 k v.motion.arm_one p.1.1)
  fall_next (Gripped arm.Arm2 k station.Press1) h p =
      hand_case Unload1 k (handed s Unload1 station.Press1 station.Arm2 k v.motion.arm_two p.1.1)
  fall_next (Gripped arm.Arm2 k station.Press2) h p =
      hand_case Unload2 k (handed s Unload2 station.Press2 station.Arm2 k v.motion.arm_two p.1.1)
  fall_next (Gripped _ k _) h p = let n = p.1.1.0 in cc
  fall_next (Dropped arm.Arm1 k station.Press1) h p =
      hand_case Load1 k (handed s Load1 station.Arm1 station.Press1 k v.motion.arm_one p.1.1)
  fall_next (Dropped arm.Arm1 k station.Press2) h p =
      hand_case Load2 k (handed s Load2 station.Arm1 station.Press2 k v.motion.arm_one p.1.1)
  fall_next (Dropped arm.Arm2 k station.DepIn) h p =
      hand_case DepositSpot k (handed s DepositSpot station.Arm2 station.DepIn k v.motion.arm_two p.1.1)
  fall_next (Dropped _ k _) h p = let n = p.1.1.0 in cc
  fall_next (Delivered k) h p =
      rises_by (Delivered k) (λ o. 0) (rises.delivered_rises s k)
      (omega (
        arith,
        plates_left s station.DepEnd k (out_full s place marks k v p),
        rises.delivered_lamp s k (green (s.lamp belt.Deposit) p.1.1.1.0),
      ))
  fall_next (Declared m why) h p = fail_case m why (declared_may plan may (cell_of s) m why h) p
  fall_next (Quarantined k t) h p = clear_case k t p
  fall_next (Repaired m) h p = repair_case m p
  fall_next e h p = absurd (operators_never plan may (cell_of s) e h refl)

-- the rank falls with every entry that can happen
pub falls : (plan : ℕ) (may : Machine → Bool) (s : Snapshot) (e : Entry) → Whole plan s → Happens plan may (cell_of s) e
    → rank plan (may_after e may) (cell_of (step e s)) < rank plan may (cell_of s)
falls plan may s e w h =
    let r = w.reached in
    let p : Allowed s e = passes s e (may_be_booked plan may (cell_of s) e h) in
    subst (λ (o : Station → Bool).
    rank plan (may_after e may) (record (cell_of (step e s)) { occupied = o }) < rank plan may (cell_of s))
    (sym (taken_step plan may s r.place r.marks e r.inv h p))
    (fall_next plan may s r.place r.marks r.inv w.more e h p)
