-- Legal journals are safe.
use Rattle.std.proofs.Common.{◌≡◌, ◌≢◌, ℕ, zero, suc, ◌+◌, ◌≤◌, Bool, true, false, ◌==◌, ◌&&◌, ◌||◌, not, List, [], ◌∷◌}
use Rattle.std.proofs.Common.{◌++◌, Option, Some, None, is_some, refl, sym, ap, ◌∙◌, eqb-true, eq-eqb, arith, ◌⊎◌, inr}
use Rattle.std.specs.List.{list_any}
use Rattle.cell_types.specs.declared.words.Machine.{Machine}
use Rattle.cell_types.specs.declared.words.Station.{Station}
use Rattle.cell_types.specs.declared.words.Axis.{Axis}
use Rattle.cell_types.specs.declared.words.Pose.{Pose}
use Rattle.cell_types.specs.declared.words.Arm.{Arm}
use Rattle.cell_types.specs.declared.words.Belt.{Belt}
use Rattle.cell_types.specs.declared.words.Colour.{Colour}
use Rattle.cell_types.specs.declared.words.Place.{Place}
use Rattle.cell_types.specs.declared.words.AxisState.{AxisState}
use Rattle.cell_types.specs.declared.words.Entry.{Entry}
use Rattle.cell_types.specs.Same.{same_pose, same_colour, pose_number}
use Rattle.cell_types.specs.Cell.{machine_of_station, poses, axis_of_arm, Faced, faced}
use Rattle.cell_rules.specs.declared.limits.BookLimits.{BookLimits}
use Rattle.cell_rules.specs.First.{any_visited, station_empty, other_plate_at, arm_tests, started_tests, tests}
use Rattle.cell_types.specs.After.{is_machine, Snapshot, is_plate, after}
use Rattle.cell_rules.specs.SituationIn.{situation_in}
use Rattle.std.specs.List.{Contains}
use Rattle.std.proofs.Common.{subst}
use Rattle.cell_rules.specs.Views.{Placing, placing, place_of, source, at_of}
use Rattle.cell_rules.specs.Safety.{Rests, RestsAt, IsInside, IsEmpty, IsOccupied, SafeState, IsSafeDrop}
use Rattle.cell_rules.specs.Safety.{IsSafeMove, IsFeedFree, SafeKind, IsPressDrop, SafeEntry, IsSafe}
use Rattle.cell_rules.specs.Legal.{allowed, legal_from, legal}
use Rattle.cell_rules.proofs.Safe.Facts.{pose_same, Passed, passed_last, free, plate_at, occupied, no_other, resting}
use Rattle.cell_rules.proofs.Safe.Facts.{still, and_both, or_neither, not_false, is_plate_tells, Axes, axes_of, rest}
use Rattle.cell_rules.proofs.Safe.Motion.{Spot, spot_arm, spot_pose, Facing, ArmSafe, MotionSafe, has_pose, fits_going}
use Rattle.cell_rules.proofs.Safe.Starts.{may_start}
use Rattle.cell_rules.proofs.Safe.Plates.{Counted}
use Rattle.cell_rules.proofs.Safe.Returns.{expected_there}
use Rattle.cell_rules.proofs.Safe.Step.{Inv, hands, green}
use Rattle.cell_rules.proofs.Safe.Bridge.{Good, Agrees, good_passed, good_prefix, marks_of}

-- from the state to what is told
pub rests_at_from : (P : List Entry) (s : Snapshot) (a : Axis) (p : Pose) → Agrees P s → axes_of s a ≡ rest p
    → RestsAt P a p
rests_at_from P s a p e f = grind (arith, pose_same)

pub rests_from : (P : List Entry) (s : Snapshot) (a : Axis) (p : Pose) → Agrees P s → axes_of s a ≡ rest p → Rests P a
rests_from P s a p g e = g.going a ∙ ap (λ (t : AxisState). t.going) e

-- if a plate were told to be there, the state would hold it too
empty_from : (P : List Entry) (s : Snapshot) (t : Station) → Inv s (place_of P) (marks_of P) → s.plate t ≡ None
    → IsEmpty P t
empty_from P s t v e k d = let f = v.plates.here t k d in cc

-- an arm that is inside stands at a spot
abbrev pub owner_told : Option Faced → Machine
owner_told None = Machine.Feed
owner_told (Some f) = f.owner

pub record Within (s : Snapshot) (m : Machine) : Type 0 where
  pub spot : Spot
  pub owned : owner_told (faced (spot_arm spot) (spot_pose spot)) ≡ m
  pub faced_there : Facing (axes_of s) s.holder spot

-- an arm that isn't in is at a spot, which the turn tells, and the spot tells its owner
within_arm : (P : List Entry) (s : Snapshot) (m : Machine) (x : Arm) → Agrees P s → ArmSafe (axes_of s) s.holder x
    → IsInside P m x → Within s m
within_arm P s m x e f g = grind (arith, pose_same)

pub arm_safe : (s : Snapshot) (x : Arm) → MotionSafe (axes_of s) s.holder → ArmSafe (axes_of s) s.holder x
arm_safe s Arm.Arm1 m = m.arm_one
arm_safe s Arm.Arm2 m = m.arm_two

within : (P : List Entry) (s : Snapshot) (m : Machine) (x : Arm) → Agrees P s → MotionSafe (axes_of s) s.holder
    → IsInside P m x → Within s m
within P s m x g v i = within_arm P s m x g (arm_safe s x v) i

-- which axes rest there
press_one_rests : (s : Snapshot) (y : Spot) → owner_told (faced (spot_arm y) (spot_pose y)) ≡ Machine.Press1
    → Facing (axes_of s) s.holder y → s.going Axis.PressOne ≡ None
press_one_rests s y e f = grind (arith, pose_same)

press_two_rests : (s : Snapshot) (y : Spot) → owner_told (faced (spot_arm y) (spot_pose y)) ≡ Machine.Press2
    → Facing (axes_of s) s.holder y → s.going Axis.PressTwo ≡ None
press_two_rests s y e f = grind (arith, pose_same)

lift_rests : (s : Snapshot) (y : Spot) → owner_told (faced (spot_arm y) (spot_pose y)) ≡ Machine.Table
    → Facing (axes_of s) s.holder y → s.going Axis.TableLift ≡ None
lift_rests s y e f = grind (arith, pose_same)

table_turn_rests : (s : Snapshot) (y : Spot) → owner_told (faced (spot_arm y) (spot_pose y)) ≡ Machine.Table
    → Facing (axes_of s) s.holder y → s.going Axis.TableTurn ≡ None
table_turn_rests s y e f = grind (arith, pose_same)

deposit_rests : (s : Snapshot) (y : Spot) → owner_told (faced (spot_arm y) (spot_pose y)) ≡ Machine.Deposit
    → Facing (axes_of s) s.holder y → s.going Axis.DepositBelt ≡ None
deposit_rests s y e f = grind (arith, pose_same)

-- an arm may be out only where the robot's turn rests
arm_in : (s : Snapshot) (x : Arm) (p : Pose) → ArmSafe (axes_of s) s.holder x → s.going Axis.RobotTurn ≡ Some p
    → axes_of s (axis_of_arm x) ≡ rest Pose.In
arm_in s x p e f = grind (arith, pose_same)

-- plates
once : (ax : Axes) (p : Place) (m : ℕ) → Counted ax p m → m ≤ 1
once ax p m e = grind (arith, pose_same)

-- a pose of the axis
any_contains : (p : Pose) (xs : List Pose) → list_any (same_pose p) xs ≡ true → Contains xs p
any_contains p [] h = cc
any_contains p (x ∷ xs) h = go (same_pose p x) refl h (λ i. any_contains p xs i)
  where
    go : (b : Bool) → same_pose p x ≡ b → (b || list_any (same_pose p) xs) ≡ true
        → (list_any (same_pose p) xs ≡ true → Contains xs p) → Contains (x ∷ xs) p
    go true e i r = (zero, omega arith, sym (pose_same p x e))
    go false e i r = let w = r i in (suc w.0, (let l = w.1 in omega arith), w.2)

-- each rule follows from the invariant, and the journal tells what the state holds
pub safe_state : (P : List Entry) → Good P → SafeState P
safe_state P w =
    let s = after P in
    let g = w.agrees in
    let m = w.safe.motion in
    let v = w.safe.plates in
    record {
      press1 = λ x i. let y = within P s Machine.Press1 x g m i in g.going Axis.PressOne
          ∙ press_one_rests s y.spot y.owned y.faced_there;
      press2 = λ x i. let y = within P s Machine.Press2 x g m i in g.going Axis.PressTwo
          ∙ press_two_rests s y.spot y.owned y.faced_there;
      one_plate = λ t j k a b. let c = v.here t j a in let d = v.here t k b in cc;
      nowhere_outside = λ k o. v.outside k (subst (λ (n : ℕ). (k ≡ 0) ⊎ (n + 1 ≤ k)) g.admitted o);
      somewhere_inside = λ k a b. v.inside k a (rw g.admitted at b);
      forged_once = λ k. once (axes_of s) (place_of P k) (marks_of P k) (v.counted k);
      delivered_forged = λ k e. let c : Counted (axes_of s) Place.Delivered (marks_of P k) = rw e at (v.counted k) in c;
      table_lift = λ x i. let y = within P s Machine.Table x g m i in g.going Axis.TableLift
          ∙ lift_rests s y.spot y.owned y.faced_there;
      table_turn = λ x i. let y = within P s Machine.Table x g m i in g.going Axis.TableTurn
          ∙ table_turn_rests s y.spot y.owned y.faced_there;
      to_table = λ t.
          let y = m.feed (sym (g.going Axis.FeedBelt) ∙ t) in
          (rests_at_from P s Axis.TableLift Pose.Low g y.lift, rests_at_from P s Axis.TableTurn Pose.Belt g y.turn);
      deposit = λ x i. let y = within P s Machine.Deposit x g m i in g.going Axis.DepositBelt
          ∙ deposit_rests s y.spot y.owned y.faced_there;
      turn = λ p t.
          let d = sym (g.going Axis.RobotTurn) ∙ t in (
            rests_at_from P s Axis.ArmOne Pose.In g (arm_in s Arm.Arm1 p m.arm_one d),
            rests_at_from P s Axis.ArmTwo
                Pose.In g (arm_in s Arm.Arm2 p m.arm_two d),
          );
      own_poses = λ a.
          let f = and_both (fits_going a (s.at a) (s.going a)) (has_pose a (s.at a)) (m.fitting a) in
          let c = any_contains (s.at a) (poses a) f.1 in
          rw (g.at a) c;
    }

-- What holds of an entry that passes its tests.
abbrev pub plate_told : Option Placing → ℕ
plate_told None = 0
plate_told (Some p) = p.plate

abbrev pub goes_told : Option Placing → Place
goes_told None = Place.Nowhere
goes_told (Some p) = p.goes

-- where the plate comes from
source_is : (l : BookLimits) (P : List Entry) (e : Entry) → Good P → Passed (tests l (situation_in (after P)) e)
    → (p : Placing) → placing e ≡ Some p → place_of P (plate_told (placing e)) ≡ source e
source_is l P (Entry.Admitted k) w h p i =
    let e : k ≡ (after P).admitted + 1 = eqb-true k ((after P).admitted + 1)
    (not_false (k == (after P).admitted + 1) h.1.1.1.0) in
    w.safe.plates.outside k (inr (omega arith))
source_is l P (Entry.Conveyed Axis.FeedBelt k Station.FeedEnd) w h p i =
    w.safe.plates.there Station.FeedIn k (plate_at (after P) Station.FeedIn k h.1.1.1.0)
source_is l P (Entry.Conveyed Axis.FeedBelt k Station.Table) w h p i =
    w.safe.plates.there Station.FeedEnd k (plate_at (after P) Station.FeedEnd k h.1.1.1.0)
source_is l P (Entry.Conveyed Axis.DepositBelt k Station.DepEnd) w h p i =
    w.safe.plates.there Station.DepIn k (plate_at (after P) Station.DepIn k h.1.1.1.0)
source_is l P (Entry.Conveyed _ k _) w h p i = let e = h.1.1.0 in cc
source_is l P (Entry.Gripped Arm.Arm1 k Station.Table) w h p i =
    let g = hands (after P) Arm.Arm1 Station.Table Station.Table Station.Arm1 k w.safe.motion.arm_one h.1.1 in
    w.safe.plates.there Station.Table k g.full
source_is l P (Entry.Gripped Arm.Arm2 k Station.Press1) w h p i =
    let g = hands (after P) Arm.Arm2 Station.Press1 Station.Press1 Station.Arm2 k w.safe.motion.arm_two h.1.1 in
    w.safe.plates.there Station.Press1 k g.full
source_is l P (Entry.Gripped Arm.Arm2 k Station.Press2) w h p i =
    let g = hands (after P) Arm.Arm2 Station.Press2 Station.Press2 Station.Arm2 k w.safe.motion.arm_two h.1.1 in
    w.safe.plates.there Station.Press2 k g.full
source_is l P (Entry.Gripped _ k _) w h p i = let e = h.1.1.0 in cc
source_is l P (Entry.Dropped Arm.Arm1 k Station.Press1) w h p i =
    let g = hands (after P) Arm.Arm1 Station.Press1 Station.Arm1 Station.Press1 k w.safe.motion.arm_one h.1.1 in
    w.safe.plates.there Station.Arm1 k g.full
source_is l P (Entry.Dropped Arm.Arm1 k Station.Press2) w h p i =
    let g = hands (after P) Arm.Arm1 Station.Press2 Station.Arm1 Station.Press2 k w.safe.motion.arm_one h.1.1 in
    w.safe.plates.there Station.Arm1 k g.full
source_is l P (Entry.Dropped Arm.Arm2 k Station.DepIn) w h p i =
    let g = hands (after P) Arm.Arm2 Station.DepIn Station.Arm2 Station.DepIn k w.safe.motion.arm_two h.1.1 in
    w.safe.plates.there Station.Arm2 k g.full
source_is l P (Entry.Dropped _ k _) w h p i = let e = h.1.1.0 in cc
source_is l P (Entry.Delivered k) w h p i =
    let s = after P in
    let lit = w.safe.lights.deposit (green (s.lamp Belt.Deposit) h.1.1.1.0) in
    w.safe.plates.there Station.DepEnd k (no_other s Station.DepEnd lit.plate_there k lit.there h.1.1.0)
source_is l P (Entry.Quarantined k src) w h p i =
    let s = after P in
    let t = passed_last (any_visited (situation_in s) (machine_of_station src))
    (station_empty (situation_in s) src ∷ other_plate_at (situation_in s) src k ∷ []) h.1.1 in
    let o = occupied s src t.0 in
    w.safe.plates.there src k (no_other s src o.0 k o.1 t.1.0)
source_is l P (Entry.Reinstated k) w h p i =
    let s = after P in
    expected_there s.expected s.waits (place_of P) (marks_of P) k w.safe.returns
    (is_plate_tells k s.expected (not_false (is_plate k s.expected) h.1.1.0))
source_is l P _ w h p i = cc

-- no plate comes to a press but by a drop, and to no failed one
press_is : (l : BookLimits) (P : List Entry) (e : Entry) → Good P → Passed (tests l (situation_in (after P)) e)
    → (p : Placing) → placing e ≡ Some p → IsPressDrop P e (goes_told (placing e))
press_is l P (Entry.Admitted k) w h p i = tt
press_is l P (Entry.Conveyed Axis.FeedBelt k Station.FeedEnd) w h p i = tt
press_is l P (Entry.Conveyed Axis.FeedBelt k Station.Table) w h p i = tt
press_is l P (Entry.Conveyed Axis.DepositBelt k Station.DepEnd) w h p i = tt
press_is l P (Entry.Conveyed _ k _) w h p i = let e = h.1.1.0 in cc
press_is l P (Entry.Gripped Arm.Arm1 k src) w h p i = tt
press_is l P (Entry.Gripped Arm.Arm2 k src) w h p i = tt
press_is l P (Entry.Dropped Arm.Arm1 k Station.Press1) w h p i =
    let g = hands (after P) Arm.Arm1 Station.Press1 Station.Arm1 Station.Press1 k w.safe.motion.arm_one h.1.1 in
    w.agrees.failed Machine.Press1 ∙ g.healthy
press_is l P (Entry.Dropped Arm.Arm1 k Station.Press2) w h p i =
    let g = hands (after P) Arm.Arm1 Station.Press2 Station.Arm1 Station.Press2 k w.safe.motion.arm_one h.1.1 in
    w.agrees.failed Machine.Press2 ∙ g.healthy
press_is l P (Entry.Dropped Arm.Arm2 k Station.DepIn) w h p i = tt
press_is l P (Entry.Dropped _ k _) w h p i = let e = h.1.1.0 in cc
press_is l P (Entry.Delivered k) w h p i = tt
press_is l P (Entry.Quarantined k src) w h p i = tt
press_is l P (Entry.Reinstated k) w h p i = tt
press_is l P _ w h p i = cc

-- where an arm drops
drop_is : (l : BookLimits) (P : List Entry) (x : Arm) (k : ℕ) (dest : Station) → Good P
    → Passed (tests l (situation_in (after P)) (Entry.Dropped x k dest)) → IsSafeDrop P dest
drop_is l P x k dest e f = grind (arith, pose_same)

-- a motion begins at rest, to another pose
moving_is : (P : List Entry) (s : Snapshot) (a : Axis) (to : Pose) → Agrees P s
    → (has_pose a to && not (same_pose (s.at a) to)) ≡ true → Contains (poses a) to × (to ≢ at_of P a)
moving_is P s a to g h =
    let b = and_both (has_pose a to) (not (same_pose (s.at a) to)) h in (
      any_contains to (poses a) b.0,
      λ d. let e : to ≡ s.at a = d ∙ g.at a in let f =
          eq-eqb (pose_number (s.at a)) (pose_number to) (ap pose_number (sym e)) in cc,
    )

arm_pose : (P : List Entry) (s : Snapshot) (a : Axis) (p to : Pose) → Agrees P s → axes_of s a ≡ rest p
    → same_pose p to ≡ false → to ≢ at_of P a
arm_pose x0 x1 x2 x3 x4 x5 x6 x7 x8 = grind (arith, pose_same)

-- an arm has two poses, and the tests ask that it rests at the other one
one_moves : (P : List Entry) (s : Snapshot) (to : Pose) → Agrees P s → Passed (arm_tests (situation_in s) Arm.Arm1 to)
    → Rests P Axis.ArmOne × (Contains (poses Axis.ArmOne) to × (to ≢ at_of P Axis.ArmOne))
unfolding is_machine
one_moves P s to e f = grind (arith, pose_same)

two_moves : (P : List Entry) (s : Snapshot) (to : Pose) → Agrees P s → Passed (arm_tests (situation_in s) Arm.Arm2 to)
    → Rests P Axis.ArmTwo × (Contains (poses Axis.ArmTwo) to × (to ≢ at_of P Axis.ArmTwo))
unfolding is_machine
two_moves P s to e f = grind (arith, pose_same)

full_told : (P : List Entry) (s : Snapshot) (t : Station) → Inv s (place_of P) (marks_of P)
    → not (is_some (s.plate t)) ≡ false → IsOccupied P t
full_told P s t v h = let o = occupied s t h in (o.0, v.plates.there t o.0 o.1)

-- axis by axis: the first tests of each ask that it rests, and the next for what its move needs
started_is : (P : List Entry) (a : Axis) (to : Pose) → Good P → Passed (started_tests (situation_in (after P)) a to)
    → Rests P a × IsSafeMove P a to
started_is P Axis.FeedBelt Pose.ToEnd w h = (w.agrees.going Axis.FeedBelt ∙ still (after P) Axis.FeedBelt h.0, tt)
started_is P Axis.FeedBelt Pose.ToTable w h = (w.agrees.going Axis.FeedBelt ∙ still (after P) Axis.FeedBelt h.1.0, tt)
started_is P Axis.FeedBelt _ w h = let e = h.0 in (cc, cc)
started_is P Axis.TableLift to w h = (
  w.agrees.going Axis.TableLift ∙ still (after P) Axis.TableLift (or_neither _ _ h.0).0,
  moving_is P (after P)
      Axis.TableLift to w.agrees (may_start _ _ _ h.0),
)
started_is P Axis.TableTurn to w h = (
  w.agrees.going Axis.TableTurn ∙ still (after P) Axis.TableTurn (or_neither _ _ h.1.0).0,
  moving_is P (after P)
      Axis.TableTurn to w.agrees (may_start _ _ _ h.1.0),
)
started_is P Axis.RobotTurn to w h = (
  w.agrees.going Axis.RobotTurn ∙ still (after P) Axis.RobotTurn (or_neither _ _ h.0).0,
  moving_is P (after P)
      Axis.RobotTurn to w.agrees (may_start _ _ _ h.0),
)
started_is P Axis.ArmOne to w h = let m = one_moves P (after P) to w.agrees h in (m.0, m.1)
started_is P Axis.ArmTwo to w h = let m = two_moves P (after P) to w.agrees h in (m.0, m.1)
started_is P Axis.PressOne Pose.Top w h =
    let r = rests_at_from P (after P) Axis.PressOne Pose.Middle w.agrees
    (resting (after P) Axis.PressOne Pose.Middle h.0) in
    (r.still, (r.pose, full_told P (after P) Station.Press1 w.safe h.1.1.0))
started_is P Axis.PressOne Pose.Bottom w h =
    let r = rests_at_from P (after P) Axis.PressOne Pose.Top w.agrees (resting (after P) Axis.PressOne Pose.Top h.0) in
    (r.still, r.pose)
started_is P Axis.PressOne Pose.Middle w h =
    let r = rests_at_from P (after P) Axis.PressOne Pose.Bottom w.agrees
    (resting (after P) Axis.PressOne Pose.Bottom h.0) in
    (r.still, (r.pose, empty_from P (after P) Station.Press1 w.safe (free (after P) Station.Press1 h.1.1.0)))
started_is P Axis.PressOne _ w h = let e = h.0 in (cc, cc)
started_is P Axis.PressTwo Pose.Top w h =
    let r = rests_at_from P (after P) Axis.PressTwo Pose.Middle w.agrees
    (resting (after P) Axis.PressTwo Pose.Middle h.0) in
    (r.still, (r.pose, full_told P (after P) Station.Press2 w.safe h.1.1.0))
started_is P Axis.PressTwo Pose.Bottom w h =
    let r = rests_at_from P (after P) Axis.PressTwo Pose.Top w.agrees (resting (after P) Axis.PressTwo Pose.Top h.0) in
    (r.still, r.pose)
started_is P Axis.PressTwo Pose.Middle w h =
    let r = rests_at_from P (after P) Axis.PressTwo Pose.Bottom w.agrees
    (resting (after P) Axis.PressTwo Pose.Bottom h.0) in
    (r.still, (r.pose, empty_from P (after P) Station.Press2 w.safe (free (after P) Station.Press2 h.1.1.0)))
started_is P Axis.PressTwo _ w h = let e = h.0 in (cc, cc)
started_is P Axis.DepositBelt Pose.ToEnd w h =
    (w.agrees.going Axis.DepositBelt ∙ still (after P) Axis.DepositBelt h.0, tt)
started_is P Axis.DepositBelt _ w h = let e = h.0 in (cc, cc)

-- what a feed light that isn't red says
feed_free : (P : List Entry) → Good P → same_colour ((after P).lamp Belt.Feed) Colour.Red ≡ false → IsFeedFree P
feed_free P w h =
    let s = after P in
    let g = green (s.lamp Belt.Feed) h in
    let lit = w.safe.lights.feed g in (
      w.agrees.lamp Belt.Feed ∙ g,
      rests_at_from P s Axis.FeedBelt Pose.Rest w.agrees lit.belt,
      empty_from P s Station.FeedIn w.safe lit.front,
      empty_from P s Station.FeedEnd w.safe lit.back,
    )

-- entries of other kinds have no rule of their own
kind_is : (l : BookLimits) (P : List Entry) (e : Entry) → Good P → Passed (tests l (situation_in (after P)) e)
    → SafeKind P e
kind_is l P (Entry.Dropped x k dest) w h = drop_is l P x k dest w h
kind_is l P (Entry.Admitted k) w h = feed_free P w h.1.1.1.1.0
kind_is l P (Entry.Reinstated k) w h = feed_free P w h.1.1.1.0
kind_is l P (Entry.Started a to) w h = started_is P a to w h.1.1
kind_is l P _ w h = tt

pub safe_entry : (l : BookLimits) (P : List Entry) (e : Entry) → Good P → allowed l P e ≡ true → SafeEntry P e
safe_entry l P e w a =
    let h = good_passed l P e w a in
    record {
      press = λ p i. subst (λ (o : Option Placing). IsPressDrop P e (goes_told o)) i (press_is l P e w h p i);
      from = λ p i. subst (λ (o : Option Placing). place_of P (plate_told o) ≡ source e) i (source_is l P e w h p i);
      kind = kind_is l P e w h;
    }

-- The law.
pub safe_when_legal : (l : BookLimits) (J : List Entry) → legal l J ≡ true → IsSafe J
safe_when_legal l J h =
    record {
      states = λ P R e. safe_state P (good_prefix l P R (rw e h)).good;
      entries = λ P x R e.
          let w = good_prefix l P (x ∷ R) (rw e h) in
          let n = and_both (allowed l P x) (legal_from l (P ++ x ∷ []) R) w.next in
          safe_entry l P x w.good n.0;
    }
