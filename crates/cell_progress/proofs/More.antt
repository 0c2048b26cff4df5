-- What else holds of every state that can be reached, for the rank
use Rattle.std.proofs.Common.{◌≡◌, ℕ, Bool, true, false, ◌&&◌, ◌||◌, Option, Some, None, refl, sym, ap, ◌∙◌, arith}
use Rattle.std.proofs.Common.{subst}
use Rattle.std.specs.Prelude.{nat_lt, if◌then◌else◌}
use Rattle.std.proofs.lemmas.Bool.Decides.{nat_tests}
use Rattle.cell_types.specs.declared.words.Machine.{Machine}
use Rattle.cell_types.specs.declared.words.Station.{Station}
use Rattle.cell_types.specs.declared.words.Axis.{Axis}
use Rattle.cell_types.specs.declared.words.Pose.{Pose}
use Rattle.cell_types.specs.declared.words.Zone.{Zone}
use Rattle.cell_types.specs.declared.words.Arm.{Arm}
use Rattle.cell_types.specs.declared.words.Belt.{Belt}
use Rattle.cell_types.specs.declared.words.Colour.{Colour}
use Rattle.cell_types.specs.declared.words.AxisState.{AxisState}
use Rattle.cell_types.specs.declared.words.Place.{Place}
use Rattle.cell_types.specs.declared.words.Entry.{Entry}
use Rattle.cell_types.specs.declared.words.Entry.TheVariants.{Lamp, Claimed, Started, Conveyed, Gripped, Dropped}
use Rattle.cell_types.specs.declared.words.Entry.TheVariants.{Quarantined, Repaired}
use Rattle.cell_types.specs.Same.{same_axis, same_zone}
use Rattle.cell_types.specs.Cell.{machine_of_axis}
use Rattle.cell_types.specs.After.{Snapshot, is_machine, step}
use Rattle.cell_rules.specs.First.{any_visited}
use Rattle.cell_rules.proofs.Safe.Facts.{pose_same, machine_same, axis_same, zone_same, not_false, axes_of, rest}
use Rattle.cell_rules.proofs.Safe.Facts.{passed_first}
use Rattle.cell_rules.proofs.Safe.Motion.{MotionSafe, Ready, fits, spot_pose, spot_zone, Spot, TableSpot, Load1, Load2}
use Rattle.cell_rules.proofs.Safe.Motion.{Unload1, Unload2, DepositSpot}
use Rattle.cell_rules.proofs.Safe.Step.{Inv}
use Rattle.cell_machines.specs.Useful.{is_useful_now}
use Rattle.cell_machines.specs.Jobs.{has_job, holds_zone_at}
use Rattle.cell_machines.specs.Robot.{is_drawn_in, holds_a_zone}
use Rattle.cell_machines.specs.Lights.{feed_light}
use Rattle.cell_progress.specs.Orders.{cell_of}
use Rattle.cell_progress.proofs.Machines.{Which, First, Second, press}
use Rattle.cell_progress.proofs.Happening.{Happens, by_wish, Wanted}
use Rattle.cell_progress.proofs.Taken.{taken, occupied_after, taken_step, conveyed}
use Rattle.cell_progress.proofs.Moves.{was_held, was_going, not_visited, relied_on, handed, keeps_zone, came_top}
use Rattle.cell_progress.proofs.Passing.{Allowed}

-- the robot turns to where it holds the zone, and whose owner is ready
pub record Bound (ax : Axis → AxisState) (h : Zone → Option Machine) (q : Pose) : Type 0 where
  pub spot : Spot
  pub to : q ≡ spot_pose spot
  pub zone : h (spot_zone spot) ≡ Some Machine.Robot
  pub ready : Ready ax spot

pub record More (plan : ℕ) (s : Snapshot) (o : Station → Bool) : Type 0 where
  pub green : s.lamp Belt.Feed ≡ Colour.Green → nat_lt s.admitted plan ≡ true
  pub feed_low : s.holder Zone.Z1 ≡ Some Machine.Feed → axes_of s Axis.TableLift ≡ rest Pose.Low
  pub feed_turn : s.holder Zone.Z1 ≡ Some Machine.Feed → axes_of s Axis.TableTurn ≡ rest Pose.Belt
  pub feed_full : s.holder Zone.Z1 ≡ Some Machine.Feed → s.failed Machine.Feed ≡ false
      → (o Station.Table || o Station.FeedEnd) ≡ true
  pub one_zone : (y z : Zone) → s.holder y ≡ Some Machine.Robot → s.holder z ≡ Some Machine.Robot → y ≡ z
  pub deposit : s.holder Zone.Z5 ≡ Some Machine.Deposit → (o Station.DepIn && o Station.DepEnd) ≡ false
  pub lift : (q : Pose) → s.failed Machine.Table ≡ false → s.going Axis.TableLift ≡ Some q
      → q ≡ (if o Station.Table then Pose.High else Pose.Low)
  pub turn : (q : Pose) → s.failed Machine.Table ≡ false → s.going Axis.TableTurn ≡ Some q
      → q ≡ (if o Station.Table then Pose.Robot else Pose.Belt)
  pub robot : (q : Pose) → s.going Axis.RobotTurn ≡ Some q → Bound (axes_of s) s.holder q
  pub top_one : s.failed Machine.Press1 ≡ false → s.at Axis.PressOne ≡ Pose.Top → o Station.Press1 ≡ true
  pub top_two : s.failed Machine.Press2 ≡ false → s.at Axis.PressTwo ≡ Pose.Top → o Station.Press2 ≡ true

-- a green light is wanted only while plates are to come
green_step : (plan : ℕ) (may : Machine → Bool) (s : Snapshot) (e : Entry) → s.expected ≡ None
    → Happens plan may (cell_of s) e → (s.lamp Belt.Feed ≡ Colour.Green → nat_lt s.admitted plan ≡ true)
    → (step e s).lamp Belt.Feed ≡ Colour.Green → nat_lt (step e s).admitted plan ≡ true
unfolding is_useful_now feed_light
green_step plan may s (Lamp b to) x h f g = by_wish plan may (cell_of s) (Lamp b to) h refl (λ by u. grind arith)
green_step plan may s _ x h f g = grind arith

-- the table's axes, and where they are for Feed and with a plate
abbrev moved : Bool → Axis
moved b = if b then Axis.TableLift else Axis.TableTurn

abbrev low : Bool → Pose
low b = if b then Pose.Low else Pose.Belt

abbrev target : Bool → Bool → Pose
target b o = if b then (if o then Pose.High else Pose.Low) else (if o then Pose.Robot else Pose.Belt)

of_table : (b : Bool) → Machine.Table ≡ machine_of_axis (moved b)
of_table true = refl
of_table false = refl

-- Feed claims Z1 where the table waits, and it stays there
low_step : (plan : ℕ) (may : Machine → Bool) (s : Snapshot) (e : Entry) (b : Bool) → Happens plan may (cell_of s) e
    → Allowed s e
    → (s.holder Zone.Z1 ≡ Some Machine.Feed → axes_of s (moved b) ≡ rest (low b))
    → (step e s).holder Zone.Z1 ≡ Some Machine.Feed → axes_of (step e s) (moved b) ≡ rest (low b)
unfolding is_useful_now
low_step plan may s (Claimed m z) b h _ f g =
    by_wish plan may (cell_of s) (Claimed m z) h refl (λ by u. grind (arith, pose_same))
low_step plan may s e b h p f g =
    let d = was_held s e Zone.Z1 Machine.Feed refl g in
    relied_on s e (moved b) Zone.Z1 (low b) p d (of_table b) (f d)

-- the plate that Feed's visit is for goes to the table, and nobody takes it from there
full_step : (plan : ℕ) (may : Machine → Bool) (s : Snapshot) (e : Entry) → MotionSafe (axes_of s) s.holder
    → Happens plan may (cell_of s) e → Allowed s e → More plan s (taken s)
    → (step e s).holder Zone.Z1 ≡ Some Machine.Feed → (step e s).failed Machine.Feed ≡ false
    → (occupied_after e (taken s) Station.Table || occupied_after e (taken s) Station.FeedEnd) ≡ true
unfolding is_machine is_useful_now
full_step plan may s (Claimed m z) _ h _ w g f =
    let k = w.feed_full in by_wish plan may (cell_of s) (Claimed m z) h refl (λ by u. grind (arith, pose_same))
full_step plan may s (Conveyed Axis.FeedBelt k Station.Table) v h p w g f = refl
full_step plan may s (Gripped Arm.Arm1 k Station.Table) v h p w g f =
    let r = (handed s TableSpot Station.Table Station.Arm1 k v.arm_one p.1.1).faced.ready in
    let n : Pose.Low ≡ Pose.High = ap (λ (t : AxisState). t.at) (sym (w.feed_low g) ∙ r.0) in cc
full_step plan may s (Quarantined k Station.Table) v h p w g f =
    let n = not_visited s Machine.Table Zone.Z1 (passed_first (any_visited (cell_of s) Machine.Table) _ p.1.1) g in cc
full_step plan may s (Quarantined k Station.FeedEnd) v h p w g f = let n = not_false (s.failed Machine.Feed) p.1.0 in cc
full_step plan may s _ _ _ p w g f = let k = w.feed_full in grind (arith, machine_same)

-- the robot holds one zone at most
holds_one : (s : Snapshot) (y : Zone) → is_machine Machine.Robot (s.holder y) ≡ true → holds_a_zone (cell_of s) ≡ true
unfolding holds_a_zone
holds_one s Zone.Z1 e = grind arith
holds_one s _ e = grind arith

pub none_held : (s : Snapshot) (y : Zone) → holds_a_zone (cell_of s) ≡ false → s.holder y ≡ Some Machine.Robot → ⊥
unfolding is_machine
none_held s y h e = let g = holds_one s y (rw e) in cc

one_claimed : (h k : Option Machine) (m : Machine) (z y x : Zone) (c d : Bool) → same_zone z y ≡ c → same_zone z x ≡ d
    → (m ≡ Machine.Robot → h ≡ Some Machine.Robot → ⊥) → (m ≡ Machine.Robot → k ≡ Some Machine.Robot → ⊥)
    → (h ≡ Some Machine.Robot → k ≡ Some Machine.Robot → y ≡ x) → (if c then Some m else h) ≡ Some Machine.Robot
    → (if d then Some m else k) ≡ Some Machine.Robot → y ≡ x
one_claimed h k m z y x true true p q f g i a b = sym (zone_same z y p) ∙ zone_same z x q
one_claimed h k m z y x true false p q f g i a b = absurd (g (cc) b)
one_claimed h k m z y x false true p q f g i a b = absurd (f (cc) a)
one_claimed h k m z y x false false p q f g i a b = i a b

one_step : (plan : ℕ) (may : Machine → Bool) (s : Snapshot) (e : Entry) → Happens plan may (cell_of s) e
    → ((y x : Zone) → s.holder y ≡ Some Machine.Robot → s.holder x ≡ Some Machine.Robot → y ≡ x) → (y x : Zone)
    → (step e s).holder y ≡ Some Machine.Robot → (step e s).holder x ≡ Some Machine.Robot → y ≡ x
unfolding is_useful_now
one_step plan may s (Claimed m z) h f y x a b =
    one_claimed (s.holder y) (s.holder x) m z y x (same_zone z y) _ refl refl (first y) (first x) (f y x) a b
  where
    first : (w : Zone) → m ≡ Machine.Robot → s.holder w ≡ Some Machine.Robot → ⊥
    first w i d =
        let n : holds_a_zone (cell_of s) ≡ false =
        by_wish plan may (cell_of s) (Claimed m z) h refl (λ by u. grind (arith, machine_same)) in
        none_held s w n d
one_step plan may s e h f y x a b = f y x (was_held s e y Machine.Robot refl a) (was_held s e x Machine.Robot refl b)

-- the deposit belt has room while Deposit holds its zone
deposit_step : (plan : ℕ) (may : Machine → Bool) (s : Snapshot) (e : Entry) → MotionSafe (axes_of s) s.holder
    → Happens plan may (cell_of s) e → Allowed s e
    → (s.holder Zone.Z5 ≡ Some Machine.Deposit → (taken s Station.DepIn && taken s Station.DepEnd) ≡ false)
    → (step e s).holder Zone.Z5 ≡ Some Machine.Deposit
    → (occupied_after e (taken s) Station.DepIn && occupied_after e (taken s) Station.DepEnd) ≡ false
unfolding is_useful_now
deposit_step plan may s (Claimed m z) _ h _ f g =
    by_wish plan may (cell_of s) (Claimed m z) h refl (λ by u. grind (arith, pose_same))
deposit_step plan may s (Dropped Arm.Arm2 k Station.DepIn) v h p f g =
    let r = (handed s DepositSpot Station.Arm2 Station.DepIn k v.arm_two p.1.1).faced.zone in let i = sym g ∙ r in cc
deposit_step plan may s _ _ _ p f g = grind (arith, nat_tests)

-- an axis of the table that moves isn't at rest
still_table : (s : Snapshot) (b : Bool) (q x y : Pose) → s.going (moved b) ≡ Some q → axes_of s Axis.TableLift ≡ rest x
    → axes_of s Axis.TableTurn ≡ rest y → ⊥
still_table s b q x y m i j = grind arith

-- the table moves to its target: nothing comes to a healthy table that moves, and nobody takes its plate
target_step : (plan : ℕ) (may : Machine → Bool) (s : Snapshot) (e : Entry) (b : Bool) → MotionSafe (axes_of s) s.holder
    → Happens plan may (cell_of s) e → Allowed s e → (q : Pose)
    → (s.failed Machine.Table ≡ false → s.going (moved b) ≡ Some q → q ≡ target b (taken s Station.Table))
    → (step e s).failed Machine.Table ≡ false → (step e s).going (moved b) ≡ Some q
    → q ≡ target b (occupied_after e (taken s) Station.Table)
unfolding is_useful_now
target_step plan may s (Started a to) b _ h _ q w f g =
    let k = w f in by_wish plan may (cell_of s) (Started a to) h refl (λ by u. grind (arith, pose_same))
target_step plan may s (Conveyed Axis.FeedBelt k Station.Table) b v h p q w f g =
    let r = v.feed (conveyed s Axis.FeedBelt k Station.Table p).going in
    let m = was_going s (Conveyed Axis.FeedBelt k Station.Table) (moved b) q refl g in
    absurd (still_table s b q Pose.Low Pose.Belt m r.lift r.turn)
target_step plan may s (Gripped Arm.Arm1 k Station.Table) b v h p q w f g =
    let r = (handed s TableSpot Station.Table Station.Arm1 k v.arm_one p.1.1).faced.ready in
    absurd (still_table s b q Pose.High Pose.Robot g r.0 r.1)
target_step plan may s (Quarantined k Station.Table) b v h p q w f g =
    let n = not_false (s.failed Machine.Table) p.1.0 in cc
target_step plan may s (Repaired m) b _ _ _ q w f g = grind (arith, machine_same)
target_step plan may s _ b _ _ p q w f g = grind (arith, nat_tests)

-- the robot turns to a job whose zone it holds
turns_bound : (s : Snapshot) (plan : ℕ) (by : Machine) (to : Pose)
    → fits Axis.DepositBelt (axes_of s Axis.DepositBelt) ≡ true
    → Wanted plan (cell_of s) by (Started Axis.RobotTurn to) → Bound (axes_of s) s.holder to
unfolding is_useful_now has_job holds_zone_at is_machine
turns_bound s plan by to f u = grind (arith, pose_same)

-- what turns now was bound for there before
bound_before : (plan : ℕ) (may : Machine → Bool) (s : Snapshot) (e : Entry) → MotionSafe (axes_of s) s.holder
    → Happens plan may (cell_of s) e → (q : Pose) → (s.going Axis.RobotTurn ≡ Some q → Bound (axes_of s) s.holder q)
    → (step e s).going Axis.RobotTurn ≡ Some q → Bound (axes_of s) s.holder q
bound_before plan may s (Started a to) v h q w g = started (same_axis a Axis.RobotTurn) refl g
  where
    started : (b : Bool) → same_axis a Axis.RobotTurn ≡ b → (if b then Some to else s.going Axis.RobotTurn) ≡ Some q
        → Bound (axes_of s) s.holder q
    started false e i = w i
    started true e i =
        let j : a ≡ Axis.RobotTurn = axis_same a Axis.RobotTurn e in let f = v.fitting Axis.DepositBelt in
        let k : Started a to ≡ Started Axis.RobotTurn q = cc in
        by_wish plan may (cell_of s) (Started Axis.RobotTurn q) (subst (Happens plan may (cell_of s)) k h) refl
        (λ by u. turns_bound s plan by q f u)
bound_before plan may s e v h q w g = w (was_going s e Axis.RobotTurn q refl g)

-- a robot that turns gives up nothing
robot_keeps : (plan : ℕ) (may : Machine → Bool) (s : Snapshot) (e : Entry) → Happens plan may (cell_of s) e
    → Allowed s e → (q : Pose) (z : Zone) → (step e s).going Axis.RobotTurn ≡ Some q
    → s.holder z ≡ Some Machine.Robot → (step e s).holder z ≡ Some Machine.Robot
unfolding is_useful_now is_drawn_in
robot_keeps plan may s (Started a to) h p q z g d = d
robot_keeps plan may s e h p q z g d =
    let m = was_going s e Axis.RobotTurn q refl g in
    keeps_zone plan may s e z Machine.Robot h p (λ by u. grind arith)
    (λ i. let n = subst (λ (x : Entry). (step x s).going Axis.RobotTurn ≡ Some q) i g in cc) d

ready_kept : (s : Snapshot) (e : Entry) (x : Spot) → Allowed s e
    → s.holder (spot_zone x) ≡ Some Machine.Robot → Ready (axes_of s) x → Ready (axes_of (step e s)) x
ready_kept s e TableSpot p h r = (
  relied_on s e Axis.TableLift Zone.Z2 Pose.High p h refl r.0,
  relied_on s e Axis.TableTurn Zone.Z2 Pose.Robot p h refl r.1,
)
ready_kept s e Load1 p h r = relied_on s e Axis.PressOne Zone.Z3 Pose.Middle p h refl r
ready_kept s e Load2 p h r = relied_on s e Axis.PressTwo Zone.Z4 Pose.Middle p h refl r
ready_kept s e Unload1 p h r = relied_on s e Axis.PressOne Zone.Z3 Pose.Bottom p h refl r
ready_kept s e Unload2 p h r = relied_on s e Axis.PressTwo Zone.Z4 Pose.Bottom p h refl r
ready_kept s e DepositSpot p h r = relied_on s e Axis.DepositBelt Zone.Z5 Pose.Rest p h refl r

robot_step : (plan : ℕ) (may : Machine → Bool) (s : Snapshot) (e : Entry) → MotionSafe (axes_of s) s.holder
    → Happens plan may (cell_of s) e → Allowed s e → (q : Pose)
    → (s.going Axis.RobotTurn ≡ Some q → Bound (axes_of s) s.holder q)
    → (step e s).going Axis.RobotTurn ≡ Some q → Bound (axes_of (step e s)) (step e s).holder q
robot_step plan may s e v h p q w g =
    let b = bound_before plan may s e v h q w g in
    record {
      spot = b.spot;
      to = b.to;
      zone = robot_keeps plan may s e h p q (spot_zone b.spot) g b.zone;
      ready = ready_kept s e b.spot p b.zone b.ready;
    }

-- nobody takes the plate of a healthy press at Top
top_step : (s : Snapshot) (e : Entry) (x : Which) → MotionSafe (axes_of s) s.holder → Allowed s e
    → (s.failed (press x).machine ≡ false → s.at (press x).axis ≡ Pose.Top → taken s (press x).station ≡ true)
    → (step e s).failed (press x).machine ≡ false → (step e s).at (press x).axis ≡ Pose.Top
    → occupied_after e (taken s) (press x).station ≡ true
top_step s (Gripped Arm.Arm2 k Station.Press1) First v p w f g =
    let r = (handed s Unload1 Station.Press1 Station.Arm2 k v.arm_two p.1.1).faced.ready in
    let n : s.at Axis.PressOne ≡ Pose.Bottom = ap (λ (t : AxisState). t.at) r in cc
top_step s (Gripped Arm.Arm2 k Station.Press2) Second v p w f g =
    let r = (handed s Unload2 Station.Press2 Station.Arm2 k v.arm_two p.1.1).faced.ready in
    let n : s.at Axis.PressTwo ≡ Pose.Bottom = ap (λ (t : AxisState). t.at) r in cc
top_step s e x _ p w f g = let c = came_top s e x p g in grind (arith, nat_tests, machine_same)

-- every entry that can happen keeps this
pub more_step : (plan : ℕ) (may : Machine → Bool) (s : Snapshot) (place : ℕ → Place) (marks : ℕ → ℕ) (e : Entry)
    → Inv s place marks → s.expected ≡ None → Happens plan may (cell_of s) e → Allowed s e
    → More plan s (taken s) → More plan (step e s) (taken (step e s))
more_step plan may s place marks e v x h p w =
    subst (More plan (step e s)) (sym (taken_step plan may s place marks e v h p)) (record {
      green = green_step plan may s e x h w.green;
      feed_low = low_step plan may s e true h p w.feed_low;
      feed_turn = low_step plan may s e false h p w.feed_turn;
      feed_full = full_step plan may s e v.motion h p w;
      one_zone = one_step plan may s e h w.one_zone;
      deposit = deposit_step plan may s e v.motion h p w.deposit;
      lift = λ q. target_step plan may s e true v.motion h p q (w.lift q);
      turn = λ q. target_step plan may s e false v.motion h p q (w.turn q);
      robot = λ q. robot_step plan may s e v.motion h p q (w.robot q);
      top_one = top_step s e First v.motion p w.top_one;
      top_two = top_step s e Second v.motion p w.top_two;
    })
