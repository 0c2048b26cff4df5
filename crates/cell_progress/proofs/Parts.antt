-- Each machine's own part of the rank falls with its entries
use Rattle.std.proofs.Common.{◌≡◌, ℕ, ◌+◌, ◌<◌, Bool, true, false, ◌&&◌, ◌||◌, Some, None, refl, arith}
use Rattle.std.specs.Prelude.{nat_lt, if◌then◌else◌}
use Rattle.std.proofs.lemmas.Bool.Decides.{nat_tests}
use Rattle.cell_types.specs.declared.words.Machine.{Machine}
use Rattle.cell_types.specs.declared.words.Machine.TheVariants as machine
use Rattle.cell_types.specs.declared.words.Station.TheVariants as station
use Rattle.cell_types.specs.declared.words.Axis.{Axis}
use Rattle.cell_types.specs.declared.words.Axis.TheVariants as axis
use Rattle.cell_types.specs.declared.words.Pose.{Pose}
use Rattle.cell_types.specs.declared.words.Pose.TheVariants as pose
use Rattle.cell_types.specs.declared.words.Zone.{Zone}
use Rattle.cell_types.specs.declared.words.Zone.TheVariants as zone
use Rattle.cell_types.specs.declared.words.Belt.{Belt}
use Rattle.cell_types.specs.declared.words.Belt.TheVariants as belt
use Rattle.cell_types.specs.declared.words.Colour.TheVariants as colour
use Rattle.cell_types.specs.declared.words.Entry.TheVariants.{Lamp, Claimed, Yielded, Started, Arrived}
use Rattle.cell_types.specs.declared.words.Entry.TheVariants.{Conveyed, Forged}
use Rattle.cell_types.specs.Same.{same_machine}
use Rattle.cell_types.specs.Cell.{machine_of_axis, owner, visitor}
use Rattle.cell_types.specs.After.{Snapshot, is_machine}
use Rattle.cell_rules.proofs.Safe.Facts.{not_some_tells, pose_same, axes_of, rest}
use Rattle.cell_rules.proofs.Safe.Lights.{FeedLit, DepositLit}
use Rattle.cell_rules.proofs.Safe.Motion.{fits}
use Rattle.cell_useful.specs.Cells.{ample}
use Rattle.cell_machines.specs.Room.{is_refused_otherwise}
use Rattle.cell_machines.specs.Useful.{is_useful_now}
use Rattle.cell_machines.specs.Lights.{feed_light, deposit_light}
use Rattle.cell_progress.specs.Orders.{cell_of}
use Rattle.cell_progress.specs.Rank.{lamps_rank, part}
use Rattle.cell_progress.proofs.Machines.{Which, First, Second, press}
use Rattle.cell_progress.proofs.Passing.{Allowed}
use Rattle.cell_progress.proofs.Taken.{taken}
use Rattle.cell_progress.proofs.More.{More}
use Rattle.cell_progress.proofs.Keeping.{next}
use Rattle.cell_progress.proofs.RobotFalls.{robot_claims, robot_yields}

-- lights: none turns red by wish
pub lamp_green_falls : (s : Snapshot) (b : Belt) → Allowed s (Lamp b colour.Green)
    → lamps_rank s.lamp ≡ lamps_rank (next (Lamp b colour.Green) s).lamp + 1
unfolding lamps_rank
lamp_green_falls s b e = grind (arith, nat_tests)

pub no_feed_red : (s : Snapshot) (plan : ℕ) (by : Machine)
    → is_useful_now ample (cell_of s) plan by (Lamp belt.Feed colour.Red) ≡ true
    → (s.lamp belt.Feed ≡ colour.Green → nat_lt s.admitted plan ≡ true) → FeedLit (axes_of s) s.plate
    → s.failed machine.Feed ≡ false → s.lamp belt.Feed ≡ colour.Green → ⊥
unfolding is_useful_now feed_light
no_feed_red s plan by u g l f e = grind arith

pub no_deposit_red : (s : Snapshot) (plan : ℕ) (by : Machine)
    → is_useful_now ample (cell_of s) plan by (Lamp belt.Deposit colour.Red) ≡ true
    → DepositLit s.plate s.failed → s.going axis.DepositBelt ≡ None → ⊥
unfolding is_useful_now deposit_light
no_deposit_red s plan by u l g = grind arith

-- whose claims and whose gifts are useful
unfoldable pub is_own : Machine → Zone → Bool
is_own machine.Feed zone.Z1 = true
is_own machine.Table zone.Z1 = true
is_own machine.Table zone.Z2 = true
is_own machine.Robot z = true
is_own machine.Press1 zone.Z3 = true
is_own machine.Press2 zone.Z4 = true
is_own machine.Deposit zone.Z5 = true
is_own _ _ = false

own_claim : (s : Snapshot) (plan : ℕ) (by m : Machine) (z : Zone)
    → is_useful_now ample (cell_of s) plan by (Claimed m z) ≡ true → is_own m z ≡ true
unfolding is_useful_now is_own
own_claim s plan by m z u = grind (arith, nat_tests)

own_gift : (s : Snapshot) (plan : ℕ) (by m : Machine) (z : Zone)
    → is_useful_now ample (cell_of s) plan by (Yielded m z) ≡ true → is_own m z ≡ true
unfolding is_useful_now is_own
own_gift s plan by m z u = grind (arith, nat_tests)

feed_claims : (s : Snapshot) (plan : ℕ) (by : Machine)
    → is_useful_now ample (cell_of s) plan by (Claimed machine.Feed zone.Z1) ≡ true → s.holder zone.Z1 ≡ None
    → s.failed machine.Table ≡ false
    → part machine.Feed (next (Claimed machine.Feed zone.Z1) s) < part machine.Feed (cell_of s)
unfolding is_useful_now is_machine
feed_claims s plan by u e f = grind (arith, nat_tests)

claim_case : (s : Snapshot) (plan : ℕ) (by m : Machine) (z : Zone) → is_own m z ≡ true
    → is_useful_now ample (cell_of s) plan by (Claimed m z) ≡ true → s.holder z ≡ None
    → (same_machine m (visitor z) && s.failed (owner z)) ≡ false
    → part m (next (Claimed m z) s) < part m (cell_of s)
unfolding is_own is_useful_now is_machine
claim_case s plan by machine.Robot z o u e f = robot_claims s plan by z u
claim_case s plan by machine.Feed zone.Z1 o u e f = feed_claims s plan by u e f
claim_case s plan by machine.Table zone.Z1 o u e f = grind (arith, nat_tests)
claim_case s plan by machine.Table zone.Z2 o u e f = grind (arith, nat_tests)
claim_case s plan by machine.Press1 zone.Z3 o u e f = grind (arith, pose_same, nat_tests)
claim_case s plan by machine.Press2 zone.Z4 o u e f = grind (arith, pose_same, nat_tests)
claim_case s plan by machine.Deposit zone.Z5 o u e f = grind (arith, nat_tests)
claim_case s plan by _ _ o u e f = cc

pub claim_falls : (s : Snapshot) (plan : ℕ) (by m : Machine) (z : Zone)
    → is_useful_now ample (cell_of s) plan by (Claimed m z) ≡ true → s.holder z ≡ None
    → (same_machine m (visitor z) && s.failed (owner z)) ≡ false
    → part m (next (Claimed m z) s) < part m (cell_of s)
claim_falls s plan by m z u e f = claim_case s plan by m z (own_claim s plan by m z u) u e f

-- Feed gives Z1 up only where its plate is on the table, or that failed
feed_full : (s : Snapshot) (plan : ℕ) (by : Machine) (t e f : Bool)
    → is_useful_now ample (cell_of s) plan by (Yielded machine.Feed zone.Z1) ≡ true
    → s.holder zone.Z1 ≡ Some machine.Feed → s.failed machine.Feed ≡ false → s.going axis.FeedBelt ≡ None
    → axes_of s axis.TableLift ≡ rest pose.Low → axes_of s axis.TableTurn ≡ rest pose.Belt
    → taken s station.Table ≡ t → taken s station.FeedEnd ≡ e → s.failed machine.Table ≡ f → (t || e) ≡ true
    → (t || f) ≡ true
unfolding is_useful_now is_refused_otherwise is_machine
feed_full s plan by t e f u h ff g l r i j k m = grind arith

feed_gives : (s : Snapshot) → s.holder zone.Z1 ≡ Some machine.Feed
    → (taken s station.Table || s.failed machine.Table) ≡ true
    → part machine.Feed (next (Yielded machine.Feed zone.Z1) s) < part machine.Feed (cell_of s)
unfolding is_machine
feed_gives s h t = rw (h, t) (omega arith)

yield_case : (s : Snapshot) (plan : ℕ) (by m : Machine) (z : Zone) → is_own m z ≡ true → More plan s (taken s)
    → is_useful_now ample (cell_of s) plan by (Yielded m z) ≡ true → s.holder z ≡ Some m
    → Allowed s (Yielded m z)
    → part m (next (Yielded m z) s) < part m (cell_of s)
unfolding is_own is_useful_now is_machine
yield_case s plan by machine.Robot z o w u e p = robot_yields s plan by z w.one_zone u
yield_case s plan by machine.Feed zone.Z1 o w u e p =
    feed_gives s e
    (feed_full s plan by (taken s station.Table) (taken s station.FeedEnd) (s.failed machine.Table) u e p.1.0
    (not_some_tells (s.going axis.FeedBelt) p.1.1.0) (w.feed_low e) (w.feed_turn e) refl refl refl
    (w.feed_full e p.1.0))
yield_case s plan by machine.Table zone.Z1 _ _ u e _ = grind (arith, nat_tests)
yield_case s plan by machine.Table zone.Z2 _ _ u e _ = grind (arith, nat_tests)
yield_case s plan by machine.Press1 zone.Z3 _ _ u e _ = grind (arith, pose_same, nat_tests)
yield_case s plan by machine.Press2 zone.Z4 _ _ u e _ = grind (arith, pose_same, nat_tests)
yield_case s plan by machine.Deposit zone.Z5 _ w u e p = let b = w.deposit e in grind (arith, nat_tests)
yield_case s plan by _ _ o w u e p = cc

pub yield_falls : (s : Snapshot) (plan : ℕ) (by m : Machine) (z : Zone) → More plan s (taken s)
    → is_useful_now ample (cell_of s) plan by (Yielded m z) ≡ true → s.holder z ≡ Some m
    → Allowed s (Yielded m z)
    → part m (next (Yielded m z) s) < part m (cell_of s)
yield_falls s plan by m z w u e p = yield_case s plan by m z (own_gift s plan by m z u) w u e p

-- starts
pub start_falls : (s : Snapshot) (plan : ℕ) (by : Machine) (a : Axis) (to : Pose)
    → same_machine (machine_of_axis a) machine.Robot ≡ false
    → is_useful_now ample (cell_of s) plan by (Started a to) ≡ true
    → Allowed s (Started a to)
    → part (machine_of_axis a) (next (Started a to) s) < part (machine_of_axis a) (cell_of s)
unfolding is_useful_now is_machine
start_falls s plan by axis.FeedBelt to m u p = grind (arith, pose_same, nat_tests)
start_falls s plan by _ to m u p = grind (arith, pose_same, nat_tests)

-- arrivals: the table's at its target, the presses' at Bottom with a plate or at Middle without
pub lift_arrives : (s : Snapshot) (p : Pose) → s.going axis.TableLift ≡ Some p
    → p ≡ (if taken s station.Table then pose.High else pose.Low)
    → s.holder zone.Z1 ≡ Some machine.Table → s.holder zone.Z2 ≡ Some machine.Table
    → part machine.Table (next (Arrived axis.TableLift p) s) < part machine.Table (cell_of s)
unfolding is_machine
lift_arrives s p g t e f = grind (arith, nat_tests)

pub turn_arrives : (s : Snapshot) (p : Pose) → s.going axis.TableTurn ≡ Some p
    → p ≡ (if taken s station.Table then pose.Robot else pose.Belt)
    → s.holder zone.Z1 ≡ Some machine.Table → s.holder zone.Z2 ≡ Some machine.Table
    → part machine.Table (next (Arrived axis.TableTurn p) s) < part machine.Table (cell_of s)
unfolding is_machine
turn_arrives s p g t e f = grind (arith, nat_tests)

pub press_arrives : (s : Snapshot) (x : Which) (p : Pose) → Allowed s (Arrived (press x).axis p)
    → fits (press x).axis (axes_of s (press x).axis) ≡ true → s.holder (press x).zone ≡ Some (press x).machine
    → (s.at (press x).axis ≡ pose.Top → taken s (press x).station ≡ true)
    → (s.going (press x).axis ≡ Some pose.Middle → s.plate (press x).station ≡ None)
    → part (press x).machine (next (Arrived (press x).axis p) s) < part (press x).machine (cell_of s)
unfolding is_machine
press_arrives s First p h f e t m = grind (arith, pose_same, nat_tests)
press_arrives s Second p h f e t m = grind (arith, pose_same, nat_tests)

pub press_forges : (s : Snapshot) (x : Which) (k : ℕ) → s.going (press x).axis ≡ Some pose.Top
    → part (press x).machine (next (Forged (press x).machine k) s) < part (press x).machine (cell_of s)
press_forges s First k g = grind (arith, nat_tests)
press_forges s Second k g = grind (arith, nat_tests)

-- the deposit belt conveys
pub deposit_conveys : (s : Snapshot) (k : ℕ) → s.going axis.DepositBelt ≡ Some pose.ToEnd
    → s.holder zone.Z5 ≡ Some machine.Deposit
    → part machine.Deposit (next (Conveyed axis.DepositBelt k station.DepEnd) s) < part machine.Deposit (cell_of s)
unfolding is_machine
deposit_conveys s k g h = grind (arith, nat_tests)
