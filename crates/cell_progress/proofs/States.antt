-- In a state that keeps the invariants nothing is stuck
use Rattle.std.proofs.Common.{◌≡◌, ◌≢◌, ℕ, ◌≤◌, Bool, true, false, ◌&&◌, not, Option, Some, None, is_some, refl}
use Rattle.std.proofs.Common.{arith, sym, ◌∙◌, ◌⊎◌, inl, inr}
use Rattle.std.specs.Prelude.{nat_lt}
use Rattle.cell_types.specs.declared.words.Machine.{Machine}
use Rattle.cell_types.specs.declared.words.Station.{Station}
use Rattle.cell_types.specs.declared.words.Axis.{Axis}
use Rattle.cell_types.specs.declared.words.Pose.{Pose}
use Rattle.cell_types.specs.declared.words.Zone.{Zone}
use Rattle.cell_types.specs.Cell.{machine_of_axis, machine_of_station, owner, visitor}
use Rattle.cell_types.specs.After.{Snapshot}
use Rattle.cell_rules.specs.Carrying.{carries_from}
use Rattle.cell_useful.specs.Events.{arrived, forged}
use Rattle.cell_useful.specs.Moves.{is_nil, acts_of, is_left, is_to_move, is_stuck}
use Rattle.cell_progress.specs.Orders.{cell_of, IsOnePress}
use Rattle.cell_progress.proofs.Quiet.{Quiet, quiet, Unserved, unserved, mended}
use Rattle.cell_progress.proofs.Machines.{Kept, Which, First, Second, not_so, press, axis_rests, press_rests}
use Rattle.cell_progress.proofs.Machines.{deposit_rests, wants_none, feed_free, TableWaits, table_waits, press_waits}
use Rattle.cell_progress.proofs.Machines.{feed_rests, DepositWaits, deposit_waits}
use Rattle.cell_progress.proofs.Robots.{Drawn, HoldsNone, drawn, holds_none, no_job, State, broken, waits, Waiting}
use Rattle.cell_progress.proofs.Robots.{arm_two_empty, press_empty, arm_one_empty, table_empty, feed_end_empty}
use Rattle.cell_progress.proofs.Robots.{feed_in_empty, all_admitted}

-- Feed and the robot are healthy, rest, and hold nothing
pub record Idle (s : Snapshot) : Type 0 where
  pub feed : s.failed Machine.Feed ≡ false
  pub feed_still : s.going Axis.FeedBelt ≡ None
  pub feed_free : s.holder Zone.Z1 ≢ Some Machine.Feed
  pub drawn : Drawn s
  pub none_held : HoldsNone s

idle : (s : Snapshot) (plan : ℕ) → Kept s → Quiet plan (cell_of s) → s.failed Machine.Feed ≡ false
    → s.failed Machine.Robot ≡ false → Idle s
idle s plan k q ff fr =
    let fit = k.motion.fitting in
    let gf = feed_rests s ff (fit Axis.FeedBelt) q.belts.0 q.belts.1.0
    (λ i. k.carried Axis.FeedBelt Pose.ToEnd Station.FeedIn i refl ff)
    (λ i. k.carried Axis.FeedBelt Pose.ToTable Station.FeedEnd i refl ff) in
    let d = drawn s plan fr (axis_rests s Axis.RobotTurn (λ p. refl) fr q.arrivals.1.1.0)
    (axis_rests s Axis.ArmOne (λ p. refl) fr q.arrivals.1.1.1.0)
    (axis_rests s Axis.ArmTwo (λ p. refl) fr q.arrivals.1.1.1.1.0) (fit Axis.ArmOne) (fit Axis.ArmTwo)
    (q.useful Machine.Robot) in
    let z = feed_free s plan ff gf (wants_none s plan Machine.Feed (q.useful Machine.Feed)) in
    let h : HoldsNone s = holds_none s plan d (fit Axis.DepositBelt) (q.useful Machine.Robot) in
    assumption

press_waits_empty : (s : Snapshot) (plan : ℕ) (p : Which) → Kept s → Quiet plan (cell_of s) → Idle s
    → s.plate Station.Arm2 ≡ None → s.failed (press p).machine ≡ false → s.failed (owner (press p).zone) ≡ false
    → visitor (press p).zone ≡ Machine.Robot → arrived (cell_of s) (press p).axis ≡ None
    → forged (cell_of s) (press p).machine (press p).station ≡ None
    → carries_from (press p).axis Pose.Top ≡ Some (press p).station → machine_of_axis (press p).axis ≡ (press p).machine
    → (s.at (press p).axis ≡ Pose.Top → s.holder (press p).zone ≡ Some (press p).machine) → Waiting s p
press_waits_empty s plan p k q i e f o v a b c m t =
    let g = press_rests s p f a b (λ x. k.carried (press p).axis Pose.Top (press p).station x c (rw m f)) in
    let w = press_waits s plan p f g (k.motion.fitting (press p).axis) (k.near (press p).zone)
    (i.none_held (press p).zone) t (wants_none s plan (press p).machine (q.useful (press p).machine)) in
    let j = no_job s plan (press p).zone i.drawn i.none_held o w.free v (q.useful Machine.Robot) in
    record { waits = w; empty = press_empty s p w e j; no_job = j }

press_state : (s : Snapshot) (plan : ℕ) (p : Which) → Kept s → Quiet plan (cell_of s) → Idle s
    → s.plate Station.Arm2 ≡ None → (b : Bool) → s.failed (press p).machine ≡ b → State s p
press_state s plan p k q i e true f = broken f
press_state s plan First k q i e false f =
    waits (press_waits_empty s plan First k q i e f f refl q.arrivals.1.1.1.1.1.0 q.belts.1.1.1.0 refl refl k.top_one)
press_state s plan Second k q i e false f =
    waits (press_waits_empty s plan Second k q i e f f refl q.arrivals.1.1.1.1.1.1.0 q.belts.1.1.1.1.0 refl refl
    k.top_two)

-- no plate of a press is to move: it waits empty, or has failed
press_left : (s : Snapshot) (p : Which) → machine_of_station (press p).station ≡ (press p).machine → State s p
    → is_to_move (cell_of s) (press p).station ≡ false
press_left s p o (broken f) = none_moves (is_some (s.plate (press p).station)) _ (rw o f)
  where
    none_moves : (p f : Bool) → f ≡ true → (p && not f) ≡ false
    none_moves p f e = grind arith
press_left s p o (waits w) = let e : s.plate (press p).station ≡ None = w.empty in rw e

-- none of the stations has a plate that is to move
pub record Done (s : Snapshot) (plan : ℕ) : Type 0 where
  pub idle : Idle s
  pub admitted : nat_lt s.admitted plan ≡ false
  pub front : s.plate Station.FeedIn ≡ None
  pub back : s.plate Station.FeedEnd ≡ None
  pub table : s.plate Station.Table ≡ None
  pub one : s.plate Station.Arm1 ≡ None
  pub two : s.plate Station.Arm2 ≡ None
  pub press1 : is_to_move (cell_of s) Station.Press1 ≡ false
  pub press2 : is_to_move (cell_of s) Station.Press2 ≡ false
  pub dep_front : s.plate Station.DepIn ≡ None
  pub dep_back : s.plate Station.DepEnd ≡ None

none_left : (s : Snapshot) (plan : ℕ) → Done s plan → is_left plan (cell_of s) ≡ false
none_left s plan d =
    rw (d.admitted, d.front, d.back, d.table, d.one, d.two, d.press1, d.press2, d.dep_front, d.dep_back)

-- if all machines are healthy but one of the presses at most
done : (s : Snapshot) (plan : ℕ) → plan ≤ 100000 → Kept s → Quiet plan (cell_of s) → Idle s
    → s.failed Machine.Table ≡ false → s.failed Machine.Deposit ≡ false
    → (s.failed Machine.Press1 ≡ true → s.failed Machine.Press2 ≡ true → ⊥) → Done s plan
done s plan n k q i ft fd some =
    let fit = k.motion.fitting in
    let uf = wants_none s plan Machine.Feed (q.useful Machine.Feed) in
    let ur = q.useful Machine.Robot in
    let gl = axis_rests s Axis.TableLift (λ p. refl) ft q.arrivals.0 in
    let gt = axis_rests s Axis.TableTurn (λ p. refl) ft q.arrivals.1.0 in
    let gd = deposit_rests s fd (fit Axis.DepositBelt) q.belts.1.1.0
    (λ e. k.carried Axis.DepositBelt Pose.ToEnd Station.DepIn e refl fd) in
    let tw : TableWaits s = table_waits s plan ft gl gt (fit Axis.TableLift) (fit Axis.TableTurn) (k.near Zone.Z1)
    (k.near Zone.Z2) i.feed_free (i.none_held Zone.Z2) (wants_none s plan Machine.Table (q.useful Machine.Table)) in
    let dw : DepositWaits s = deposit_waits s plan fd gd (k.near Zone.Z5) (i.none_held Zone.Z5) q.signs.1.0
    (wants_none s plan Machine.Deposit (q.useful Machine.Deposit)) in
    let a2 = arm_two_empty s dw (no_job s plan Zone.Z5 i.drawn i.none_held fd dw.free refl ur) in
    let p1 = press_state s plan First k q i a2 (s.failed Machine.Press1) refl in
    let p2 = press_state s plan Second k q i a2 (s.failed Machine.Press2) refl in
    let a1 = arm_one_empty s p1 p2 some in
    let tb = table_empty s a1 tw (no_job s plan Zone.Z2 i.drawn i.none_held ft tw.two refl ur) in
    let fe = feed_end_empty s plan tb tw i.feed i.feed_still uf in
    let fi = feed_in_empty s plan fe i.feed i.feed_still uf in
    let all = all_admitted s plan n fe fi i.feed i.feed_still k.expected uf q.signs.0 in
    let l1 = press_left s First refl p1 in
    let l2 = press_left s Second refl p2 in
    assumption

pub not_both : (f : Machine → Bool) → IsOnePress f → f Machine.Press1 ≡ true → f Machine.Press2 ≡ true → ⊥
not_both f o a b = let d : Machine.Press1 ≡ Machine.Press2 = o.2 Machine.Press1 a ∙ sym (o.2 Machine.Press2 b) in cc

-- so without an operator
pub unserved_done : (s : Snapshot) (plan : ℕ) → plan ≤ 100000 → Kept s → IsOnePress s.failed
    → is_nil (acts_of plan false (cell_of s)) ≡ true → Done s plan
unserved_done s plan n k o h =
    let q = quiet plan false (cell_of s) h in
    let i = idle s plan k q (well Machine.Feed (λ e. cc) (λ e. cc)) (well Machine.Robot (λ e. cc) (λ e. cc)) in
    done s plan n k q i (well Machine.Table (λ e. cc) (λ e. cc)) (well Machine.Deposit (λ e. cc) (λ e. cc))
    (not_both s.failed o)
  where
    no_press : (m p : Machine) → (p ≡ Machine.Press1) ⊎ (p ≡ Machine.Press2) → m ≢ Machine.Press1
        → m ≢ Machine.Press2 → m ≢ p
    no_press m p (inl e) n1 n2 i = n1 (i ∙ e)
    no_press m p (inr e) n1 n2 i = n2 (i ∙ e)

    well : (m : Machine) → m ≢ Machine.Press1 → m ≢ Machine.Press2 → s.failed m ≡ false
    well m n1 n2 = not_so (s.failed m) (λ e. no_press m o.0 o.1 n1 n2 (o.2 m e))

-- with one who serves all are healthy: nobody visits Feed and the robot, and they visit nobody
idle_served : (s : Snapshot) (plan : ℕ) → Kept s → Quiet plan (cell_of s) → Unserved (cell_of s) → Idle s
idle_served s plan k q u =
    idle s plan k q (mended s Machine.Feed (λ z e. owned z e) u) (mended s Machine.Robot (λ z e. held z e) u)
  where
    owned : (z : Zone) → owner z ≡ Machine.Feed → s.holder z ≢ Some (visitor z)
    owned z e h = grind arith

    held : (z : Zone) → owner z ≡ Machine.Robot → s.holder z ≢ Some (visitor z)
    held z e h = grind arith

all_well : (s : Snapshot) → Idle s → Unserved (cell_of s) → (m : Machine) → s.failed m ≡ false
all_well s i u m = mended s m (λ z e. unvisited z) u
  where
    unvisited : (z : Zone) → s.holder z ≢ Some (visitor z)
    unvisited Zone.Z1 = i.feed_free
    unvisited z = i.none_held z

-- and with an operator who serves all is as at the beginning
pub record Served (s : Snapshot) (plan : ℕ) : Type 0 where
  pub done : Done s plan
  pub healthy : (m : Machine) → s.failed m ≡ false
  pub empty : (t : Station) → s.plate t ≡ None

pub served_done : (s : Snapshot) (plan : ℕ) → plan ≤ 100000 → Kept s
    → is_nil (acts_of plan true (cell_of s)) ≡ true → Served s plan
served_done s plan n k h =
    let q = quiet plan true (cell_of s) h in
    let u = unserved plan (cell_of s) h in
    let i = idle_served s plan k q u in
    let w : (m : Machine) → s.failed m ≡ false = all_well s i u in
    let d = done s plan n k q i (w Machine.Table) (w Machine.Deposit) (λ e f. not_failed e (w Machine.Press1)) in
    record { done = d; healthy = w; empty = empties d w }
  where
    not_failed : s.failed Machine.Press1 ≡ true → s.failed Machine.Press1 ≡ false → ⊥
    not_failed e f = cc

    none_by : (t : Station) → is_to_move (cell_of s) t ≡ false → s.failed (machine_of_station t) ≡ false
        → s.plate t ≡ None
    none_by t e f = grind arith

    all_none : (f : Station → Option ℕ) → f Station.FeedIn ≡ None → f Station.FeedEnd ≡ None → f Station.Table ≡ None
        → f Station.Arm1 ≡ None → f Station.Arm2 ≡ None → f Station.Press1 ≡ None → f Station.Press2 ≡ None
        → f Station.DepIn ≡ None → f Station.DepEnd ≡ None → (t : Station) → f t ≡ None
    all_none f a b c d e g h i j t = grind arith

    empties : Done s plan → ((m : Machine) → s.failed m ≡ false) → (t : Station) → s.plate t ≡ None
    empties d w =
        all_none s.plate d.front d.back d.table d.one d.two (none_by Station.Press1 d.press1 (w Machine.Press1))
        (none_by Station.Press2 d.press2 (w Machine.Press2)) d.dep_front d.dep_back

-- Where something is left, something can happen.
by_done : (s : Snapshot) (plan : ℕ) (serves : Bool) → (is_nil (acts_of plan serves (cell_of s)) ≡ true → Done s plan)
    → is_stuck plan serves (cell_of s) ≡ false
by_done s plan serves f = go (is_nil (acts_of plan serves (cell_of s))) refl
  where
    go : (b : Bool) → is_nil (acts_of plan serves (cell_of s)) ≡ b → (is_left plan (cell_of s) && b) ≡ false
    go true e = rw (none_left s plan (f e))
    go false e = and_false (is_left plan (cell_of s))
      where
        and_false : (x : Bool) → (x && false) ≡ false
        and_false x = grind arith

pub not_stuck : (s : Snapshot) (plan : ℕ) → plan ≤ 100000 → Kept s → IsOnePress s.failed
    → is_stuck plan false (cell_of s) ≡ false
not_stuck s plan n k o = by_done s plan false (unserved_done s plan n k o)

pub served_not_stuck : (s : Snapshot) (plan : ℕ) → plan ≤ 100000 → Kept s → is_stuck plan true (cell_of s) ≡ false
served_not_stuck s plan n k = by_done s plan true (λ h. (served_done s plan n k h).done)
