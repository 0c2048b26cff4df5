-- What an entry leaves of the parts of those whose entry it isn't, and above all of the robot's
use Rattle.std.proofs.Common.{◌≡◌, ℕ, Bool, true, false, ◌&&◌, Option, Some, None, refl, ap, arith, ◌≤◌}
use Rattle.cell_types.specs.declared.words.Machine.{Machine}
use Rattle.cell_types.specs.declared.words.Machine.TheVariants as machine
use Rattle.cell_types.specs.declared.words.Station.TheVariants as station
use Rattle.cell_types.specs.declared.words.Axis.{Axis}
use Rattle.cell_types.specs.declared.words.Axis.TheVariants as axis
use Rattle.cell_types.specs.declared.words.Pose.{Pose}
use Rattle.cell_types.specs.declared.words.Pose.TheVariants as pose
use Rattle.cell_types.specs.declared.words.Zone.{Zone}
use Rattle.cell_types.specs.declared.words.Zone.TheVariants as zone
use Rattle.cell_types.specs.declared.words.AxisState.{AxisState}
use Rattle.cell_types.specs.declared.words.Entry.{Entry}
use Rattle.cell_types.specs.declared.words.Cause.{Cause}
use Rattle.cell_types.specs.declared.words.Entry.TheVariants.{Claimed, Yielded, Started, Conveyed, Declared}
use Rattle.cell_types.specs.declared.words.Entry.TheVariants.{Forged, Quarantined, Repaired}
use Rattle.cell_types.specs.Same.{same_machine}
use Rattle.cell_types.specs.Cell.{machine_of_axis, owner, visitor}
use Rattle.cell_types.specs.After.{Snapshot, is_machine, freed_by, step}
use Rattle.cell_rules.specs.Situations.{Situation}
use Rattle.cell_rules.proofs.Safe.Facts.{axes_of, rest, zone_same, machine_same}
use Rattle.cell_rules.proofs.Safe.Motion.{runs_in}
use Rattle.cell_machines.specs.Jobs.{has_job, has_job_in, is_robots}
use Rattle.cell_machines.specs.Robot.{holds_a_zone}
use Rattle.cell_progress.specs.Orders.{cell_of}
use Rattle.cell_progress.specs.Rank.{part, has_work, is_there, is_turned_in}
use Rattle.cell_progress.proofs.Passing.{Allowed}
use Rattle.cell_progress.proofs.Taken.{taken, occupied_after}
use Rattle.cell_progress.proofs.RobotRank.{KeepsIn, motion, SameAxes, robot_kept}
use Rattle.cell_progress.proofs.Machines.{Which, First, Second, press}

-- the cell after an entry that can happen
abbrev pub next : Entry → Snapshot → Situation
next e s = record (cell_of (step e s)) { occupied = occupied_after e (taken s) }

-- a machine's part reads of the zones only which it holds
pub part_held : (c : Situation) (h : Zone → Option Machine) (o : Machine)
    → ((z : Zone) → is_machine o (h z) ≡ is_machine o (c.holder z))
    → part o (record c { holder = h }) ≡ part o c
unfolding has_work is_there holds_a_zone has_job_in has_job is_turned_in
part_held c h machine.Feed k = rw (k zone.Z1)
part_held c h machine.Table k = rw (k zone.Z1, k zone.Z2)
part_held c h machine.Robot k = rw (k zone.Z1, k zone.Z2, k zone.Z3, k zone.Z4, k zone.Z5)
part_held c h machine.Press1 k = rw (k zone.Z3)
part_held c h machine.Press2 k = rw (k zone.Z4)
part_held c h machine.Deposit k = rw (k zone.Z5)

-- a zone that another machine claims, gives up, or gives up as it is repaired
claimed_other : (s : Snapshot) (m o : Machine) (z y : Zone) → s.holder z ≡ None → same_machine m o ≡ false
    → is_machine o ((step (Claimed m z) s).holder y) ≡ is_machine o (s.holder y)
unfolding is_machine
claimed_other s m o z y e n = grind (arith, zone_same)

yielded_other : (s : Snapshot) (m o : Machine) (z y : Zone) → s.holder z ≡ Some m → same_machine m o ≡ false
    → is_machine o ((step (Yielded m z) s).holder y) ≡ is_machine o (s.holder y)
unfolding is_machine
yielded_other s m o z y e n = grind (arith, zone_same)

pub freed_mine : (m : Machine) (h : Option Machine) → is_machine m (freed_by m h) ≡ false
unfolding is_machine
freed_mine m h = grind arith

pub freed_other : (m o : Machine) (h : Option Machine) → same_machine m o ≡ false
    → is_machine o (freed_by m h) ≡ is_machine o h
unfolding is_machine
freed_other m o h n = grind (arith, machine_same)

-- a zone that the robot doesn't hold, one without a job, and one that keeps its jobs
idle : (s : Snapshot) (e : Entry) (z : Zone) → is_robots (cell_of s) z ≡ false
    → is_robots (next e s) z ≡ is_robots (cell_of s) z → KeepsIn (cell_of s) (next e s) z
idle s e z n i = (i, (λ h. grind arith), λ h. grind arith)

turned_job : (c : Situation) (z : Zone) → is_turned_in c z ≡ true → has_job_in c z ≡ true
unfolding is_turned_in has_job_in
turned_job c zone.Z1 h = h
turned_job c _ h = grind arith

jobless : (s : Snapshot) (e : Entry) (z : Zone) → has_job_in (cell_of s) z ≡ false
    → is_robots (next e s) z ≡ is_robots (cell_of s) z → KeepsIn (cell_of s) (next e s) z
jobless s e z n i = (i, (λ h. grind arith), λ h. let t = turned_job (cell_of s) z in grind arith)

busy : (s : Snapshot) (e : Entry) (z : Zone) → is_robots (next e s) z ≡ is_robots (cell_of s) z
    → has_job_in (next e s) z ≡ has_job_in (cell_of s) z → is_turned_in (next e s) z ≡ is_turned_in (cell_of s) z
    → KeepsIn (cell_of s) (next e s) z
busy s e z i j t = (i, (λ h. rw (i, j) h), λ h. rw (i, t) h)

-- a table that is low has no plate to fetch
no_fetch : (s : Snapshot) → axes_of s axis.TableLift ≡ rest pose.Low → has_job_in (cell_of s) zone.Z2 ≡ false
unfolding has_job_in has_job
no_fetch s e = let i : s.at axis.TableLift ≡ pose.Low = ap (λ (t : AxisState). t.at) e in grind arith

-- an axis of another machine starts, or comes to rest, in zones that the robot doesn't hold
abbrev pub Apart : Snapshot → Axis → Type 0
Apart s a = (z : Zone) → runs_in a z ≡ true → is_robots (cell_of s) z ≡ false

keep_motion : (s : Snapshot) (b : Bool) (a : Axis) (to : Pose) (z : Zone)
    → same_machine (machine_of_axis a) machine.Robot ≡ false → Apart s a
    → KeepsIn (cell_of s) (next (motion b a to) s) z
unfolding has_job_in has_job is_turned_in
keep_motion s true a to zone.Z1 m n = (refl, (λ h. h), λ h. h)
keep_motion s b axis.RobotTurn to z m n = cc
keep_motion s b axis.ArmOne to z m n = cc
keep_motion s b axis.ArmTwo to z m n = cc
keep_motion s b axis.TableLift to zone.Z2 m n = idle s (motion b axis.TableLift to) zone.Z2 (n zone.Z2 refl) refl
keep_motion s b axis.TableTurn to zone.Z2 m n = idle s (motion b axis.TableTurn to) zone.Z2 (n zone.Z2 refl) refl
keep_motion s b axis.PressOne to zone.Z3 m n = idle s (motion b axis.PressOne to) zone.Z3 (n zone.Z3 refl) refl
keep_motion s b axis.PressTwo to zone.Z4 m n = idle s (motion b axis.PressTwo to) zone.Z4 (n zone.Z4 refl) refl
keep_motion s b axis.DepositBelt to zone.Z5 m n = idle s (motion b axis.DepositBelt to) zone.Z5 (n zone.Z5 refl) refl
keep_motion s _ _ to _ m n = (refl, (λ h. h), λ h. h)

-- a plate comes to the table, which is low, or to the end of the deposit belt, whose zone the robot doesn't hold
pub keep_table : (s : Snapshot) (k : ℕ) (z : Zone) → axes_of s axis.TableLift ≡ rest pose.Low
    → KeepsIn (cell_of s) (next (Conveyed axis.FeedBelt k station.Table) s) z
unfolding has_job_in has_job is_turned_in
keep_table s k zone.Z2 e = jobless s (Conveyed axis.FeedBelt k station.Table) zone.Z2 (no_fetch s e) refl
keep_table s k _ e = (refl, (λ h. h), λ h. h)

keep_deposit : (s : Snapshot) (k : ℕ) (z : Zone) → is_robots (cell_of s) zone.Z5 ≡ false
    → KeepsIn (cell_of s) (next (Conveyed axis.DepositBelt k station.DepEnd) s) z
unfolding has_job_in has_job is_turned_in
keep_deposit s k zone.Z5 n = idle s (Conveyed axis.DepositBelt k station.DepEnd) zone.Z5 n refl
keep_deposit s k _ n = (refl, (λ h. h), λ h. h)

-- a machine is repaired whose zones the robot doesn't hold
pub keep_repaired : (s : Snapshot) (m : Machine) (z : Zone) → same_machine m machine.Robot ≡ false
    → ((y : Zone) → (same_machine (owner y) m && is_machine (visitor y) (s.holder y)) ≡ false)
    → KeepsIn (cell_of s) (next (Repaired m) s) z
unfolding has_job_in has_job is_turned_in
keep_repaired s m zone.Z1 r n = busy s (Repaired m) zone.Z1 (freed_other m machine.Robot (s.holder zone.Z1) r) refl refl
keep_repaired s machine.Robot z r n = cc
keep_repaired s machine.Table zone.Z2 r n =
    idle s (Repaired machine.Table) zone.Z2 (n zone.Z2)
    (freed_other machine.Table machine.Robot (s.holder zone.Z2) r)
keep_repaired s machine.Press1 zone.Z3 r n =
    idle s (Repaired machine.Press1) zone.Z3 (n zone.Z3)
    (freed_other machine.Press1 machine.Robot (s.holder zone.Z3) r)
keep_repaired s machine.Press2 zone.Z4 r n =
    idle s (Repaired machine.Press2) zone.Z4 (n zone.Z4)
    (freed_other machine.Press2 machine.Robot (s.holder zone.Z4) r)
keep_repaired s machine.Deposit zone.Z5 r n =
    idle s (Repaired machine.Deposit) zone.Z5 (n zone.Z5)
    (freed_other machine.Deposit machine.Robot (s.holder zone.Z5) r)
keep_repaired s m z r n = busy s (Repaired m) z (freed_other m machine.Robot (s.holder z) r) refl refl

-- the table fails while it is low, or what the deposit belt had at its beginning is cleared, since that failed
pub keep_low : (s : Snapshot) (why : Cause) (z : Zone) → axes_of s axis.TableLift ≡ rest pose.Low
    → KeepsIn (cell_of s) (next (Declared machine.Table why) s) z
unfolding has_job_in has_job is_turned_in
keep_low s why zone.Z2 e = jobless s (Declared machine.Table why) zone.Z2 (no_fetch s e) refl
keep_low s why _ e = (refl, (λ h. h), λ h. h)

pub keep_cleared : (s : Snapshot) (k : ℕ) (z : Zone) → s.failed machine.Deposit ≡ true
    → KeepsIn (cell_of s) (next (Quarantined k station.DepIn) s) z
unfolding has_job_in has_job is_turned_in
keep_cleared s k zone.Z5 e = jobless s (Quarantined k station.DepIn) zone.Z5 (none s e) refl
  where
    none : (s : Snapshot) → s.failed machine.Deposit ≡ true → has_job_in (cell_of s) zone.Z5 ≡ false
    none s e = grind arith
keep_cleared s k _ e = (refl, (λ h. h), λ h. h)

-- the parts of all but m are no higher after the entry
abbrev pub Others : Snapshot → Entry → Machine → Type 0
Others s e m = (o : Machine) → same_machine m o ≡ false → part o (next e s) ≤ part o (cell_of s)

pub le_same : (n : ℕ) → n ≤ n
le_same n = omega arith

le_equal : (n m : ℕ) → n ≡ m → n ≤ m
le_equal n m e = omega arith

pub claimed_others : (s : Snapshot) (m : Machine) (z : Zone) → s.holder z ≡ None → Others s (Claimed m z) m
claimed_others s m z e o n =
    le_equal (part o (next (Claimed m z) s)) (part o (cell_of s))
    (part_held (cell_of s) ((step (Claimed m z) s).holder) o (λ y. claimed_other s m o z y e n))

pub yielded_others : (s : Snapshot) (m : Machine) (z : Zone) → s.holder z ≡ Some m → Others s (Yielded m z) m
yielded_others s m z e o n =
    le_equal (part o (next (Yielded m z) s)) (part o (cell_of s))
    (part_held (cell_of s) ((step (Yielded m z) s).holder) o (λ y. yielded_other s m o z y e n))

-- a zone that another machine holds
pub not_robots : (s : Snapshot) (z : Zone) (m : Machine) → s.holder z ≡ Some m → same_machine m machine.Robot ≡ false
    → is_robots (cell_of s) z ≡ false
unfolding is_machine
not_robots s z m e n = rw e n

pub starts_hold : (s : Snapshot) (a : Axis) (to : Pose) (z : Zone) → Allowed s (Started a to)
    → runs_in a z ≡ true → s.holder z ≡ Some (machine_of_axis a)
unfolding is_machine
starts_hold s a to z p r = grind (arith, machine_same)

-- motions start and end
motion_axes : (s : Snapshot) (b : Bool) (a : Axis) (to : Pose)
    → same_machine (machine_of_axis a) machine.Robot ≡ false → SameAxes (cell_of s) (next (motion b a to) s)
motion_axes s true axis.RobotTurn to m = cc
motion_axes s b axis.RobotTurn to m = cc
motion_axes s b axis.ArmOne to m = cc
motion_axes s b axis.ArmTwo to m = cc
motion_axes s _ _ to m = (refl, refl, refl, refl, refl)

pub motion_others : (s : Snapshot) (b : Bool) (a : Axis) (to : Pose)
    → same_machine (machine_of_axis a) machine.Robot ≡ false → Apart s a → Others s (motion b a to) (machine_of_axis a)
motion_others s true a to m w machine.Robot n =
    robot_kept (cell_of s) (next (Started a to) s) (motion_axes s true a to m) (λ z. keep_motion s true a to z m w)
motion_others s b a to m w machine.Robot n =
    robot_kept (cell_of s) (next (motion b a to) s) (motion_axes s b a to m) (λ z. keep_motion s b a to z m w)
motion_others s b axis.RobotTurn to m w o n = cc
motion_others s b axis.ArmOne to m w o n = cc
motion_others s b axis.ArmTwo to m w o n = cc
motion_others s b axis.FeedBelt to m w machine.Feed n = cc
motion_others s b axis.TableLift to m w machine.Table n = cc
motion_others s b axis.TableTurn to m w machine.Table n = cc
motion_others s b axis.PressOne to m w machine.Press1 n = cc
motion_others s b axis.PressTwo to m w machine.Press2 n = cc
motion_others s b axis.DepositBelt to m w machine.Deposit n = cc
motion_others s _ _ to m w o n = le_same (part o (cell_of s))

-- the robot's own motions
pub robot_others : (s : Snapshot) (b : Bool) (a : Axis) (to : Pose)
    → same_machine (machine_of_axis a) machine.Robot ≡ true → Others s (motion b a to) machine.Robot
robot_others s true a to m machine.Robot n = cc
robot_others s b a to m machine.Robot n = cc
robot_others s b axis.RobotTurn to m o n = le_same (part o (cell_of s))
robot_others s b axis.ArmOne to m o n = le_same (part o (cell_of s))
robot_others s b axis.ArmTwo to m o n = le_same (part o (cell_of s))
robot_others s _ _ to m o n = cc

-- a press forges, which it ends at Top, and the deposit belt conveys
pub forged_others : (s : Snapshot) (x : Which) (k : ℕ) → Apart s (press x).axis
    → Others s (Forged (press x).machine k) (press x).machine
unfolding has_work is_there holds_a_zone has_job_in has_job is_turned_in
forged_others s First k w machine.Feed n = motion_others s false axis.PressOne pose.Top refl w machine.Feed n
forged_others s First k w o n = motion_others s false axis.PressOne pose.Top refl w o n
forged_others s Second k w machine.Feed n = motion_others s false axis.PressTwo pose.Top refl w machine.Feed n
forged_others s Second k w o n = motion_others s false axis.PressTwo pose.Top refl w o n

pub conveyed_others : (s : Snapshot) (k : ℕ) → is_robots (cell_of s) zone.Z5 ≡ false
    → Others s (Conveyed axis.DepositBelt k station.DepEnd) machine.Deposit
conveyed_others s k w machine.Robot n =
    robot_kept (cell_of s) (next (Conveyed axis.DepositBelt k station.DepEnd) s) (refl, refl, refl, refl, refl)
    (λ z. keep_deposit s k z w)
conveyed_others s k w machine.Deposit n = cc
conveyed_others s k w o n = le_same (part o (cell_of s))
