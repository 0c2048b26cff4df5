-- Where nothing can happen, healthy machines are at rest and wait
use Rattle.std.proofs.Common.{◌≡◌, ◌≢◌, ℕ, true, false, Some, None, is_some, List, [], ◌∷◌, arith, ◌⊎◌, Bool, refl}
use Rattle.cell_types.specs.declared.words.Machine.{Machine}
use Rattle.cell_types.specs.declared.words.Station.{Station}
use Rattle.cell_types.specs.declared.words.Axis.{Axis}
use Rattle.cell_types.specs.declared.words.Pose.{Pose}
use Rattle.cell_types.specs.declared.words.Zone.{Zone}
use Rattle.cell_types.specs.declared.words.Entry.{Entry}
use Rattle.cell_types.specs.declared.cell.Press.{Press}
use Rattle.cell_types.specs.Cell.{machine_of_axis, owner, visitor}
use Rattle.cell_types.specs.Same.{same_pose}
use Rattle.cell_types.specs.After.{Snapshot, is_machine}
use Rattle.cell_rules.specs.First.{first_true, ends_by_arrival}
use Rattle.cell_rules.proofs.Carried.{Carried}
use Rattle.cell_rules.proofs.Safe.Facts.{pose_same, axes_of}
use Rattle.cell_rules.proofs.Safe.Motion.{MotionSafe, fits}
use Rattle.cell_machines.specs.Room.{is_bookable, is_refused_otherwise}
use Rattle.cell_machines.specs.Useful.{is_useful_now}
use Rattle.cell_machines.specs.Candidates.{candidates}
use Rattle.cell_machines.specs.Lights.{deposit_light}
use Rattle.cell_useful.specs.Cells.{ample}
use Rattle.cell_useful.specs.Events.{arrived, conveyed, forged, taken_out}
use Rattle.cell_progress.specs.Orders.{cell_of}

-- the entry isn't useful for the machine
abbrev pub Not : ℕ → Snapshot → Machine → Entry → Type 0
Not plan s m e = is_useful_now ample (cell_of s) plan m e ≡ false

-- the zone's holder is its owner or its visitor, if it has one
abbrev pub IsNear : Snapshot → Zone → Type 0
IsNear s z = (s.holder z ≡ None) ⊎ ((s.holder z ≡ Some (owner z)) ⊎ (s.holder z ≡ Some (visitor z)))

-- what the invariants say
pub record Kept (s : Snapshot) : Type 0 where
  pub motion : MotionSafe (axes_of s) s.holder
  pub carried : Carried s
  pub near : (z : Zone) → IsNear s z
  pub top_one : s.at Axis.PressOne ≡ Pose.Top → s.holder Zone.Z3 ≡ Some Machine.Press1
  pub top_two : s.at Axis.PressTwo ≡ Pose.Top → s.holder Zone.Z4 ≡ Some Machine.Press2
  pub expected : s.expected ≡ None

pub not_so : (b : Bool) → (b ≡ true → ⊥) → b ≡ false
not_so true h = absurd (h refl)
not_so false h = refl

-- one press or the other
pub data Which : Type 0 where
  First : Which
  Second : Which

abbrev pub press : Which → Press
press First =
    record { machine = Machine.Press1; axis = Axis.PressOne; zone = Zone.Z3; station = Station.Press1 }
press Second =
    record { machine = Machine.Press2; axis = Axis.PressTwo; zone = Zone.Z4; station = Station.Press2 }

-- the table is at its target and keeps no zone
pub record TableWaits (s : Snapshot) : Type 0 where
  pub healthy : s.failed Machine.Table ≡ false
  pub lift : s.going Axis.TableLift ≡ None
  pub turn : s.going Axis.TableTurn ≡ None
  pub empty : s.plate Station.Table ≡ None → (s.at Axis.TableLift ≡ Pose.Low) × (s.at Axis.TableTurn ≡ Pose.Belt)
  pub full : is_some (s.plate Station.Table) ≡ true
      → (s.at Axis.TableLift ≡ Pose.High) × (s.at Axis.TableTurn ≡ Pose.Robot)
  pub one : s.holder Zone.Z1 ≡ None
  pub two : s.holder Zone.Z2 ≡ None

-- a healthy press waits empty in the middle, or with a plate at the bottom, and keeps no zone
pub record PressWaits (s : Snapshot) (p : Which) : Type 0 where
  pub healthy : s.failed (press p).machine ≡ false
  pub still : s.going (press p).axis ≡ None
  pub free : s.holder (press p).zone ≡ None
  pub full : is_some (s.plate (press p).station) ≡ true → s.at (press p).axis ≡ Pose.Bottom
  pub empty : s.plate (press p).station ≡ None → s.at (press p).axis ≡ Pose.Middle

-- Deposit has no plate and keeps no zone
pub record DepositWaits (s : Snapshot) : Type 0 where
  pub healthy : s.failed Machine.Deposit ≡ false
  pub still : s.going Axis.DepositBelt ≡ None
  pub back : s.plate Station.DepEnd ≡ None
  pub front : s.plate Station.DepIn ≡ None
  pub free : s.holder Zone.Z5 ≡ None

pose_is : (p : Pose) → same_pose p p ≡ true
pose_is p = grind arith

-- an axis all of whose motions end by Arrived
pub axis_rests : (s : Snapshot) (a : Axis) → ((p : Pose) → ends_by_arrival a p ≡ true)
    → s.failed (machine_of_axis a) ≡ false → arrived (cell_of s) a ≡ None → s.going a ≡ None
unfolding is_bookable first_true
axis_rests s a n f e = grind (arith, pose_is)

pub press_rests : (s : Snapshot) (p : Which) → s.failed (press p).machine ≡ false
    → arrived (cell_of s) (press p).axis ≡ None → forged (cell_of s) (press p).machine (press p).station ≡ None
    → (s.going (press p).axis ≡ Some Pose.Top → is_some (s.plate (press p).station) ≡ true)
    → s.going (press p).axis ≡ None
unfolding is_bookable first_true
press_rests s First f e g h = grind arith
press_rests s Second f e g h = grind arith

pub feed_rests : (s : Snapshot) → s.failed Machine.Feed ≡ false → fits Axis.FeedBelt (axes_of s Axis.FeedBelt) ≡ true
    → conveyed (cell_of s) Axis.FeedBelt Station.FeedIn Station.FeedEnd ≡ None
    → conveyed (cell_of s) Axis.FeedBelt Station.FeedEnd Station.Table ≡ None
    → (s.going Axis.FeedBelt ≡ Some Pose.ToEnd → is_some (s.plate Station.FeedIn) ≡ true)
    → (s.going Axis.FeedBelt ≡ Some Pose.ToTable → is_some (s.plate Station.FeedEnd) ≡ true)
    → s.going Axis.FeedBelt ≡ None
unfolding is_bookable first_true
feed_rests s f w e g h k = grind arith

pub deposit_rests : (s : Snapshot) → s.failed Machine.Deposit ≡ false
    → fits Axis.DepositBelt (axes_of s Axis.DepositBelt) ≡ true
    → conveyed (cell_of s) Axis.DepositBelt Station.DepIn Station.DepEnd ≡ None
    → (s.going Axis.DepositBelt ≡ Some Pose.ToEnd → is_some (s.plate Station.DepIn) ≡ true)
    → s.going Axis.DepositBelt ≡ None
unfolding is_bookable first_true
deposit_rests s f w e h = grind arith

-- none of what the machine may want is useful
abbrev Nots : ℕ → Snapshot → Machine → List Entry → Type 0
Nots plan s m [] = Unit {0}
Nots plan s m (e ∷ es) = Not plan s m e × Nots plan s m es

abbrev pub WantsNone : ℕ → Snapshot → Machine → Type 0
WantsNone plan s m = Nots plan s m (candidates (cell_of s) m)

pub wants_none : (s : Snapshot) (plan : ℕ) (m : Machine) → ((e : Entry) → Not plan s m e) → WantsNone plan s m
wants_none s plan m u = none (candidates (cell_of s) m)
  where
    none : (es : List Entry) → Nots plan s m es
    none [] = tt
    none (e ∷ es) = (u e, none es)

-- Feed doesn't keep Z1
pub feed_free : (s : Snapshot) (plan : ℕ) → s.failed Machine.Feed ≡ false → s.going Axis.FeedBelt ≡ None
    → WantsNone plan s Machine.Feed → s.holder Zone.Z1 ≢ Some Machine.Feed
unfolding is_useful_now is_bookable is_refused_otherwise first_true is_machine candidates
feed_free s plan f g u h = grind arith

pub table_waits : (s : Snapshot) (plan : ℕ) → s.failed Machine.Table ≡ false → s.going Axis.TableLift ≡ None
    → s.going Axis.TableTurn ≡ None → fits Axis.TableLift (axes_of s Axis.TableLift) ≡ true
    → fits Axis.TableTurn (axes_of s Axis.TableTurn) ≡ true → IsNear s Zone.Z1 → IsNear s Zone.Z2
    → s.holder Zone.Z1 ≢ Some Machine.Feed → s.holder Zone.Z2 ≢ Some Machine.Robot
    → WantsNone plan s Machine.Table → TableWaits s
unfolding is_useful_now is_bookable first_true is_machine candidates
table_waits s plan f g k p q n1 n2 w1 w2 u = grind (arith, pose_same)

pub press_waits : (s : Snapshot) (plan : ℕ) (p : Which) → s.failed (press p).machine ≡ false
    → s.going (press p).axis ≡ None → fits (press p).axis (axes_of s (press p).axis) ≡ true
    → IsNear s (press p).zone → s.holder (press p).zone ≢ Some Machine.Robot
    → (s.at (press p).axis ≡ Pose.Top → s.holder (press p).zone ≡ Some (press p).machine)
    → WantsNone plan s (press p).machine → PressWaits s p
unfolding is_useful_now is_bookable first_true is_machine candidates
press_waits s plan First f g p n w t u = grind (arith, pose_same)
press_waits s plan Second f g p n w t u = grind (arith, pose_same)

pub deposit_waits : (s : Snapshot) (plan : ℕ) → s.failed Machine.Deposit ≡ false → s.going Axis.DepositBelt ≡ None
    → IsNear s Zone.Z5 → s.holder Zone.Z5 ≢ Some Machine.Robot → taken_out (cell_of s) ≡ None
    → WantsNone plan s Machine.Deposit → DepositWaits s
unfolding is_useful_now is_bookable first_true is_machine deposit_light candidates
deposit_waits s plan f g n w t u = grind (arith, pose_same)
