-- What is useful, the end of a motion, a sign and a failure are among what can happen
use Rattle.std.proofs.Common.{◌≡◌, ℕ, ◌+◌, Bool, true, false, suc, zero, get_or, List, [], ◌∷◌, ◌++◌, Option, Some}
use Rattle.std.proofs.Common.{None, refl, arith, eq-eqb}
use Rattle.std.specs.Prelude.{◌==◌, ◌≤◌, nat_le, nat_lt, option_to_list}
use Rattle.std.specs.List.{Contains}
use Rattle.std.proofs.lemmas.Bool.Decides.{nat_tests}
use Rattle.std.proofs.lemmas.List.Elements.{Contains-append_left, Contains-append_right}
use Rattle.cell_types.specs.declared.words.Machine.{Machine}
use Rattle.cell_types.specs.declared.words.Machine.TheVariants as machine
use Rattle.cell_types.specs.declared.words.Station.{Station}
use Rattle.cell_types.specs.declared.words.Station.TheVariants as station
use Rattle.cell_types.specs.declared.words.Axis.{Axis}
use Rattle.cell_types.specs.declared.words.Axis.TheVariants as axis
use Rattle.cell_types.specs.declared.words.Pose.{Pose}
use Rattle.cell_types.specs.declared.words.Pose.TheVariants as pose
use Rattle.cell_types.specs.declared.words.Belt.TheVariants as belt
use Rattle.cell_types.specs.declared.words.Colour.{Colour}
use Rattle.cell_types.specs.declared.words.Colour.TheVariants as colour
use Rattle.cell_types.specs.declared.words.Cause.TheVariants as cause
use Rattle.cell_types.specs.declared.words.Entry.{Entry}
use Rattle.cell_types.specs.declared.words.Entry.TheVariants.{Admitted, Arrived, Conveyed, Declared, Delivered, Forged}
use Rattle.cell_types.specs.declared.cell.BeltMotion.{BeltMotion}
use Rattle.cell_types.specs.After.{Snapshot}
use Rattle.cell_types.specs.Cell.{machine_of_axis, motion_to}
use Rattle.cell_types.specs.Same.{pose_number, same_colour}
use Rattle.cell_rules.specs.Situations.{Situation}
use Rattle.cell_rules.specs.First.{ends_by_arrival, first_true, forged_tests, not_going, plate_not_at}
use Rattle.cell_machines.specs.Room.{is_bookable}
use Rattle.cell_machines.specs.Useful.{is_useful_now}
use Rattle.cell_useful.specs.Cells.{ample}
use Rattle.cell_useful.specs.Events.{arrivals_of, arrived, belt_ends_of, conveyed, failure, failures_of}
use Rattle.cell_useful.specs.Events.{forged, laid_in, signs_of, taken_out}
use Rattle.cell_useful.specs.Moves.{acts_of, entries_of}
use Rattle.cell_useful.specs.Rows.{of_plate_where, somes}
use Rattle.cell_useful.specs.Useful.{all_useful, useful_of}
use Rattle.cell_useful.proofs.Listed.{useful_listed}
use Rattle.cell_progress.specs.Orders.{cell_of}

in_somes : (os : List (Option Entry)) (n : ℕ) (e : Entry) → get_or os n None ≡ Some e → Contains (somes os) e
unfolding somes
in_somes [] n e h = cc
in_somes (None ∷ os) zero e h = cc
in_somes (Some x ∷ os) zero e h = Contains-append_left (x ∷ []) (somes os) e (0, omega arith, cc)
in_somes (o ∷ os) (suc n) e h = Contains-append_right (option_to_list o) (somes os) e (in_somes os n e h)

-- lists, each after those before it
abbrev pub joined : List Entry → List (List Entry) → List Entry
joined A [] = A
joined A (B ∷ Bs) = joined (A ++ B) Bs

in_base : (e : Entry) (A : List Entry) (Bs : List (List Entry)) → Contains A e → Contains (joined A Bs) e
in_base e A [] h = h
in_base e A (B ∷ Bs) h = in_base e (A ++ B) Bs (Contains-append_left A B e h)

in_nth : (e : Entry) (A : List Entry) (Bs : List (List Entry)) (n : ℕ) → Contains (get_or Bs n []) e
    → Contains (joined A Bs) e
in_nth e A [] n h = absurd (omega arith)
in_nth e A (B ∷ Bs) zero h = in_base e (A ++ B) Bs (Contains-append_right A B e h)
in_nth e A (B ∷ Bs) (suc n) h = in_nth e (A ++ B) Bs n h

-- what can happen where these machines may yet fail and nobody serves
abbrev pub unserved : (Machine → Bool) → ℕ → Situation → List Entry
unserved now plan c = entries_of plan false now c

module _ (now : Machine → Bool) (plan : ℕ) (c : Situation) (e : Entry) where
  abbrev first : List Entry
  first = useful_of c plan machine.Feed

  abbrev others : List (List Entry)
  others =
      useful_of c plan machine.Table ∷ useful_of c plan machine.Robot ∷ useful_of c plan machine.Press1
      ∷ useful_of c plan machine.Press2 ∷ useful_of c plan machine.Deposit ∷ []

  in_all : (m : Machine) → Contains (useful_of c plan m) e → Contains (all_useful c plan) e
  in_all machine.Feed = in_base e first others
  in_all machine.Table = in_nth e first others 0
  in_all machine.Robot = in_nth e first others 1
  in_all machine.Press1 = in_nth e first others 2
  in_all machine.Press2 = in_nth e first others 3
  in_all machine.Deposit = in_nth e first others 4

  -- what happens beside useful entries
  abbrev events : List (List Entry)
  events = belt_ends_of c ∷ arrivals_of c ∷ signs_of plan c ∷ [] ∷ failures_of now c ∷ []

  pub useful_in : (m : Machine) → is_useful_now ample c plan m e ≡ true → Contains (unserved now plan c) e
  unfolding acts_of entries_of
  useful_in m h = in_base e (all_useful c plan) events (in_all m (useful_listed c plan m e h))

  -- the n-th end of a motion that a plate takes part in
  pub belt_end_in : (n : ℕ)
      → get_or (conveyed c axis.FeedBelt station.FeedIn station.FeedEnd
      ∷ conveyed c axis.FeedBelt station.FeedEnd station.Table
      ∷ conveyed c axis.DepositBelt station.DepIn station.DepEnd ∷ forged c machine.Press1 station.Press1
      ∷ forged c machine.Press2 station.Press2 ∷ []) n None ≡ Some e → Contains (unserved now plan c) e
  unfolding acts_of belt_ends_of entries_of
  belt_end_in n h = in_nth e (all_useful c plan) events 0 (in_somes _ n e h)

  -- the n-th end of another motion
  pub arrival_in : (n : ℕ) → get_or (arrived c axis.TableLift ∷ arrived c axis.TableTurn ∷ arrived c axis.RobotTurn
      ∷ arrived c axis.ArmOne ∷ arrived c axis.ArmTwo ∷ arrived c axis.PressOne ∷ arrived c axis.PressTwo ∷ []) n None
      ≡ Some e → Contains (unserved now plan c) e
  unfolding acts_of arrivals_of entries_of
  arrival_in n h = in_nth e (all_useful c plan) events 1 (in_somes _ n e h)

  pub sign_in : (n : ℕ) → get_or (laid_in plan c ∷ taken_out c ∷ []) n None ≡ Some e → Contains (unserved now plan c) e
  unfolding acts_of entries_of signs_of
  sign_in n h = in_nth e (all_useful c plan) events 2 (in_somes _ n e h)

  -- the n-th machine's failure
  failure_in : (n : ℕ)
      → get_or (failure now c machine.Feed ∷ failure now c machine.Table ∷ failure now c machine.Robot
      ∷ failure now c machine.Press1 ∷ failure now c machine.Press2 ∷ failure now c machine.Deposit ∷ []) n None
      ≡ Some e → Contains (unserved now plan c) e
  unfolding acts_of entries_of failures_of
  failure_in n h = in_nth e (all_useful c plan) events 4 (in_somes _ n e h)

-- where a plate is there and its entry may be booked, that is the entry
plate_entry : (p : Entry → Bool) (f : ℕ → Entry) (o : Option ℕ) (k : ℕ) → o ≡ Some k → p (f k) ≡ true
    → of_plate_where p f o ≡ Some (f k)
plate_entry p f o k at h = rw (at, h) refl

green : (c : Colour) → same_colour c colour.Green ≡ true → c ≡ colour.Green
green colour.Red h = cc
green colour.Green h = refl

same : (n : ℕ) → (n == n) ≡ true
same n = eq-eqb n n refl

-- the ends of motions

pub conveyed_is : (s : Snapshot) (a : Axis) (k : ℕ) (m : BeltMotion) → motion_to a m.dest ≡ Some m
    → s.failed (machine_of_axis a) ≡ false → s.going a ≡ Some m.to → s.plate m.from ≡ Some k
    → conveyed (cell_of s) a m.from m.dest ≡ Some (Conveyed a k m.dest)
unfolding is_bookable first_true
conveyed_is s a k m is healthy going at =
    plate_entry (is_bookable ample (cell_of s)) (λ k. Conveyed a k m.dest) (s.plate m.from) k at
    (rw (healthy, is, going, same (pose_number m.to), at, same k) refl)

pub arrived_is : (s : Snapshot) (a : Axis) (to : Pose) → s.failed (machine_of_axis a) ≡ false → s.going a ≡ Some to
    → ends_by_arrival a to ≡ true → arrived (cell_of s) a ≡ Some (Arrived a to)
unfolding is_bookable first_true
arrived_is s a to healthy going ends = rw (going, healthy, same (pose_number to), ends) refl

-- of a press, whose axis and station its tests tell
pub forged_is : (s : Snapshot) (m : Machine) (a : Axis) (t : Station) (k : ℕ)
    → forged_tests (cell_of s) m k ≡ not_going (cell_of s) a pose.Top ∷ plate_not_at (cell_of s) t k ∷ []
    → s.failed m ≡ false → s.going a ≡ Some pose.Top → s.plate t ≡ Some k
    → forged (cell_of s) m t ≡ Some (Forged m k)
unfolding is_bookable first_true
forged_is s m a t k tests healthy going at =
    plate_entry (is_bookable ample (cell_of s)) (λ k. Forged m k) (s.plate t) k at
    (rw (healthy, tests, going, at, same k) refl)

pub delivered_is : (s : Snapshot) (k : ℕ) → s.failed machine.Deposit ≡ false
    → same_colour (s.lamp belt.Deposit) colour.Green ≡ true → s.plate station.DepEnd ≡ Some k
    → taken_out (cell_of s) ≡ Some (Delivered k)
unfolding is_bookable first_true
delivered_is s k healthy lit at =
    plate_entry (is_bookable ample (cell_of s)) (λ k. Delivered k) (s.plate station.DepEnd) k at
    (rw (healthy, at, same k, green (s.lamp belt.Deposit) lit) refl)

pub admitted_is : (plan : ℕ) (s : Snapshot) → plan ≤ 100000 → s.failed machine.Feed ≡ false
    → same_colour (s.lamp belt.Feed) colour.Green ≡ true → s.expected ≡ None → nat_lt s.admitted plan ≡ true
    → laid_in plan (cell_of s) ≡ Some (Admitted (s.admitted + 1))
unfolding is_bookable first_true
admitted_is plan s most healthy lit none next =
    let room : nat_le 100000 s.admitted ≡ false = grind (arith, nat_tests) in
    rw (next, room, healthy, same (s.admitted + 1), green (s.lamp belt.Feed) lit, none) refl

-- a healthy machine that may yet fail can fail

failure_is : (now : Machine → Bool) (s : Snapshot) (m : Machine) → now m ≡ true → s.failed m ≡ false
    → failure now (cell_of s) m ≡ Some (Declared m cause.CommandFault)
unfolding is_bookable first_true
failure_is now s m can healthy = rw (can, healthy) refl

pub failure_among : (now : Machine → Bool) (plan : ℕ) (s : Snapshot) (m : Machine) → now m ≡ true → s.failed m ≡ false
    → Contains (unserved now plan (cell_of s)) (Declared m cause.CommandFault)
failure_among now plan s m can healthy = at_machine m (failure_is now s m can healthy)
  where
    at_machine : (m : Machine) → failure now (cell_of s) m ≡ Some (Declared m cause.CommandFault)
        → Contains (unserved now plan (cell_of s)) (Declared m cause.CommandFault)
    at_machine machine.Feed h = failure_in now plan (cell_of s) _ 0 h
    at_machine machine.Table h = failure_in now plan (cell_of s) _ 1 h
    at_machine machine.Robot h = failure_in now plan (cell_of s) _ 2 h
    at_machine machine.Press1 h = failure_in now plan (cell_of s) _ 3 h
    at_machine machine.Press2 h = failure_in now plan (cell_of s) _ 4 h
    at_machine machine.Deposit h = failure_in now plan (cell_of s) _ 5 h
