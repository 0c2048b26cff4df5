-- What is among the entries that can happen
use Rattle.std.proofs.Common.{◌≡◌, ℕ, ◌+◌, Bool, true, false, ◌&&◌, Option, Some, List, [], ◌∷◌, ◌++◌, map, refl, sym}
use Rattle.std.proofs.Common.{subst, arith}
use Rattle.std.specs.Prelude.{nat_lt, option_to_list}
use Rattle.std.specs.Option.{option_and_then}
use Rattle.std.specs.List.{All, Contains}
use Rattle.std.proofs.lemmas.List.Elements.{All-nil, All-cons, All-weaker, All-contains, Contains-append_left}
use Rattle.std.proofs.lemmas.List.Elements.{Contains-append_right}
use Rattle.cell_types.specs.declared.words.Machine.{Machine}
use Rattle.cell_types.specs.declared.words.Station.{Station}
use Rattle.cell_types.specs.declared.words.Axis.{Axis}
use Rattle.cell_types.specs.declared.words.Pose.{Pose}
use Rattle.cell_types.specs.declared.words.Cause.{Cause}
use Rattle.cell_types.specs.declared.words.Entry.{Entry}
use Rattle.cell_types.specs.declared.words.Entry.TheVariants.{Admitted, Arrived, Conveyed, Declared, Delivered, Forged}
use Rattle.cell_types.specs.declared.words.Entry.TheVariants.{Quarantined, Repaired}
use Rattle.cell_rules.specs.First.{ends_by_arrival}
use Rattle.cell_rules.specs.Last.{when}
use Rattle.cell_rules.specs.Situations.{Situation}
use Rattle.cell_rules.proofs.Safe.Facts.{and_true}
use Rattle.cell_machines.specs.Room.{is_bookable}
use Rattle.cell_machines.specs.Useful.{is_useful_now, wants}
use Rattle.cell_useful.specs.Cells.{ample}
use Rattle.cell_useful.specs.Events.{arrivals_of, arrived, belt_ends_of, cleared, clearings_of, failure, failures_of}
use Rattle.cell_useful.specs.Events.{repaired, repairs_of, signs_of}
use Rattle.cell_useful.specs.Moves.{acts_of, entries_of, operator_of, stations}
use Rattle.cell_useful.specs.Rows.{somes}
use Rattle.cell_useful.specs.Useful.{all_useful, useful_of}
use Rattle.cell_useful.proofs.Listed.{useful_listed}
use Rattle.cell_progress.proofs.Happening.{Sign, arriving, machines, sign}
use Rattle.cell_progress.proofs.Happening.{conveys, enters, forges, goes}

when_true : (b : Bool) (e : Entry) → b ≡ true → when b e ≡ Some e
when_true true e h = refl
when_true false e h = cc

-- the entry of what is there, where the test passes it
found : {X : Type 0} (test : Entry → Bool) (f : X → Entry) (o : Option X) (x : X) → o ≡ Some x → test (f x) ≡ true
    → option_and_then (λ y. when (test (f y)) (f y)) o ≡ Some (f x)
found test f o x there h =
    subst (λ p. option_and_then (λ y. when (test (f y)) (f y)) p ≡ Some (f x)) (sym there)
    (when_true (test (f x)) (f x) h)

one : (o : Option Entry) (e : Entry) → o ≡ Some e → Contains (option_to_list o) e
one o e h = subst (λ (p : Option Entry). Contains (option_to_list p) e) (sym h) (0, omega arith, refl)

-- shown of all at once, for use on any that the list contains
all_some : {X : Type 0} (f : X → Option Entry) (xs : List X)
    → All (λ x. (e : Entry) → f x ≡ Some e → Contains (somes (map f xs)) e) xs
unfolding somes
all_some f [] = All-nil (λ x. (e : Entry) → f x ≡ Some e → Contains (somes (map f [])) e)
all_some f (x ∷ xs) =
    All-cons (λ y. (e : Entry) → f y ≡ Some e → Contains (somes (map f (x ∷ xs))) e) x xs
    (λ e h. Contains-append_left (option_to_list (f x)) (somes (map f xs)) e (one (f x) e h))
    (All-weaker (λ y. (e : Entry) → f y ≡ Some e → Contains (somes (map f xs)) e)
    (λ y. (e : Entry) → f y ≡ Some e → Contains (somes (map f (x ∷ xs))) e)
    (λ y g e h. Contains-append_right (option_to_list (f x)) (somes (map f xs)) e (g e h)) xs (all_some f xs))

some_there : {X : Type 0} (f : X → Option Entry) (xs : List X) (x : X) (e : Entry) → Contains xs x → f x ≡ Some e
    → Contains (somes (map f xs)) e
some_there f xs x e there h =
    All-contains (λ y. (e : Entry) → f y ≡ Some e → Contains (somes (map f xs)) e) xs x (all_some f xs) there e h

machine_there : (m : Machine) → Contains machines m
machine_there Machine.Feed = (0, omega arith, refl)
machine_there Machine.Table = (1, omega arith, refl)
machine_there Machine.Robot = (2, omega arith, refl)
machine_there Machine.Press1 = (3, omega arith, refl)
machine_there Machine.Press2 = (4, omega arith, refl)
machine_there Machine.Deposit = (5, omega arith, refl)

station_there : (t : Station) → Contains stations t
station_there Station.FeedIn = (0, omega arith, refl)
station_there Station.FeedEnd = (1, omega arith, refl)
station_there Station.Table = (2, omega arith, refl)
station_there Station.Arm1 = (3, omega arith, refl)
station_there Station.Arm2 = (4, omega arith, refl)
station_there Station.Press1 = (5, omega arith, refl)
station_there Station.Press2 = (6, omega arith, refl)
station_there Station.DepIn = (7, omega arith, refl)
station_there Station.DepEnd = (8, omega arith, refl)

axis_there : (a : Axis) (p : Pose) → ends_by_arrival a p ≡ true → Contains arriving a
axis_there Axis.FeedBelt p h = cc
axis_there Axis.TableLift p h = (0, omega arith, refl)
axis_there Axis.TableTurn p h = (1, omega arith, refl)
axis_there Axis.RobotTurn p h = (2, omega arith, refl)
axis_there Axis.ArmOne p h = (3, omega arith, refl)
axis_there Axis.ArmTwo p h = (4, omega arith, refl)
axis_there Axis.PressOne p h = (5, omega arith, refl)
axis_there Axis.PressTwo p h = (6, omega arith, refl)
axis_there Axis.DepositBelt p h = cc

abbrev pub belt_ends : List Sign
belt_ends =
    conveys Axis.FeedBelt Station.FeedIn Station.FeedEnd ∷ conveys Axis.FeedBelt Station.FeedEnd Station.Table
    ∷ conveys Axis.DepositBelt Station.DepIn Station.DepEnd ∷ forges Machine.Press1 Station.Press1
    ∷ forges Machine.Press2 Station.Press2 ∷ []

module _ (plan : ℕ) (serves : Bool) (may : Machine → Bool) (c : Situation) (e : Entry) where
  abbrev pub There : Type 0
  There = Contains (entries_of plan serves may c) e

  act : Contains (acts_of plan serves c) e → There
  unfolding entries_of
  act h = Contains-append_left (acts_of plan serves c) (failures_of may c) e h

  abbrev ends : List Entry
  ends = all_useful c plan ++ belt_ends_of c

  among_signs : Contains (ends ++ arrivals_of c ++ signs_of plan c) e → There
  unfolding acts_of
  among_signs h = act (Contains-append_left (ends ++ arrivals_of c ++ signs_of plan c) (operator_of serves c) e h)

  among_ends : Contains ends e → There
  among_ends h =
      among_signs (Contains-append_left (ends ++ arrivals_of c) (signs_of plan c) e
      (Contains-append_left ends (arrivals_of c) e h))

  among_useful : Contains (all_useful c plan) e → There
  among_useful h = among_ends (Contains-append_left (all_useful c plan) (belt_ends_of c) e h)

  abbrev of : Machine → List Entry
  of m = useful_of c plan m

  useful_by : (m : Machine) → Contains (of m) e → Contains (all_useful c plan) e
  useful_by Machine.Feed h =
      Contains-append_left _ (of Machine.Deposit) e (Contains-append_left _ (of Machine.Press2) e
      (Contains-append_left _ (of Machine.Press1) e (Contains-append_left _ (of Machine.Robot) e
      (Contains-append_left (of Machine.Feed) (of Machine.Table) e h))))
  useful_by Machine.Table h =
      Contains-append_left _ (of Machine.Deposit) e (Contains-append_left _ (of Machine.Press2) e
      (Contains-append_left _ (of Machine.Press1) e (Contains-append_left _ (of Machine.Robot) e
      (Contains-append_right (of Machine.Feed) (of Machine.Table) e h))))
  useful_by Machine.Robot h =
      Contains-append_left _ (of Machine.Deposit) e (Contains-append_left _ (of Machine.Press2) e
      (Contains-append_left _ (of Machine.Press1) e
      (Contains-append_right (of Machine.Feed ++ of Machine.Table) (of Machine.Robot) e h)))
  useful_by Machine.Press1 h =
      Contains-append_left _ (of Machine.Deposit) e (Contains-append_left _ (of Machine.Press2) e
      (Contains-append_right (of Machine.Feed ++ of Machine.Table ++ of Machine.Robot) (of Machine.Press1) e h))
  useful_by Machine.Press2 h =
      Contains-append_left _ (of Machine.Deposit) e
      (Contains-append_right (of Machine.Feed ++ of Machine.Table ++ of Machine.Robot ++ of Machine.Press1)
      (of Machine.Press2) e h)
  useful_by Machine.Deposit h =
      Contains-append_right
      (of Machine.Feed ++ of Machine.Table ++ of Machine.Robot ++ of Machine.Press1 ++ of Machine.Press2)
      (of Machine.Deposit) e h

  pub wanted_there : (m : Machine) → wants ample c plan m e ≡ true → is_bookable ample c e ≡ true → There
  unfolding is_useful_now
  wanted_there m w h = among_useful (useful_by m (useful_listed c plan m e (and_true _ _ w h)))

  belt_there : (x : Sign) → Contains belt_ends x → sign plan c x ≡ Some e → There
  unfolding belt_ends_of
  belt_there x h g =
      among_ends (Contains-append_right (all_useful c plan) (belt_ends_of c) e
      (some_there (sign plan c) belt_ends x e h g))

  sign_there : (x : Sign) → Contains (enters ∷ goes ∷ []) x → sign plan c x ≡ Some e → There
  unfolding signs_of
  sign_there x h g =
      among_signs (Contains-append_right (ends ++ arrivals_of c) (signs_of plan c) e
      (some_there (sign plan c) (enters ∷ goes ∷ []) x e h g))

  arrival_there : (a : Axis) (p : Pose) → ends_by_arrival a p ≡ true → arrived c a ≡ Some e → There
  unfolding arrivals_of
  arrival_there a p h g =
      among_signs (Contains-append_left (ends ++ arrivals_of c) (signs_of plan c) e
      (Contains-append_right ends (arrivals_of c) e (some_there (arrived c) arriving a e (axis_there a p h) g)))

  failure_there : (m : Machine) → failure may c m ≡ Some e → There
  unfolding entries_of failures_of
  failure_there m g =
      Contains-append_right (acts_of plan serves c) (failures_of may c) e
      (some_there (failure may c) machines m e (machine_there m) g)

  service_there : serves ≡ true → Contains (clearings_of c ++ repairs_of c) e → There
  unfolding acts_of
  service_there s h =
      act (Contains-append_right (ends ++ arrivals_of c ++ signs_of plan c) (operator_of serves c) e
      (subst (λ (b : Bool). Contains (operator_of b c) e) (sym s) h))

  clearing_there : serves ≡ true → (t : Station) → cleared c t ≡ Some e → There
  unfolding clearings_of
  clearing_there s t g =
      service_there s (Contains-append_left (clearings_of c) (repairs_of c) e
      (some_there (cleared c) stations t e (station_there t) g))

  repair_there : serves ≡ true → (m : Machine) → repaired c m ≡ Some e → There
  unfolding repairs_of
  repair_there s m g =
      service_there s (Contains-append_right (clearings_of c) (repairs_of c) e
      (some_there (repaired c) machines m e (machine_there m) g))

-- each kind of entry that may be booked is among those that can happen, where it is due
module _ (plan : ℕ) (serves : Bool) (may : Machine → Bool) (c : Situation) where
  pub arrived_there : (a : Axis) (p : Pose) → c.going a ≡ Some p → ends_by_arrival a p ≡ true
      → is_bookable ample c (Arrived a p) ≡ true → There plan serves may c (Arrived a p)
  arrived_there a p g h b =
      arrival_there plan serves may c (Arrived a p) a p h
      (found (is_bookable ample c) (λ q. Arrived a q) (c.going a) p g b)

  pub conveyed_there : (a : Axis) (k : ℕ) (from dest : Station) → Contains belt_ends (conveys a from dest)
      → c.plate from ≡ Some k → is_bookable ample c (Conveyed a k dest) ≡ true
      → There plan serves may c (Conveyed a k dest)
  conveyed_there a k from dest h g b =
      belt_there plan serves may c (Conveyed a k dest) (conveys a from dest) h
      (found (is_bookable ample c) (λ j. Conveyed a j dest) (c.plate from) k g b)

  pub forged_there : (m : Machine) (k : ℕ) (t : Station) → Contains belt_ends (forges m t) → c.plate t ≡ Some k
      → is_bookable ample c (Forged m k) ≡ true → There plan serves may c (Forged m k)
  forged_there m k t h g b =
      belt_there plan serves may c (Forged m k) (forges m t) h
      (found (is_bookable ample c) (λ j. Forged m j) (c.plate t) k g b)

  pub delivered_there : (k : ℕ) → c.plate Station.DepEnd ≡ Some k → is_bookable ample c (Delivered k) ≡ true
      → There plan serves may c (Delivered k)
  delivered_there k g b =
      sign_there plan serves may c (Delivered k) goes (1, omega arith, refl)
      (found (is_bookable ample c) (λ j. Delivered j) (c.plate Station.DepEnd) k g b)

  pub admitted_there : (k : ℕ) → k ≡ c.admitted + 1 → nat_lt c.admitted plan ≡ true
      → is_bookable ample c (Admitted k) ≡ true → There plan serves may c (Admitted k)
  admitted_there k same n b =
      let next : is_bookable ample c (Admitted (c.admitted + 1)) ≡ true =
      subst (λ (j : ℕ). is_bookable ample c (Admitted j) ≡ true) same b in
      subst (λ (j : ℕ). There plan serves may c (Admitted j)) (sym same)
      (sign_there plan serves may c (Admitted (c.admitted + 1)) enters (0, omega arith, refl)
      (when_true (nat_lt c.admitted plan && is_bookable ample c (Admitted (c.admitted + 1))) (Admitted (c.admitted + 1))
      (and_true _ _ n next)))

  pub declared_there : (m : Machine) (why : Cause) → why ≡ Cause.CommandFault → may m ≡ true
      → is_bookable ample c (Declared m why) ≡ true → There plan serves may c (Declared m why)
  declared_there m why same n b =
      let fault : is_bookable ample c (Declared m Cause.CommandFault) ≡ true =
      subst (λ (w : Cause). is_bookable ample c (Declared m w) ≡ true) same b in
      subst (λ (w : Cause). There plan serves may c (Declared m w)) (sym same)
      (failure_there plan serves may c (Declared m Cause.CommandFault) m
      (when_true (may m && is_bookable ample c (Declared m Cause.CommandFault)) (Declared m Cause.CommandFault)
      (and_true _ _ n fault)))

  pub cleared_there : serves ≡ true → (k : ℕ) (t : Station) → c.plate t ≡ Some k
      → is_bookable ample c (Quarantined k t) ≡ true → There plan serves may c (Quarantined k t)
  cleared_there s k t g b =
      clearing_there plan serves may c (Quarantined k t) s t
      (found (is_bookable ample c) (λ j. Quarantined j t) (c.plate t) k g b)

  pub repaired_there : serves ≡ true → (m : Machine) → is_bookable ample c (Repaired m) ≡ true
      → There plan serves may c (Repaired m)
  repaired_there s m b =
      repair_there plan serves may c (Repaired m) s m (when_true (is_bookable ample c (Repaired m)) (Repaired m) b)
