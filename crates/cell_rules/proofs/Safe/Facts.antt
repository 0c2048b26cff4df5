-- What the tests tell, as equations.
use Rattle.std.proofs.Common.{◌≡◌, ℕ, Bool, true, false, ◌==◌, ◌&&◌, ◌||◌, not, List, [], ◌∷◌, ◌++◌, Option, Some, None}
use Rattle.std.proofs.Common.{is_some, is_none, refl, sym, ap, ◌∙◌, eqb-true, get_or}
use Rattle.cell_types.specs.declared.words.Machine.{Machine}
use Rattle.cell_types.specs.declared.words.Station.{Station}
use Rattle.cell_types.specs.declared.words.Axis.{Axis}
use Rattle.cell_types.specs.declared.words.Pose.{Pose}
use Rattle.cell_types.specs.declared.words.Zone.{Zone}
use Rattle.cell_types.specs.declared.words.Belt.{Belt}
use Rattle.cell_types.specs.declared.words.Colour.{Colour}
use Rattle.cell_types.specs.declared.words.AxisState.{AxisState}
use Rattle.cell_types.specs.Same.{same_machine, same_station, same_axis, same_pose, same_zone, same_belt, same_colour}
use Rattle.cell_types.specs.Same.{machine_number, station_number, axis_number, pose_number, zone_number, belt_number}
use Rattle.cell_types.specs.Same.{colour_number}
use Rattle.cell_rules.specs.declared.refusal.Refusal.{Refusal}
use Rattle.cell_rules.specs.First.{first_true, is_pose, rests_at}
use Rattle.cell_types.specs.After.{is_machine, Snapshot, is_plate}
use Rattle.cell_rules.specs.SituationIn.{situation_in}

-- words with one number are one word
all_machine : List Machine
all_machine = Machine.Feed ∷ Machine.Table ∷ Machine.Robot ∷ Machine.Press1 ∷ Machine.Press2 ∷ Machine.Deposit ∷ []

machine_back : (x : Machine) → get_or all_machine (machine_number x) Machine.Feed ≡ x
unfolding all_machine
machine_back Machine.Feed = refl
machine_back _ = refl

pub machine_same : (x y : Machine) → same_machine x y ≡ true → x ≡ y
machine_same x y h =
    sym (machine_back x)
    ∙ (ap (λ (n : ℕ). get_or all_machine n Machine.Feed) (eqb-true (machine_number x) (machine_number y) h)
    ∙ machine_back y)

all_station : List Station
all_station = Station.FeedIn ∷ Station.FeedEnd ∷ Station.Table ∷ Station.Arm1 ∷ Station.Arm2 ∷ Station.Press1
    ∷ Station.Press2 ∷ Station.DepIn ∷ Station.DepEnd ∷ []

station_back : (x : Station) → get_or all_station (station_number x) Station.FeedIn ≡ x
unfolding all_station
station_back Station.FeedIn = refl
station_back _ = refl

pub station_same : (x y : Station) → same_station x y ≡ true → x ≡ y
station_same x y h =
    sym (station_back x)
    ∙ (ap (λ (n : ℕ). get_or all_station n Station.FeedIn) (eqb-true (station_number x) (station_number y) h)
    ∙ station_back y)

all_axis : List Axis
all_axis = Axis.FeedBelt ∷ Axis.TableLift ∷ Axis.TableTurn ∷ Axis.RobotTurn ∷ Axis.ArmOne ∷ Axis.ArmTwo ∷ Axis.PressOne
    ∷ Axis.PressTwo ∷ Axis.DepositBelt ∷ []

axis_back : (x : Axis) → get_or all_axis (axis_number x) Axis.FeedBelt ≡ x
unfolding all_axis
axis_back Axis.FeedBelt = refl
axis_back _ = refl

pub axis_same : (x y : Axis) → same_axis x y ≡ true → x ≡ y
axis_same x y h =
    sym (axis_back x)
    ∙ (ap (λ (n : ℕ). get_or all_axis n Axis.FeedBelt) (eqb-true (axis_number x) (axis_number y) h) ∙ axis_back y)

all_pose : List Pose
all_pose = Pose.Rest ∷ Pose.ToEnd ∷ Pose.ToTable ∷ Pose.Low ∷ Pose.High ∷ Pose.Belt ∷ Pose.Robot ∷ Pose.Table1
    ∷ Pose.P1Load ∷ Pose.P1Unload ∷ Pose.P2Load ∷ Pose.P2Unload ∷ Pose.Deposit2 ∷ Pose.In ∷ Pose.Out ∷ Pose.Middle
    ∷ Pose.Top ∷ Pose.Bottom ∷ []

pose_back : (x : Pose) → get_or all_pose (pose_number x) Pose.Rest ≡ x
unfolding all_pose
pose_back Pose.Rest = refl
pose_back _ = refl

pub pose_same : (x y : Pose) → same_pose x y ≡ true → x ≡ y
pose_same x y h =
    sym (pose_back x)
    ∙ (ap (λ (n : ℕ). get_or all_pose n Pose.Rest) (eqb-true (pose_number x) (pose_number y) h) ∙ pose_back y)

all_zone : List Zone
all_zone = Zone.Z1 ∷ Zone.Z2 ∷ Zone.Z3 ∷ Zone.Z4 ∷ Zone.Z5 ∷ []

zone_back : (x : Zone) → get_or all_zone (zone_number x) Zone.Z1 ≡ x
unfolding all_zone
zone_back Zone.Z1 = refl
zone_back _ = refl

pub zone_same : (x y : Zone) → same_zone x y ≡ true → x ≡ y
zone_same x y h =
    sym (zone_back x)
    ∙ (ap (λ (n : ℕ). get_or all_zone n Zone.Z1) (eqb-true (zone_number x) (zone_number y) h) ∙ zone_back y)

all_belt : List Belt
all_belt = Belt.Feed ∷ Belt.Deposit ∷ []

belt_back : (x : Belt) → get_or all_belt (belt_number x) Belt.Feed ≡ x
unfolding all_belt
belt_back Belt.Feed = refl
belt_back _ = refl

pub belt_same : (x y : Belt) → same_belt x y ≡ true → x ≡ y
belt_same x y h =
    sym (belt_back x)
    ∙ (ap (λ (n : ℕ). get_or all_belt n Belt.Feed) (eqb-true (belt_number x) (belt_number y) h) ∙ belt_back y)

all_colour : List Colour
all_colour = Colour.Red ∷ Colour.Green ∷ []

colour_back : (x : Colour) → get_or all_colour (colour_number x) Colour.Red ≡ x
unfolding all_colour
colour_back Colour.Red = refl
colour_back _ = refl

pub colour_same : (x y : Colour) → same_colour x y ≡ true → x ≡ y
colour_same x y h =
    sym (colour_back x)
    ∙ (ap (λ (n : ℕ). get_or all_colour n Colour.Red) (eqb-true (colour_number x) (colour_number y) h) ∙ colour_back y)

pub and_both : (x y : Bool) → (x && y) ≡ true → (x ≡ true) × (y ≡ true)
and_both true y h = (refl, h)
and_both false y h = (cc, cc)

pub and_true : (x y : Bool) → x ≡ true → y ≡ true → (x && y) ≡ true
and_true x y h k = rw h k

pub or_neither : (x y : Bool) → (x || y) ≡ false → (x ≡ false) × (y ≡ false)
or_neither true y h = (cc, cc)
or_neither false y h = (refl, h)

pub not_true : (b : Bool) → not b ≡ true → b ≡ false
not_true true h = cc
not_true false h = refl

pub not_false : (b : Bool) → not b ≡ false → b ≡ true
not_false true h = refl
not_false false h = cc

pub is_none_tells : {A : Type 0} (o : Option A) → is_none o ≡ true → o ≡ None
is_none_tells None h = refl
is_none_tells (Some x) h = cc

pub is_some_tells : {A : Type 0} (o : Option A) → is_some o ≡ true → (x : A) × (o ≡ Some x)
is_some_tells None h = cc
is_some_tells (Some x) h = (x, refl)

pub not_some_tells : {A : Type 0} (o : Option A) → is_some o ≡ false → o ≡ None
not_some_tells None h = refl
not_some_tells (Some x) h = cc

pub is_machine_tells : (m : Machine) (o : Option Machine) → is_machine m o ≡ true → o ≡ Some m
unfolding is_machine
is_machine_tells m None h = cc
is_machine_tells m (Some n) h = ap Some (machine_same n m h)

pub is_plate_tells : (k : ℕ) (o : Option ℕ) → is_plate k o ≡ true → o ≡ Some k
is_plate_tells k None h = cc
is_plate_tells k (Some j) h = ap Some (eqb-true j k h)

pub is_pose_tells : (p : Pose) (o : Option Pose) → is_pose p o ≡ true → o ≡ Some p
is_pose_tells p None h = cc
is_pose_tells p (Some q) h = ap Some (pose_same q p h)

-- an axis with both its parts
abbrev pub Axes : Type 0
Axes = Axis → AxisState

abbrev pub axes_of : Snapshot → Axes
axes_of s a = record { at = s.at a; going = s.going a }

abbrev pub rest : Pose → AxisState
rest p = record { at = p; going = None }

abbrev pub going_to : Pose → Pose → AxisState
going_to p q = record { at = p; going = Some q }

-- every test is passed
abbrev pub Passed : List (Bool × Refusal) → Type 0
Passed [] = Unit {0}
Passed (t ∷ ts) = (t.0 ≡ false) × Passed ts

-- the first test's value is named, so that the search for the first that holds can go on by it
passed_case : (t : Bool × Refusal) (ts : List (Bool × Refusal)) (b : Bool) → t.0 ≡ b → first_true (t ∷ ts) ≡ None
    → (t.0 ≡ false) × (first_true ts ≡ None)
unfolding first_true
passed_case t ts false e h = (e, rw e at h)
passed_case t ts true e h = let g = rw e at h in (cc, cc)

pub none_refused : (ts : List (Bool × Refusal)) → first_true ts ≡ None → Passed ts
unfolding first_true
none_refused [] h = tt
none_refused (t ∷ ts) h = let p = passed_case t ts t.0 refl h in (p.0, none_refused ts p.1)

pub passed_last : (xs ys : List (Bool × Refusal)) → Passed (xs ++ ys) → Passed ys
passed_last [] ys h = h
passed_last (x ∷ xs) ys h = passed_last xs ys h.1

pub passed_first : (xs ys : List (Bool × Refusal)) → Passed (xs ++ ys) → Passed xs
passed_first [] ys h = tt
passed_first (x ∷ xs) ys h = (h.0, passed_first xs ys h.1)

-- the tests of a state, passed
pub resting : (s : Snapshot) (a : Axis) (p : Pose) → not (rests_at (situation_in s) a p) ≡ false → axes_of s a ≡ rest p
resting s a p h =
    let e = and_both (is_none (s.going a)) (same_pose (s.at a) p) (not_false (rests_at (situation_in s) a p) h) in
    let g = is_none_tells (s.going a) e.0 in
    let q = pose_same (s.at a) p e.1 in
    λ i. record { at = q i; going = g i }

pub still : (s : Snapshot) (a : Axis) → is_some (s.going a) ≡ false → s.going a ≡ None
still s a h = not_some_tells (s.going a) h

pub held : (s : Snapshot) (m : Machine) (z : Zone) → not (is_machine m (s.holder z)) ≡ false → s.holder z ≡ Some m
held s m z h = is_machine_tells m (s.holder z) (not_false (is_machine m (s.holder z)) h)

pub occupied : (s : Snapshot) (t : Station) → not (is_some (s.plate t)) ≡ false → (k : ℕ) × (s.plate t ≡ Some k)
occupied s t h = is_some_tells (s.plate t) (not_false (is_some (s.plate t)) h)

pub free : (s : Snapshot) (t : Station) → is_some (s.plate t) ≡ false → s.plate t ≡ None
free s t h = not_some_tells (s.plate t) h

pub plate_at : (s : Snapshot) (t : Station) (k : ℕ) → not (is_plate k (s.plate t)) ≡ false → s.plate t ≡ Some k
plate_at s t k h = is_plate_tells k (s.plate t) (not_false (is_plate k (s.plate t)) h)

-- there is a plate, and the test says that it's none but k
pub no_other : (s : Snapshot) (t : Station) (j k : ℕ) → s.plate t ≡ Some j
    → (is_some (s.plate t) && not (is_plate k (s.plate t))) ≡ false → s.plate t ≡ Some k
no_other s t j k e h =
    let g : not (is_plate k (Some j)) ≡ false = rw e at h in
    let i = eqb-true j k (not_false (j == k) g) in
    e ∙ ap Some i
