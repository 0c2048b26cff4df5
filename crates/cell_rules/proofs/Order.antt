-- The tests of each entry stand in the order of their refusals
use Rattle.std.proofs.Common.{◌≡◌, ◌≢◌, ℕ, ◌≤◌, Bool, true, false, ◌||◌, not, List, [], ◌∷◌, ◌++◌, Option, Some, None}
use Rattle.std.proofs.Common.{refl, arith, append_assoc, subst}
use Rattle.std.specs.Prelude.{nat_le, if◌then◌else◌}
use Rattle.std.specs.List.{list_all}
use Rattle.std.proofs.lemmas.Bool.{or_right}
use Rattle.std.proofs.lemmas.Bool.Decides.{nat_tests}
use Rattle.cell_types.specs.declared.words.Machine.{Machine}
use Rattle.cell_types.specs.declared.words.Machine.TheVariants as machine
use Rattle.cell_types.specs.declared.words.Station.{Station}
use Rattle.cell_types.specs.declared.words.Axis.{Axis}
use Rattle.cell_types.specs.declared.words.Axis.TheVariants as axis
use Rattle.cell_types.specs.declared.words.Pose.{Pose}
use Rattle.cell_types.specs.declared.words.Pose.TheVariants as pose
use Rattle.cell_types.specs.declared.words.Zone.{Zone}
use Rattle.cell_types.specs.declared.words.Arm.{Arm}
use Rattle.cell_types.specs.declared.words.Arm.TheVariants as arm
use Rattle.cell_types.specs.declared.words.Belt.{Belt}
use Rattle.cell_types.specs.declared.words.Belt.TheVariants as belt
use Rattle.cell_types.specs.declared.words.Colour.{Colour}
use Rattle.cell_types.specs.declared.words.Colour.TheVariants as colour
use Rattle.cell_types.specs.declared.words.Entry.{Entry}
use Rattle.cell_types.specs.declared.words.Entry.TheVariants.{Lamp, Yielded, Started, Conveyed, Forged, Gripped}
use Rattle.cell_types.specs.declared.words.Entry.TheVariants.{Dropped, Quarantined, Repaired}
use Rattle.cell_types.specs.declared.cell.BeltMotion.{BeltMotion}
use Rattle.cell_types.specs.Cell.{machine_of_station, axis_of_arm, station_of_arm, motion_to, Faced, grips_at, drops_at}
use Rattle.cell_rules.specs.Situations.{Situation}
use Rattle.cell_rules.specs.declared.limits.BookLimits.{BookLimits}
use Rattle.cell_rules.specs.declared.refusal.Refusal.{Refusal}
use Rattle.cell_rules.specs.declared.refusal.Refusal.TheVariants.{JournalFull, OutOfMemory}
use Rattle.cell_rules.specs.First.{first, first_true, kind_tests, tests, not_resting_at, not_holder, all_resting}
use Rattle.cell_rules.specs.First.{lamp_tests}
use Rattle.cell_rules.specs.First.{parked_tests, faces, outward_tests, arm_tests, press_tests, feed_belt_tests}
use Rattle.cell_rules.specs.First.{deposit_belt_tests, started_tests, conveyed_tests, forged_tests, handing_tests}
use Rattle.cell_rules.specs.First.{neighbour_tests, any_visited, any_still_there, station_empty, other_plate_at}
use Rattle.cell_rules.specs.Numbers.{refusal_number, ascends_from}
use Rattle.cell_rules.proofs.Safe.Facts.{and_both, and_true}

-- poses come before what comes after poses
resting_first : (c : Situation) (xs : List (Axis × Pose)) (ts : List (Bool × Refusal)) → ascends_from 6 ts ≡ true
    → ascends_from 6 (all_resting c xs ++ ts) ≡ true
resting_first c [] ts h = h
resting_first c (x ∷ xs) ts h = resting_first c xs ts h

-- tests of poses all have one number, and that of the zone, which has a greater one, comes last
outward_ascends : (c : Situation) (a : Axis) (o : Option Faced) → ascends_from 3 (outward_tests c a o) ≡ true
outward_ascends c a None = refl
outward_ascends c a (Some f) =
    let before = all_resting c f.before in
    let after : List (Bool × Refusal) = not_resting_at c a pose.In ∷ all_resting c f.after in
    let last : List (Bool × Refusal) = not_holder c machine.Robot f.zone ∷ [] in
    let rest : ascends_from 6 (after ++ last) ≡ true = resting_first c f.after last refl in
    from_five ((before ++ after) ++ last) (rw (append_assoc before after last)
    (resting_first c f.before (after ++ last) rest))
  where
    from_five : (ts : List (Bool × Refusal)) → ascends_from 6 ts ≡ true → ascends_from 5 ts ≡ true
    from_five [] h = refl
    from_five (t ∷ ts) h = grind (arith, nat_tests)

arm_ascends : (c : Situation) (x : Arm) (to : Pose) → ascends_from 3 (arm_tests c x to) ≡ true
arm_ascends c x pose.Out = outward_ascends c (axis_of_arm x) (faces c x)
arm_ascends c x _ = refl

press_ascends : (c : Situation) (to : Pose) (m : Machine) (a : Axis) → (z : Zone) (s : Station)
    → ascends_from 3 (press_tests c m a z s to) ≡ true
press_ascends c pose.Top m a z s = refl
press_ascends c pose.Bottom m a z s = refl
press_ascends c pose.Middle m a z s = refl
press_ascends c _ m a z s = refl

feed_ascends : (c : Situation) (to : Pose) → ascends_from 3 (feed_belt_tests c to) ≡ true
feed_ascends c pose.ToEnd = refl
feed_ascends c pose.ToTable = refl
feed_ascends c _ = refl

deposit_ascends : (c : Situation) (to : Pose) → ascends_from 3 (deposit_belt_tests c to) ≡ true
deposit_ascends c pose.ToEnd = refl
deposit_ascends c _ = refl

started_ascends : (c : Situation) (a : Axis) (to : Pose) → ascends_from 3 (started_tests c a to) ≡ true
started_ascends c axis.FeedBelt to = feed_ascends c to
started_ascends c axis.TableLift to = refl
started_ascends c axis.TableTurn to = refl
started_ascends c axis.RobotTurn to = refl
started_ascends c axis.ArmOne to = arm_ascends c arm.Arm1 to
started_ascends c axis.ArmTwo to = arm_ascends c arm.Arm2 to
started_ascends c axis.PressOne to = press_ascends c to machine.Press1 axis.PressOne Zone.Z3 Station.Press1
started_ascends c axis.PressTwo to = press_ascends c to machine.Press2 axis.PressTwo Zone.Z4 Station.Press2
started_ascends c axis.DepositBelt to = deposit_ascends c to

lamp_ascends : (c : Situation) (b : Belt) (to : Colour) → ascends_from 3 (lamp_tests c b to) ≡ true
lamp_ascends c belt.Feed colour.Green = refl
lamp_ascends c belt.Deposit colour.Green = refl
lamp_ascends c _ colour.Red = refl

yielded_ascends : (c : Situation) (m : Machine) (z : Zone)
    → ascends_from 3 (parked_tests c m ++ not_holder c m z ∷ []) ≡ true
yielded_ascends c machine.Feed z = refl
yielded_ascends c machine.Table z = refl
yielded_ascends c machine.Robot z = refl
yielded_ascends c machine.Press1 z = refl
yielded_ascends c machine.Press2 z = refl
yielded_ascends c machine.Deposit z = refl

conveyed_ascends : (c : Situation) (a : Axis) (k : ℕ) (o : Option BeltMotion)
    → ascends_from 3 (conveyed_tests c a k o) ≡ true
conveyed_ascends c a k None = refl
conveyed_ascends c a k (Some m) = refl

forged_ascends : (c : Situation) (m : Machine) (k : ℕ) → ascends_from 3 (forged_tests c m k) ≡ true
forged_ascends c machine.Press1 k = refl
forged_ascends c machine.Press2 k = refl
forged_ascends c _ k = refl

handing_ascends : (c : Situation) (x : Arm) (at from to : Station) (k : ℕ) (b : Bool)
    → ascends_from 3 (neighbour_tests b (handing_tests c x at from to k)) ≡ true
handing_ascends c x at from to k true = refl
handing_ascends c x at from to k false = refl

quarantined_ascends : (c : Situation) (m : Machine) (s : Station) (k : ℕ)
    → ascends_from 4 (any_visited c m ++ station_empty c s ∷ other_plate_at c s k ∷ []) ≡ true
unfolding any_visited
quarantined_ascends c m s k = refl

repaired_ascends : (c : Situation) (m : Machine) → ascends_from 4 (any_visited c m ++ any_still_there c m) ≡ true
unfolding any_visited any_still_there
repaired_ascends c m = refl

pub kind_ascends : (l : BookLimits) (c : Situation) (e : Entry) → ascends_from 2 (kind_tests l c e) ≡ true
kind_ascends l c (Lamp b to) = lamp_ascends c b to
kind_ascends l c (Yielded m z) = yielded_ascends c m z
kind_ascends l c (Started a to) = started_ascends c a to
kind_ascends l c (Conveyed a k dest) = conveyed_ascends c a k (motion_to a dest)
kind_ascends l c (Forged m k) = forged_ascends c m k
kind_ascends l c (Gripped x k src) = handing_ascends c x src src (station_of_arm x) k (grips_at x src)
kind_ascends l c (Dropped x k dest) = handing_ascends c x dest (station_of_arm x) dest k (drops_at x dest)
kind_ascends l c (Quarantined k src) = quarantined_ascends c (machine_of_station src) src k
kind_ascends l c (Repaired m) = repaired_ascends c m
kind_ascends l c _ = refl

-- the journal's room is tested first
pub tests_ascend : (l : BookLimits) (c : Situation) (e : Entry) → ascends_from 1 (tests l c e) ≡ true
tests_ascend l c e = from_one (kind_tests l c e) (kind_ascends l c e)
  where
    from_one : (ts : List (Bool × Refusal)) → ascends_from 2 ts ≡ true → ascends_from 1 ts ≡ true
    from_one [] h = refl
    from_one (t ∷ ts) h = grind (arith, nat_tests)

-- the first test that holds has the least number of those that hold, and none has the last
chosen : (b : Bool) (q r : Refusal) (o : Option Refusal) → refusal_number q ≤ 20 → (o ≡ Some r → refusal_number r ≤ 20)
    → (if b then Some q else o) ≡ Some r → refusal_number r ≤ 20
chosen true q r o h f e = let i : q ≡ r = cc in rw (← i) h
chosen false q r o h f e = f e

-- a list counts as in order only where its last number comes before that for want of memory
in_order : (n : ℕ) (ts : List (Bool × Refusal)) → ascends_from n ts ≡ true → n ≤ 20
in_order n [] h = grind (arith, nat_tests)
in_order n (t ∷ ts) h =
    let p = and_both (nat_le n (refusal_number t.1)) (ascends_from (refusal_number t.1) ts) h in
    let m = in_order (refusal_number t.1) ts p.1 in
    le_le n (refusal_number t.1) p.0 m
  where
    le_le : (n m : ℕ) → nat_le n m ≡ true → m ≤ 20 → n ≤ 20
    le_le n m a b = grind (arith, nat_tests)

small : (n : ℕ) (ts : List (Bool × Refusal)) (r : Refusal) → ascends_from n ts ≡ true → first_true ts ≡ Some r
    → refusal_number r ≤ 20
unfolding first_true
small n [] r h e = cc
small n (t ∷ ts) r h e =
    let p = and_both (nat_le n (refusal_number t.1)) (ascends_from (refusal_number t.1) ts) h in
    chosen t.0 t.1 r (first_true ts) (in_order (refusal_number t.1) ts p.1) (small (refusal_number t.1) ts r p.1) e

-- no test refuses for want of memory
pub first_is_no_memory : (l : BookLimits) (c : Situation) (e : Entry) → first l c e ≢ Some OutOfMemory
first_is_no_memory l c e h = let n : 21 ≤ 20 = small 1 (tests l c e) OutOfMemory (tests_ascend l c e) h in
    absurd (omega arith)

-- the first test that holds has the least number of those that hold
le_trans : (n m k : ℕ) → nat_le n m ≡ true → nat_le m k ≡ true → nat_le n k ≡ true
le_trans n m k a b = grind (arith, nat_tests)

at_least_case : (n : ℕ) (t : Bool × Refusal) (o : Option Refusal) (r : Refusal) (b : Bool)
    → (if b then Some t.1 else o) ≡ Some r → nat_le n (refusal_number t.1) ≡ true
    → (o ≡ Some r → nat_le (refusal_number t.1) (refusal_number r) ≡ true) → nat_le n (refusal_number r) ≡ true
at_least_case n t o r true e h f = let i : t.1 ≡ r = cc in rw (← i) h
at_least_case n t o r false e h f = le_trans n (refusal_number t.1) (refusal_number r) h (f e)

at_least : (n : ℕ) (ts : List (Bool × Refusal)) (r : Refusal) → ascends_from n ts ≡ true → first_true ts ≡ Some r
    → nat_le n (refusal_number r) ≡ true
unfolding first_true
at_least n [] r h e = cc
at_least n (t ∷ ts) r h e =
    let p = and_both (nat_le n (refusal_number t.1)) (ascends_from (refusal_number t.1) ts) h in
    at_least_case n t (first_true ts) r t.0 e p.0 (at_least (refusal_number t.1) ts r p.1)

-- no test but the first is about the journal's room
pub not_full : (l : BookLimits) (c : Situation) (e : Entry) → first_true (kind_tests l c e) ≢ Some JournalFull
not_full l c e h =
    let n : nat_le 2 1 ≡ true = at_least 2 (kind_tests l c e) JournalFull (kind_ascends l c e) h in cc

-- in a list in order the numbers only grow
all_later : (r : ℕ) (n : ℕ) (ts : List (Bool × Refusal)) → nat_le r n ≡ true → ascends_from n ts ≡ true
    → list_all (λ t. not t.0 || nat_le r (refusal_number t.1)) ts ≡ true
all_later r n [] l h = refl
all_later r n (t ∷ ts) l h =
    let p = and_both (nat_le n (refusal_number t.1)) (ascends_from (refusal_number t.1) ts) h in
    let m = le_trans r n (refusal_number t.1) l p.0 in
    and_true _ _ (or_right (not t.0) _ m) (all_later r (refusal_number t.1) ts m p.1)

le_self : (n : ℕ) → nat_le n n ≡ true
le_self n = grind (arith, nat_tests)

-- where the first test holds it has the least number, and where it doesn't it needs none
chosen_least : (x : Bool × Refusal) (ts : List (Bool × Refusal)) (r : Refusal) (b : Bool) → x.0 ≡ b
    → ascends_from (refusal_number x.1) ts ≡ true → (if b then Some x.1 else first_true ts) ≡ Some r
    → (first_true ts ≡ Some r → list_all (λ t. not t.0 || nat_le (refusal_number r) (refusal_number t.1)) ts ≡ true)
    → list_all (λ t. not t.0 || nat_le (refusal_number r) (refusal_number t.1)) (x ∷ ts) ≡ true
chosen_least x ts r true i h e f =
    let same : x.1 ≡ r = cc in
    subst (λ (q : Refusal). list_all (λ t. not t.0 || nat_le (refusal_number q) (refusal_number t.1)) (x ∷ ts) ≡ true)
    same
    (and_true _ _ (or_right (not x.0) _ (le_self (refusal_number x.1)))
    (all_later (refusal_number x.1) (refusal_number x.1) ts (le_self (refusal_number x.1)) h))
chosen_least x ts r false i h e f = rw i (and_true _ _ refl (f e))

least : (n : ℕ) (ts : List (Bool × Refusal)) (r : Refusal) → ascends_from n ts ≡ true → first_true ts ≡ Some r
    → list_all (λ t. not t.0 || nat_le (refusal_number r) (refusal_number t.1)) ts ≡ true
unfolding first_true
least n [] r h e = cc
least n (x ∷ ts) r h e =
    let p = and_both (nat_le n (refusal_number x.1)) (ascends_from (refusal_number x.1) ts) h in
    chosen_least x ts r x.0 refl p.1 e (least (refusal_number x.1) ts r p.1)

pub first_is_least : (l : BookLimits) (c : Situation) (e : Entry) (r : Refusal) → first l c e ≡ Some r
    → list_all (λ t. not t.0 || nat_le (refusal_number r) (refusal_number t.1)) (tests l c e) ≡ true
first_is_least l c e r h = least 1 (tests l c e) r (tests_ascend l c e) h
