-- What it says that nothing can happen
use Rattle.std.proofs.Common.{◌≡◌, ℕ, Bool, true, false, Option, Some, None, List, [], ◌∷◌, ◌++◌, refl, arith, ◌≢◌}
use Rattle.std.proofs.Common.{◌&&◌}
use Rattle.std.proofs.Common.{is_some}
use Rattle.std.specs.Prelude.{option_to_list, map}
use Rattle.std.specs.List.{Contains}
use Rattle.cell_types.specs.declared.words.Machine.{Machine}
use Rattle.cell_types.specs.declared.words.Station.{Station}
use Rattle.cell_types.specs.declared.words.Axis.{Axis}
use Rattle.cell_types.specs.declared.words.Entry.{Entry}
use Rattle.cell_rules.specs.Situations.{Situation}
use Rattle.cell_machines.specs.Useful.{is_useful_now}
use Rattle.cell_useful.specs.Cells.{ample}
use Rattle.cell_useful.specs.Rows.{somes}
use Rattle.cell_useful.specs.Useful.{all_useful, useful_of}
use Rattle.cell_useful.specs.Events.{arrivals_of, belt_ends_of, signs_of, clearings_of, repairs_of, arrived, conveyed}
use Rattle.cell_useful.specs.Events.{forged, laid_in, taken_out, cleared, repaired}
use Rattle.cell_useful.specs.Moves.{acts_of, is_nil, operator_of, stations}
use Rattle.cell_useful.proofs.Listed.{useful_listed}
use Rattle.std.proofs.lemmas.Bool.Decides.{nat_tests}
use Rattle.cell_types.specs.declared.words.Zone.{Zone}
use Rattle.cell_types.specs.Cell.{machine_of_station, owner, visitor}
use Rattle.cell_types.specs.Same.{same_machine}
use Rattle.cell_types.specs.After.{Snapshot, is_machine}
use Rattle.cell_rules.specs.First.{first_true, visited, still_there, any_visited, any_still_there}
use Rattle.cell_rules.specs.declared.refusal.Refusal.{Refusal}
use Rattle.cell_rules.proofs.Safe.Facts.{machine_same, Passed}
use Rattle.cell_machines.specs.Room.{is_bookable}
use Rattle.cell_progress.specs.Orders.{cell_of}

both_nil : (xs ys : List Entry) → is_nil (xs ++ ys) ≡ true → (is_nil xs ≡ true) × (is_nil ys ≡ true)
both_nil [] ys h = (refl, h)
both_nil (x ∷ xs) ys h = cc

none_there : (xs : List Entry) (e : Entry) → is_nil xs ≡ true → Contains xs e → ⊥
none_there [] e h w = omega arith
none_there (x ∷ xs) e h w = cc

-- none of these is there
abbrev pub AreNone : List (Option Entry) → Type 0
AreNone [] = Unit {0}
AreNone (o ∷ os) = (o ≡ None) × AreNone os

nil_option : (o : Option Entry) → is_nil (option_to_list o) ≡ true → o ≡ None
nil_option None h = refl
nil_option (Some e) h = cc

nil_somes : (os : List (Option Entry)) → is_nil (somes os) ≡ true → AreNone os
unfolding somes
nil_somes [] h = tt
nil_somes (o ∷ os) h =
    let b = both_nil (option_to_list o) (somes os) h in (nil_option o b.0, nil_somes os b.1)

not_useful : (c : Situation) (plan : ℕ) (m : Machine) → is_nil (useful_of c plan m) ≡ true → (e : Entry)
    → is_useful_now ample c plan m e ≡ false
not_useful c plan m h e = go (is_useful_now ample c plan m e) refl
  where
    go : (b : Bool) → is_useful_now ample c plan m e ≡ b → b ≡ false
    go false u = refl
    go true u = absurd (none_there (useful_of c plan m) e h (useful_listed c plan m e u))

-- nothing can happen, but for what an operator may do
pub record Quiet (plan : ℕ) (c : Situation) : Type 0 where
  pub useful : (m : Machine) (e : Entry) → is_useful_now ample c plan m e ≡ false
  pub belts : AreNone (conveyed c Axis.FeedBelt Station.FeedIn Station.FeedEnd ∷ conveyed c Axis.FeedBelt
      Station.FeedEnd Station.Table ∷ conveyed c Axis.DepositBelt Station.DepIn Station.DepEnd
      ∷ forged c Machine.Press1 Station.Press1 ∷ forged c Machine.Press2 Station.Press2 ∷ [])
  pub arrivals : AreNone (arrived c Axis.TableLift ∷ arrived c Axis.TableTurn ∷ arrived c Axis.RobotTurn
      ∷ arrived c Axis.ArmOne ∷ arrived c Axis.ArmTwo ∷ arrived c Axis.PressOne ∷ arrived c Axis.PressTwo ∷ [])
  pub signs : AreNone (laid_in plan c ∷ taken_out c ∷ [])

abbrev machines : List Machine
machines =
    Machine.Feed ∷ Machine.Table ∷ Machine.Robot ∷ Machine.Press1 ∷ Machine.Press2 ∷ Machine.Deposit ∷ []

-- nothing is there to clear or to repair
pub record Unserved (c : Situation) : Type 0 where
  pub clearings : (t : Station) → cleared c t ≡ None
  pub repairs : (m : Machine) → repaired c m ≡ None

each_nil : (f : Machine → List Entry) → is_nil (f Machine.Feed ++ f Machine.Table ++ f Machine.Robot
    ++ f Machine.Press1 ++ f Machine.Press2 ++ f Machine.Deposit) ≡ true → (m : Machine) → is_nil (f m) ≡ true
each_nil f h m =
    let x2 = f Machine.Feed ++ f Machine.Table in
    let x3 = x2 ++ f Machine.Robot in
    let x4 = x3 ++ f Machine.Press1 in
    let d = both_nil (x4 ++ f Machine.Press2) (f Machine.Deposit) h in
    let q = both_nil x4 (f Machine.Press2) d.0 in
    let p = both_nil x3 (f Machine.Press1) q.0 in
    let r = both_nil x2 (f Machine.Robot) p.0 in
    let t = both_nil (f Machine.Feed) (f Machine.Table) r.0 in
    grind arith

operator_nil : (plan : ℕ) (serves : Bool) (c : Situation) → is_nil (acts_of plan serves c) ≡ true
    → (is_nil (all_useful c plan ++ belt_ends_of c ++ arrivals_of c ++ signs_of plan c) ≡ true)
    × (is_nil (operator_of serves c) ≡ true)
unfolding acts_of
operator_nil plan serves c h =
    both_nil (all_useful c plan ++ belt_ends_of c ++ arrivals_of c ++ signs_of plan c) (operator_of serves c) h

pub quiet : (plan : ℕ) (serves : Bool) (c : Situation) → is_nil (acts_of plan serves c) ≡ true → Quiet plan c
unfolding belt_ends_of arrivals_of signs_of
quiet plan serves c h =
    let A = all_useful c plan in
    let s = both_nil (A ++ belt_ends_of c ++ arrivals_of c) (signs_of plan c) (operator_nil plan serves c h).0 in
    let a = both_nil (A ++ belt_ends_of c) (arrivals_of c) s.0 in
    let b = both_nil A (belt_ends_of c) a.0 in
    record {
      useful = λ m. not_useful c plan m (each_nil (useful_of c plan) b.0 m);
      belts = nil_somes _ b.1;
      arrivals = nil_somes _ a.1;
      signs = nil_somes _ s.1;
    }

at_station : (f : Station → Option Entry) → AreNone (map f stations) → (t : Station) → f t ≡ None
at_station f n t = grind arith

of_machine : (f : Machine → Option Entry) → AreNone (map f machines) → (m : Machine) → f m ≡ None
of_machine f n m = grind arith

pub unserved : (plan : ℕ) (c : Situation) → is_nil (acts_of plan true c) ≡ true → Unserved c
unfolding clearings_of repairs_of
unserved plan c h =
    let o = both_nil (clearings_of c) (repairs_of c) (operator_nil plan true c h).1 in
    record { clearings = at_station (cleared c) (nil_somes _ o.0); repairs = of_machine (repaired c) (nil_somes _ o.1) }

-- no visitor holds the machine's zones
abbrev pub Unvisited : Snapshot → Machine → Type 0
Unvisited s m = (z : Zone) → owner z ≡ m → s.holder z ≢ Some (visitor z)

passed_each : {K : Type 0} (f : K → Bool × Refusal) (xs : List K) → ((x : K) → (f x).0 ≡ false) → Passed (map f xs)
passed_each f [] h = tt
passed_each f (x ∷ xs) h = (h x, passed_each f xs h)

no_visits : (s : Snapshot) (m : Machine) → Unvisited s m → Passed (any_visited (cell_of s) m)
unfolding is_machine any_visited
no_visits s m v =
    passed_each (visited (cell_of s) m) (Zone.Z1 ∷ Zone.Z2 ∷ Zone.Z3 ∷ Zone.Z4 ∷ Zone.Z5 ∷ [])
    (λ z. none (s.holder z) (owner z) (visitor z) (v z))
  where
    none : (o : Option Machine) (n w : Machine) → (n ≡ m → o ≢ Some w) → (same_machine n m && is_machine w o) ≡ false
    none o n w h = grind (arith, machine_same)

nothing_there : (s : Snapshot) (t : Station) → s.failed (machine_of_station t) ≡ true
    → Passed (any_visited (cell_of s) (machine_of_station t)) → cleared (cell_of s) t ≡ None → s.plate t ≡ None
unfolding is_bookable first_true any_visited
nothing_there s t f v c = grind (arith, nat_tests)

no_repair : (s : Snapshot) (m : Machine) → s.failed m ≡ true → Passed (any_visited (cell_of s) m)
    → Passed (any_still_there (cell_of s) m) → repaired (cell_of s) m ≡ None → ⊥
unfolding is_bookable first_true any_visited any_still_there
no_repair s m f v w r = grind arith

pub mended : (s : Snapshot) (m : Machine) → Unvisited s m → Unserved (cell_of s) → s.failed m ≡ false
unfolding any_still_there
mended s m v u = go (s.failed m) refl
  where
    none_there : (t : Station) → s.failed m ≡ true → (b : Bool) → same_machine (machine_of_station t) m ≡ b
        → (b && is_some (s.plate t)) ≡ false
    none_there t f true e =
        let i : machine_of_station t ≡ m = machine_same (machine_of_station t) m e in
        let p : s.plate t ≡ None = nothing_there s t (rw i f) (rw i (no_visits s m v)) (u.clearings t) in rw p
    none_there t f false e = refl

    go : (b : Bool) → s.failed m ≡ b → b ≡ false
    go true f =
        absurd (no_repair s m f (no_visits s m v) (passed_each (still_there (cell_of s) m) stations
        (λ t. none_there t f (same_machine (machine_of_station t) m) refl)) (u.repairs m))
    go false f = refl
