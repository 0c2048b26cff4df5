-- Why an entry can happen
use Rattle.std.proofs.Common.{◌≡◌, ℕ, ◌+◌, Bool, true, false, ◌&&◌, Option, Some, None, List, [], ◌∷◌, map, refl, arith}
use Rattle.std.specs.Prelude.{IfSome, nat_lt, option_to_list}
use Rattle.std.specs.Option.{option_and_then}
use Rattle.std.specs.List.{All, Contains}
use Rattle.std.proofs.lemmas.List.Elements.{All-nil, All-cons, All-append, All-weaker, All-contains}
use Rattle.cell_types.specs.declared.words.Machine.{Machine}
use Rattle.cell_types.specs.declared.words.Station.{Station}
use Rattle.cell_types.specs.declared.words.Axis.{Axis}
use Rattle.cell_types.specs.declared.words.Cause.{Cause}
use Rattle.cell_types.specs.declared.words.Entry.{Entry}
use Rattle.cell_types.specs.declared.words.Entry.TheVariants.{Lamp, Admitted, Claimed, Yielded, Started, Arrived}
use Rattle.cell_types.specs.declared.words.Entry.TheVariants.{Conveyed, Forged, Gripped, Dropped, Delivered, Declared}
use Rattle.cell_types.specs.declared.words.Entry.TheVariants.{StopAsked, Quarantined, Repaired, Expected, Reinstated}
use Rattle.cell_rules.specs.Last.{when}
use Rattle.cell_rules.specs.Situations.{Situation}
use Rattle.cell_rules.proofs.Safe.Facts.{and_both}
use Rattle.cell_machines.specs.Room.{is_bookable}
use Rattle.cell_machines.specs.Useful.{is_useful_now}
use Rattle.cell_useful.specs.Cells.{ample}
use Rattle.cell_useful.specs.Rows.{somes}
use Rattle.cell_useful.specs.Useful.{all_useful, useful_of}
use Rattle.cell_useful.specs.Events.{arrivals_of, belt_ends_of, signs_of, failures_of, arrived, conveyed, forged}
use Rattle.cell_useful.specs.Events.{laid_in, taken_out, failure, cleared, clearings_of, repaired, repairs_of}
use Rattle.cell_useful.specs.Moves.{acts_of, entries_of, operator_of, stations}
use Rattle.cell_useful.proofs.Listed.{listed_useful}

-- what a machine books by itself
abbrev pub is_own : Entry → Bool
is_own (Lamp b to) = true
is_own (Claimed m z) = true
is_own (Yielded m z) = true
is_own (Started a to) = true
is_own (Gripped x k src) = true
is_own (Dropped x k dest) = true
is_own _ = false

-- the end of a motion, or a plate that is taken out
abbrev pub is_end : Entry → Bool
is_end (Arrived a p) = true
is_end (Conveyed a k dest) = true
is_end (Forged m k) = true
is_end (Delivered k) = true
is_end _ = false

-- what an operator who serves does
abbrev pub is_service : Entry → Bool
is_service (Quarantined k t) = true
is_service (Repaired m) = true
is_service _ = false

-- what else an operator may do: stop a machine, or lay a plate back
unfoldable pub is_operators : Entry → Bool
is_operators (StopAsked m) = true
is_operators (Expected k) = true
is_operators (Reinstated k) = true
is_operators _ = false

-- the entry is useful for the machine
abbrev pub Wanted : ℕ → Situation → Machine → Entry → Type 0
Wanted plan c m e = is_useful_now ample c plan m e ≡ true

pub data Happens (plan : ℕ) (may : Machine → Bool) (c : Situation) (e : Entry) : Type 0 where
  wanted : (m : Machine) → Wanted plan c m e → Happens plan may c e
  ended : is_end e ≡ true → is_bookable ample c e ≡ true → Happens plan may c e
  laid : e ≡ Admitted (c.admitted + 1) → nat_lt c.admitted plan ≡ true → is_bookable ample c e ≡ true
      → Happens plan may c e
  fails : (m : Machine) → may m ≡ true → e ≡ Declared m Cause.CommandFault → is_bookable ample c e ≡ true
      → Happens plan may c e
  served : is_service e ≡ true → is_bookable ample c e ≡ true → Happens plan may c e

pub wanted_own : (plan : ℕ) (c : Situation) (m : Machine) (e : Entry) → Wanted plan c m e → is_own e ≡ true
unfolding is_useful_now
wanted_own plan c m e h = grind arith

own_calm : (e : Entry) → is_own e ≡ true → is_service e ≡ false
own_calm e h = grind arith

if_when : (P : Entry → Type 0) (b : Bool) (e : Entry) → (b ≡ true → P e) → IfSome (when b e) P
if_when P true e f = f refl
if_when P false e f = tt

if_found : {X : Type 0} (P : Entry → Type 0) (test : Entry → Bool) (f : X → Entry) (o : Option X)
    → ((x : X) → test (f x) ≡ true → P (f x)) → IfSome (option_and_then (λ x. when (test (f x)) (f x)) o) P
if_found P test f None h = tt
if_found P test f (Some x) h = if_when P (test (f x)) (f x) (h x)

all_option : (P : Entry → Type 0) (o : Option Entry) → IfSome o P → All P (option_to_list o)
all_option P None h = All-nil P
all_option P (Some e) h = All-cons P e [] h (All-nil P)

all_some : {X : Type 0} (P : Entry → Type 0) (f : X → Option Entry) (xs : List X) → ((x : X) → IfSome (f x) P)
    → All P (somes (map f xs))
unfolding somes
all_some P f [] h = All-nil P
all_some P f (x ∷ xs) h = All-append P (option_to_list (f x)) _ (all_option P (f x) (h x)) (all_some P f xs h)

abbrev pub machines : List Machine
machines =
    Machine.Feed ∷ Machine.Table ∷ Machine.Robot ∷ Machine.Press1 ∷ Machine.Press2 ∷ Machine.Deposit ∷ []

abbrev pub arriving : List Axis
arriving =
    Axis.TableLift ∷ Axis.TableTurn ∷ Axis.RobotTurn ∷ Axis.ArmOne ∷ Axis.ArmTwo ∷ Axis.PressOne ∷ Axis.PressTwo ∷ []

-- the ends of motions that a plate takes part in, and the signs
pub data Sign : Type 0 where
  conveys : Axis → Station → Station → Sign
  forges : Machine → Station → Sign
  enters : Sign
  goes : Sign

abbrev pub sign : ℕ → Situation → Sign → Option Entry
sign plan c (conveys a from dest) = conveyed c a from dest
sign plan c (forges m s) = forged c m s
sign plan c enters = laid_in plan c
sign plan c goes = taken_out c

module _ (plan : ℕ) (serves : Bool) (may : Machine → Bool) (c : Situation) where
  -- it happens for a reason, and without an operator it is no service
  abbrev P : Entry → Type 0
  P e = Happens plan may c e × (serves ≡ false → is_service e ≡ false)

  useful : (m : Machine) → All P (useful_of c plan m)
  useful m =
      All-weaker (Wanted plan c m) P (λ e h. (wanted m h, λ n. own_calm e (wanted_own plan c m e h)))
      (useful_of c plan m) (listed_useful c plan m)

  all_are_useful : All P (all_useful c plan)
  all_are_useful =
      All-append P _ _ (All-append P _ _ (All-append P _ _ (All-append P _ _ (All-append P _ _
      (useful Machine.Feed) (useful Machine.Table)) (useful Machine.Robot)) (useful Machine.Press1))
      (useful Machine.Press2)) (useful Machine.Deposit)

  arrives : (a : Axis) → IfSome (arrived c a) P
  arrives a = if_found P (is_bookable ample c) (λ p. Arrived a p) (c.going a) (λ p h. (ended refl h, λ n. refl))

  signs : (x : Sign) → IfSome (sign plan c x) P
  signs (conveys a from dest) =
      if_found P (is_bookable ample c) (λ k. Conveyed a k dest) (c.plate from) (λ k h. (ended refl h, λ n. refl))
  signs (forges m s) =
      if_found P (is_bookable ample c) (λ k. Forged m k) (c.plate s) (λ k h. (ended refl h, λ n. refl))
  signs enters =
      if_when P (nat_lt c.admitted plan && is_bookable ample c (Admitted (c.admitted + 1))) (Admitted (c.admitted + 1))
      (λ h. let b = and_both (nat_lt c.admitted plan) _ h in (laid refl b.0 b.1, λ n. refl))
  signs goes =
      if_found P (is_bookable ample c) (λ k. Delivered k) (c.plate Station.DepEnd) (λ k h. (ended refl h, λ n. refl))

  breaks : (m : Machine) → IfSome (failure may c m) P
  breaks m = if_when P (may m && is_bookable ample c (Declared m Cause.CommandFault)) (Declared m Cause.CommandFault)
      (λ h. let b = and_both (may m) _ h in (fails m b.0 refl b.1, λ n. refl))

  clears : serves ≡ true → (t : Station) → IfSome (cleared c t) P
  clears s t =
      if_found P (is_bookable ample c) (λ k. Quarantined k t) (c.plate t) (λ k h. (served refl h, λ n. absurd cc))

  repairs : serves ≡ true → (m : Machine) → IfSome (repaired c m) P
  repairs s m = if_when P (is_bookable ample c (Repaired m)) (Repaired m) (λ h. (served refl h, λ n. absurd cc))

  operates : (b : Bool) → serves ≡ b → All P (operator_of b c)
  unfolding clearings_of repairs_of
  operates false s = All-nil P
  operates true s =
      All-append P _ _ (all_some P (cleared c) stations (clears s)) (all_some P (repaired c) machines (repairs s))

  all_happen : All P (entries_of plan serves may c)
  unfolding entries_of acts_of belt_ends_of arrivals_of signs_of failures_of
  all_happen =
      All-append P (acts_of plan serves c) (failures_of may c)
      (All-append P _ _ (All-append P _ _ (All-append P _ _ (All-append P _ _ all_are_useful
      (all_some P (sign plan c) (
      conveys Axis.FeedBelt Station.FeedIn Station.FeedEnd ∷ conveys Axis.FeedBelt Station.FeedEnd Station.Table
      ∷ conveys Axis.DepositBelt Station.DepIn Station.DepEnd ∷ forges Machine.Press1 Station.Press1
      ∷ forges Machine.Press2 Station.Press2 ∷ []
      ) signs))
      (all_some P (arrived c) arriving arrives))
      (all_some P (sign plan c) (enters ∷ goes ∷ []) signs)) (operates serves refl))
      (all_some P (failure may c) machines breaks)

-- an entry that can happen does so for one of these reasons
pub happens : (plan : ℕ) (serves : Bool) (may : Machine → Bool) (c : Situation) (e : Entry)
    → Contains (entries_of plan serves may c) e → Happens plan may c e
happens plan serves may c e h =
    (All-contains (P plan serves may c) (entries_of plan serves may c) e (all_happen plan serves may c) h).0

-- without an operator nothing is cleared or repaired
pub no_service : (plan : ℕ) (may : Machine → Bool) (c : Situation) (e : Entry)
    → Contains (entries_of plan false may c) e → is_service e ≡ false
no_service plan may c e h =
    (All-contains (P plan false may c) (entries_of plan false may c) e (all_happen plan false may c) h).1 refl

pub may_be_booked : (plan : ℕ) (may : Machine → Bool) (c : Situation) (e : Entry) → Happens plan may c e
    → is_bookable ample c e ≡ true
unfolding is_useful_now
may_be_booked plan may c e (wanted m h) = (and_both _ _ h).1
may_be_booked plan may c e (ended i h) = h
may_be_booked plan may c e (laid i n h) = h
may_be_booked plan may c e (fails m i d h) = h
may_be_booked plan may c e (served i h) = h

-- what a machine books by itself is useful for one
pub wanted_by : (plan : ℕ) (may : Machine → Bool) (c : Situation) (e : Entry) → Happens plan may c e → is_own e ≡ true
    → (by : Machine) × Wanted plan c by e
wanted_by plan may c e (wanted m u) o = (m, u)
wanted_by plan may c e (ended i b) o = absurd (grind arith)
wanted_by plan may c e (laid i n b) o = absurd (grind arith)
wanted_by plan may c e (fails m i d b) o = absurd (grind arith)
wanted_by plan may c e (served i b) o = absurd (grind arith)

-- so a goal can be proved from that
pub by_wish : {G : Type 0} (plan : ℕ) (may : Machine → Bool) (c : Situation) (e : Entry) → Happens plan may c e
    → is_own e ≡ true → ((by : Machine) → Wanted plan c by e → G) → G
by_wish plan may c e h i f = let u = wanted_by plan may c e h i in f u.0 u.1

-- nobody stops a machine or lays a plate back
pub operators_never : (plan : ℕ) (may : Machine → Bool) (c : Situation) (e : Entry) → Happens plan may c e
    → is_operators e ≡ true → ⊥
unfolding is_operators
operators_never plan may c e (wanted m u) o = let w = wanted_own plan c m e u in grind arith
operators_never plan may c e (ended i b) o = grind arith
operators_never plan may c e (laid i n b) o = grind arith
operators_never plan may c e (fails m i d b) o = grind arith
operators_never plan may c e (served i b) o = grind arith

pub declared_may : (plan : ℕ) (may : Machine → Bool) (c : Situation) (m : Machine) (why : Cause)
    → Happens plan may c (Declared m why) → may m ≡ true
declared_may plan may c m why (wanted by u) = let w = wanted_own plan c by (Declared m why) u in cc
declared_may plan may c m why (ended i b) = cc
declared_may plan may c m why (laid i n b) = cc
declared_may plan may c m why (fails x i d b) = let e : m ≡ x = cc in rw e i
declared_may plan may c m why (served i b) = cc
