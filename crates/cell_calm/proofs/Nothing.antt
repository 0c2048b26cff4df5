-- Where no healthy machine moves or has a green light, and nothing is useful, nothing can happen
use Rattle.std.proofs.Common.{◌≡◌, ℕ, ◌+◌, Bool, true, false, ◌&&◌, not, List, [], ◌∷◌, ◌++◌, Option, Some, None}
use Rattle.std.proofs.Common.{is_some, refl, sym, ap, ◌∙◌, arith}
use Rattle.std.specs.Prelude.{◌==◌, if◌then◌else◌, nat_le, nat_lt}
use Rattle.std.specs.List.{All}
use Rattle.std.specs.Option.{option_and_then}
use Rattle.std.proofs.lemmas.List.Elements.{All-contains, Contains-append_left}
use Rattle.cell_types.specs.declared.words.Machine.{Machine}
use Rattle.cell_types.specs.declared.words.Machine.TheVariants as machine
use Rattle.cell_types.specs.declared.words.Station.{Station}
use Rattle.cell_types.specs.declared.words.Station.TheVariants as station
use Rattle.cell_types.specs.declared.words.Axis.{Axis}
use Rattle.cell_types.specs.declared.words.Axis.TheVariants as axis
use Rattle.cell_types.specs.declared.words.Pose.{Pose}
use Rattle.cell_types.specs.declared.words.Pose.TheVariants as pose
use Rattle.cell_types.specs.declared.words.Belt.{Belt}
use Rattle.cell_types.specs.declared.words.Belt.TheVariants as belt
use Rattle.cell_types.specs.declared.words.Colour.{Colour}
use Rattle.cell_types.specs.declared.words.Colour.TheVariants as colour
use Rattle.cell_types.specs.declared.words.Entry.{Entry}
use Rattle.cell_types.specs.declared.words.Entry.TheVariants.{Admitted, Arrived, Conveyed, Delivered, Forged}
use Rattle.cell_types.specs.declared.cell.BeltMotion.{BeltMotion}
use Rattle.cell_types.specs.After.{Snapshot, is_plate}
use Rattle.cell_types.specs.Cell.{machine_of_axis, motion_to}
use Rattle.cell_types.specs.Same.{same_colour}
use Rattle.cell_rules.specs.First.{first_true, forged_tests, not_going, plate_not_at}
use Rattle.cell_rules.specs.Last.{when}
use Rattle.cell_rules.specs.declared.refusal.Refusal.TheVariants.{LampRed, MachineFailed, PlateLimit, WrongPlate}
use Rattle.cell_machines.specs.Room.{is_bookable, is_none_or_full}
use Rattle.cell_machines.specs.Useful.{is_useful_now}
use Rattle.cell_useful.specs.Cells.{ample}
use Rattle.cell_useful.specs.Events.{arrivals_of, arrived, belt_ends_of, conveyed, forged, laid_in, signs_of, taken_out}
use Rattle.cell_useful.specs.Events.{where_allowed}
use Rattle.cell_useful.specs.Moves.{acts_of, is_nil}
use Rattle.cell_useful.specs.Rows.{of_plate_where, somes}
use Rattle.cell_useful.specs.Useful.{all_useful, useful_of}
use Rattle.cell_useful.proofs.Listed.{listed_useful}
use Rattle.cell_progress.specs.Orders.{cell_of}
use Rattle.cell_calm.proofs.Barred.{barred}
use Rattle.cell_calm.proofs.Entering.{joined}

-- of the machines that haven't failed no axis moves and no light is green, and nothing is useful for any machine
pub record Rests (plan : ℕ) (s : Snapshot) : Type 0 where
  pub going : (a : Axis) → s.failed (machine_of_axis a) ≡ false → s.going a ≡ None
  pub feed : s.failed machine.Feed ≡ false → same_colour (s.lamp belt.Feed) colour.Green ≡ false
  pub deposit : s.failed machine.Deposit ≡ false → same_colour (s.lamp belt.Deposit) colour.Green ≡ false
  pub useless : (m : Machine) (e : Entry) → is_useful_now ample (cell_of s) plan m e ≡ false

red : (c : Colour) → same_colour c colour.Green ≡ false → c ≡ colour.Red
red colour.Red h = refl
red colour.Green h = cc

nil_append : (xs ys : List Entry) → is_nil xs ≡ true → is_nil ys ≡ true → is_nil (xs ++ ys) ≡ true
nil_append [] ys h g = g
nil_append (x ∷ xs) ys h g = cc

abbrev AreNil : List (List Entry) → Type 0
AreNil [] = Unit {0}
AreNil (B ∷ Bs) = (is_nil B ≡ true) × AreNil Bs

nil_joined : (A : List Entry) (Bs : List (List Entry)) → is_nil A ≡ true → AreNil Bs → is_nil (joined A Bs) ≡ true
nil_joined A [] h g = h
nil_joined A (B ∷ Bs) h g = nil_joined (A ++ B) Bs (nil_append A B h g.0) g.1

-- of which no entry is an element
nil_of : (P : Entry → Type 0) (xs : List Entry) → All P xs → ((e : Entry) → P e → ⊥) → is_nil xs ≡ true
nil_of P [] all none = refl
nil_of P (x ∷ xs) all none =
    absurd (none x (All-contains P (x ∷ xs) x all (Contains-append_left (x ∷ []) xs x (0, omega arith, refl))))

no_plate : (p : Entry → Bool) (f : ℕ → Entry) (o : Option ℕ) → ((k : ℕ) → p (f k) ≡ false)
    → of_plate_where p f o ≡ None
no_plate p f None h = refl
no_plate p f (Some k) h = rw (h k) refl

-- a red light refuses what nothing before it does
lamp_refuses : (a b : Bool) (c : Belt)
    → is_none_or_full (if a then Some PlateLimit else if b then Some WrongPlate else Some (LampRed c)) ≡ false
lamp_refuses true b c = refl
lamp_refuses false true c = refl
lamp_refuses false false c = refl

unallowed : (a b : Bool) (e : Entry) → b ≡ false → when (a && b) e ≡ None
unallowed true b e h = rw h refl
unallowed false b e h = refl

-- by whether a machine has failed
either : {X : Type 0} (failed : Bool) → (failed ≡ true → X) → (failed ≡ false → X) → X
either true f g = f refl
either false f g = g refl

module _ (plan : ℕ) (s : Snapshot) (rests : Rests plan s) where
  useless : (m : Machine) → is_nil (useful_of (cell_of s) plan m) ≡ true
  useless m =
      nil_of (λ e. is_useful_now ample (cell_of s) plan m e ≡ true) (useful_of (cell_of s) plan m)
      (listed_useful (cell_of s) plan m) (λ e u. differ (sym (rests.useless m e) ∙ u))
    where
      differ : false ≡ true → ⊥
      differ q = cc

  unconveyed : (a : Axis) (m : BeltMotion) → motion_to a m.dest ≡ Some m → conveyed (cell_of s) a m.from m.dest ≡ None
  unfolding is_bookable first_true
  unconveyed a m is =
      no_plate (is_bookable ample (cell_of s)) (λ k. Conveyed a k m.dest) (s.plate m.from)
      (λ k. either (s.failed (machine_of_axis a)) (λ h. barred s (machine_of_axis a) (Conveyed a k m.dest) _ refl h)
      (λ h. rw (h, is, rests.going a h) refl))

  unforged : (m : Machine) (a : Axis) (t : Station) → machine_of_axis a ≡ m
      → ((k : ℕ) → forged_tests (cell_of s) m k ≡ not_going (cell_of s) a pose.Top ∷ plate_not_at (cell_of s) t k ∷ [])
      → forged (cell_of s) m t ≡ None
  unfolding is_bookable first_true
  unforged m a t own tests =
      no_plate (is_bookable ample (cell_of s)) (λ k. Forged m k) (s.plate t)
      (λ k. either (s.failed m) (λ h. barred s m (Forged m k) _ refl h)
      (λ h. rw (h, tests k, rests.going a (ap s.failed own ∙ h)) refl))

  unarrived : (a : Axis) → arrived (cell_of s) a ≡ None
  unarrived a =
      either (s.failed (machine_of_axis a)) (λ h. by h (s.going a)) (λ h. rw (rests.going a h) refl)
    where
      by : s.failed (machine_of_axis a) ≡ true → (o : Option Pose)
          → option_and_then (λ to. where_allowed (cell_of s) (Arrived a to)) o ≡ None
      by h None = refl
      by h (Some to) =
          ap (λ (b : Bool). when b (Arrived a to)) (barred s (machine_of_axis a) (Arrived a to) _ refl h)

  undelivered : taken_out (cell_of s) ≡ None
  unfolding is_bookable first_true
  undelivered =
      no_plate (is_bookable ample (cell_of s)) (λ k. Delivered k) (s.plate station.DepEnd)
      (λ k. either (s.failed machine.Deposit) (λ h. barred s machine.Deposit (Delivered k) _ refl h)
      (λ h. rw (red (s.lamp belt.Deposit) (rests.deposit h), h)
      (lamp_refuses false (is_some (s.plate station.DepEnd) && not (is_plate k (s.plate station.DepEnd)))
      belt.Deposit)))

  unadmitted : laid_in plan (cell_of s) ≡ None
  unfolding is_bookable first_true
  unadmitted =
      either (s.failed machine.Feed)
      (λ h. rw h (unallowed (nat_lt s.admitted plan) _ (Admitted (s.admitted + 1))
      (failed_refuses (nat_le 100000 s.admitted))))
      (λ h. rw (red (s.lamp belt.Feed) (rests.feed h), h)
      (unallowed (nat_lt s.admitted plan) _ (Admitted (s.admitted + 1))
      (lamp_refuses (nat_le 100000 s.admitted) (not ((s.admitted + 1) == (s.admitted + 1))) belt.Feed)))
    where
      failed_refuses : (a : Bool)
          → is_none_or_full (if a then Some PlateLimit else Some (MachineFailed machine.Feed)) ≡ false
      failed_refuses true = refl
      failed_refuses false = refl

  no_belt_end : is_nil (belt_ends_of (cell_of s)) ≡ true
  unfolding belt_ends_of somes
  no_belt_end =
      rw (
        unconveyed axis.FeedBelt (record { to = pose.ToEnd; from = station.FeedIn; dest = station.FeedEnd }) refl,
        unconveyed axis.FeedBelt (record { to = pose.ToTable; from = station.FeedEnd; dest = station.Table }) refl,
        unconveyed axis.DepositBelt (record { to = pose.ToEnd; from = station.DepIn; dest = station.DepEnd }) refl,
        unforged machine.Press1 axis.PressOne station.Press1 refl (λ k. refl),
        unforged machine.Press2 axis.PressTwo station.Press2 refl (λ k. refl),
      ) refl

  no_arrival : is_nil (arrivals_of (cell_of s)) ≡ true
  unfolding arrivals_of somes
  no_arrival =
      rw (
        unarrived axis.TableLift,
        unarrived axis.TableTurn,
        unarrived axis.RobotTurn,
        unarrived axis.ArmOne,
        unarrived axis.ArmTwo,
        unarrived axis.PressOne,
        unarrived axis.PressTwo,
      ) refl

  no_sign : is_nil (signs_of plan (cell_of s)) ≡ true
  unfolding signs_of somes
  no_sign = rw (unadmitted, undelivered) refl

  pub nothing_happens : is_nil (acts_of plan false (cell_of s)) ≡ true
  unfolding acts_of
  nothing_happens =
      let U = useful_of (cell_of s) plan in
      nil_joined (all_useful (cell_of s) plan)
      (belt_ends_of (cell_of s) ∷ arrivals_of (cell_of s) ∷ signs_of plan (cell_of s) ∷ [] ∷ [])
      (nil_joined (U machine.Feed)
      (U machine.Table ∷ U machine.Robot ∷ U machine.Press1 ∷ U machine.Press2 ∷ U machine.Deposit ∷ [])
      (useless machine.Feed) (
        useless machine.Table,
        (
          useless machine.Robot,
          (
            useless machine.Press1,
            (
              useless machine.Press2,
              (useless machine.Deposit, tt),
            ),
          ),
        ),
      ))
      (no_belt_end, (no_arrival, (no_sign, (refl, tt))))
