-- What a turn books for a failure, the end of a motion or a sign can happen
use Rattle.std.proofs.Common.{◌≡◌, ◌≤◌, ℕ, ◌+◌, Bool, true, false, not, List, [], ◌∷◌, Option, Some, None, refl, sym}
use Rattle.std.proofs.Common.{ap, subst, ◌∙◌, arith}
use Rattle.std.specs.Prelude.{nat_lt}
use Rattle.std.specs.Option.{option_map}
use Rattle.std.specs.List.{Contains}
use Rattle.std.proofs.lemmas.Bool.Decides.{nat_tests}
use Rattle.cell_types.specs.declared.words.Machine.{Machine}
use Rattle.cell_types.specs.declared.words.Machine.TheVariants as machine
use Rattle.cell_types.specs.declared.words.Station.{Station}
use Rattle.cell_types.specs.declared.words.Station.TheVariants as station
use Rattle.cell_types.specs.declared.words.Axis.{Axis}
use Rattle.cell_types.specs.declared.words.Axis.TheVariants as axis
use Rattle.cell_types.specs.declared.words.Pose.{Pose}
use Rattle.cell_types.specs.declared.words.Pose.TheVariants as pose
use Rattle.cell_types.specs.declared.words.Belt.TheVariants as belt
use Rattle.cell_types.specs.declared.words.Colour.TheVariants as colour
use Rattle.cell_types.specs.declared.words.Cause.{Cause}
use Rattle.cell_types.specs.declared.words.Entry.{Entry}
use Rattle.cell_types.specs.declared.words.Entry.TheVariants.{Admitted, Arrived, Conveyed, Declared, Delivered, Forged}
use Rattle.cell_types.specs.declared.cell.BeltMotion.{BeltMotion}
use Rattle.cell_types.specs.After.{Snapshot, after}
use Rattle.cell_types.specs.Cell.{machine_of_axis, motion_to}
use Rattle.cell_types.specs.Same.{same_colour}
use Rattle.cell_rules.specs.Bridged.{TellsWhatIsLeft}
use Rattle.cell_rules.specs.First.{ends_by_arrival, forged_tests, not_going, plate_not_at}
use Rattle.cell_rules.specs.Situations.{Situation}
use Rattle.cell_rules.specs.Views.{going_of, plate_of}
use Rattle.cell_useful.specs.Events.{arrived, conveyed, forged}
use Rattle.cell_progress.specs.Orders.{cell_of}
use Rattle.cell_turns.specs.declared.turns.decide.Ruling.{Ruling}
use Rattle.cell_turns.specs.declared.turns.decide.Ruling.TheVariants.{Books, Nothing, Proposes}
use Rattle.cell_turns.specs.Rulings.{books, ending, laid_in, signed}
use Rattle.cell_turns.proofs.Signed.{IsLit}
use Rattle.cell_calm.specs.Calm.{disturbs_but, plain_entry}
use Rattle.cell_calm.proofs.Entering.{admitted_is, arrival_in, arrived_is, belt_end_in, conveyed_is, delivered_is}
use Rattle.cell_calm.proofs.Entering.{failure_among, forged_is, sign_in, unserved}
use Rattle.cell_calm.proofs.Still.{AreLeft, Keeps, Still}

-- the entry can happen, whatever the cause that it tells, and no other machine fails by it
pub record Goes (may now : Machine → Bool) (plan : ℕ) (s : Snapshot) (e : Entry) : Type 0 where
  pub possible : Contains (unserved now plan (cell_of s)) (plain_entry e)
  pub keeps : Keeps may plan s e

-- a turn of m books no entry but one that can happen, unless it disturbs, and is for nothing only where m has failed
abbrev pub Fits : (Machine → Bool) → (Machine → Bool) → ℕ → Snapshot → Machine → Ruling → Type 0
Fits may now plan s m (Books e) = disturbs_but may e ≡ false → Goes may now plan s e
Fits may now plan s m Proposes = Unit {0}
Fits may now plan s m Nothing = s.failed m ≡ true
Fits may now plan s m _ = ⊥

module _ (may now : Machine → Bool) (plan : ℕ) (J : List Entry) (told : TellsWhatIsLeft J)
    (still : Still may plan (after J)) (left : AreLeft may now (after J)) (m : Machine)
    (healthy : (after J).failed m ≡ false) where
  abbrev s : Snapshot
  s = after J

  abbrev MayBook : Ruling → Type 0
  MayBook k = Fits may now plan s m k

  going_is : (a : Axis) (o : Option Pose) → going_of J a ≡ o → s.going a ≡ o
  going_is a o h = sym (ap (λ (c : Situation). c.going a) told.cell) ∙ h

  plate_is : (t : Station) (o : Option ℕ) → plate_of J t ≡ o → s.plate t ≡ o
  plate_is t o h = sym (ap (λ (c : Situation). c.plate t) told.cell) ∙ h

  -- an axis of the machine belongs to a healthy one
  well : (a : Axis) → machine_of_axis a ≡ m → s.failed (machine_of_axis a) ≡ false
  well a own = subst (λ (n : Machine). s.failed n ≡ false) (sym own) healthy

  -- the entry of the plate that is there, if there is one
  plate_fits : (t : Station) (f : ℕ → Entry) → ((k : ℕ) → s.plate t ≡ Some k → Goes may now plan s (f k))
      → MayBook (books (option_map f (plate_of J t)))
  plate_fits t f h = go (plate_of J t) refl
    where
      go : (o : Option ℕ) → plate_of J t ≡ o → MayBook (books (option_map f o))
      go None at = tt
      go (Some k) at = λ q. h k (plate_is t (Some k) at)

  arrival_fits : (a : Axis) (to : Pose) → machine_of_axis a ≡ m → going_of J a ≡ Some to
      → ends_by_arrival a to ≡ true → MayBook (Books (Arrived a to))
  arrival_fits a to own going ends =
      λ q. record {
        possible = at_axis a to ends (arrived_is s a to (well a own) (going_is a (Some to) going) ends);
        keeps = refl;
      }
    where
      at_axis : (a : Axis) (to : Pose) → ends_by_arrival a to ≡ true → arrived (cell_of s) a ≡ Some (Arrived a to)
          → Contains (unserved now plan (cell_of s)) (Arrived a to)
      at_axis axis.FeedBelt to ends h = cc
      at_axis axis.DepositBelt to ends h = cc
      at_axis axis.TableLift to ends h = arrival_in now plan (cell_of s) (Arrived axis.TableLift to) 0 h
      at_axis axis.TableTurn to ends h = arrival_in now plan (cell_of s) (Arrived axis.TableTurn to) 1 h
      at_axis axis.RobotTurn to ends h = arrival_in now plan (cell_of s) (Arrived axis.RobotTurn to) 2 h
      at_axis axis.ArmOne to ends h = arrival_in now plan (cell_of s) (Arrived axis.ArmOne to) 3 h
      at_axis axis.ArmTwo to ends h = arrival_in now plan (cell_of s) (Arrived axis.ArmTwo to) 4 h
      at_axis axis.PressOne to ends h = arrival_in now plan (cell_of s) (Arrived axis.PressOne to) 5 h
      at_axis axis.PressTwo to ends h = arrival_in now plan (cell_of s) (Arrived axis.PressTwo to) 6 h

  conveyed_fits : (a : Axis) (b : BeltMotion) → motion_to a b.dest ≡ Some b → machine_of_axis a ≡ m
      → going_of J a ≡ Some b.to
      → ((k : ℕ) → conveyed (cell_of s) a b.from b.dest ≡ Some (Conveyed a k b.dest)
      → Contains (unserved now plan (cell_of s)) (Conveyed a k b.dest))
      → MayBook (books (option_map (λ k. Conveyed a k b.dest) (plate_of J b.from)))
  conveyed_fits a b is own going place =
      plate_fits b.from (λ k. Conveyed a k b.dest) (λ k at. record {
        possible = place k (conveyed_is s a k b is (well a own) (going_is a (Some b.to) going) at);
        keeps = refl;
      })

  press_fits : (a : Axis) (t : Station)
      → ((k : ℕ) → forged_tests (cell_of s) (machine_of_axis a) k
      ≡ not_going (cell_of s) a pose.Top ∷ plate_not_at (cell_of s) t k ∷ [])
      → machine_of_axis a ≡ m → going_of J a ≡ Some pose.Top
      → ((k : ℕ) → forged (cell_of s) (machine_of_axis a) t ≡ Some (Forged (machine_of_axis a) k)
      → Contains (unserved now plan (cell_of s)) (Forged (machine_of_axis a) k))
      → MayBook (books (option_map (λ k. Forged (machine_of_axis a) k) (plate_of J t)))
  press_fits a t tests own going place =
      plate_fits t (λ k. Forged (machine_of_axis a) k) (λ k at. record {
        possible = place k (forged_is s (machine_of_axis a) a t k (tests k) (well a own)
            (going_is a (Some pose.Top) going) at);
        keeps = refl;
      })

  pub ending_fits : (a : Axis) (to : Pose) → machine_of_axis a ≡ m → going_of J a ≡ Some to
      → MayBook (books (ending J a to))
  ending_fits axis.FeedBelt pose.ToEnd own going =
      conveyed_fits axis.FeedBelt (record { to = pose.ToEnd; from = station.FeedIn; dest = station.FeedEnd }) refl own
      going
      (λ k h. belt_end_in now plan (cell_of s) (Conveyed axis.FeedBelt k station.FeedEnd) 0 h)
  ending_fits axis.FeedBelt pose.ToTable own going =
      conveyed_fits axis.FeedBelt (record { to = pose.ToTable; from = station.FeedEnd; dest = station.Table }) refl own
      going
      (λ k h. belt_end_in now plan (cell_of s) (Conveyed axis.FeedBelt k station.Table) 1 h)
  ending_fits axis.FeedBelt _ own going = tt
  ending_fits axis.DepositBelt pose.ToEnd own going =
      conveyed_fits axis.DepositBelt (record { to = pose.ToEnd; from = station.DepIn; dest = station.DepEnd }) refl own
      going
      (λ k h. belt_end_in now plan (cell_of s) (Conveyed axis.DepositBelt k station.DepEnd) 2 h)
  ending_fits axis.DepositBelt _ own going = tt
  ending_fits axis.PressOne pose.Top own going =
      press_fits axis.PressOne station.Press1 (λ k. refl) own going
      (λ k h. belt_end_in now plan (cell_of s) (Forged machine.Press1 k) 3 h)
  ending_fits axis.PressTwo pose.Top own going =
      press_fits axis.PressTwo station.Press2 (λ k. refl) own going
      (λ k h. belt_end_in now plan (cell_of s) (Forged machine.Press2 k) 4 h)
  ending_fits a to own going = arrival_fits a to own going refl

  -- the next plate's number is at most the greatest, since the light is green
  next_fits : plan ≤ 100000 → s.failed machine.Feed ≡ false → same_colour (s.lamp belt.Feed) colour.Green ≡ true
      → MayBook (laid_in s.expected (s.admitted + 1))
  next_fits most feeds lit =
      let next : nat_lt s.admitted plan ≡ true = still.green lit in
      rw (still.unexpected, past s.admitted next)
      (λ q. record {
        possible = sign_in now plan (cell_of s) (Admitted (s.admitted + 1)) 0
            (admitted_is plan s most feeds lit still.unexpected next);
        keeps = next;
      })
    where
      past : (n : ℕ) → nat_lt n plan ≡ true → nat_lt 100000 (n + 1) ≡ false
      past n next = grind (arith, nat_tests)

  sign_at : (n : Machine) → plan ≤ 100000 → s.failed n ≡ false → IsLit J n → MayBook (signed J n)
  sign_at machine.Feed most feeds lit =
      subst (λ (c : Situation). MayBook (laid_in c.expected (c.admitted + 1))) (sym told.cell)
      (next_fits most feeds
      (subst (λ (c : Situation). same_colour (c.lamp belt.Feed) colour.Green ≡ true) told.cell lit))
  sign_at machine.Deposit most takes lit =
      plate_fits station.DepEnd (λ k. Delivered k) (λ k at. record {
        possible = sign_in now plan (cell_of s) (Delivered k) 1 (delivered_is s k takes
            (subst (λ (c : Situation). same_colour (c.lamp belt.Deposit) colour.Green ≡ true) told.cell lit) at);
        keeps = refl;
      })
  sign_at machine.Table most works lit = tt
  sign_at machine.Robot most works lit = tt
  sign_at machine.Press1 most works lit = tt
  sign_at machine.Press2 most works lit = tt

  pub signed_fits : plan ≤ 100000 → IsLit J m → MayBook (signed J m)
  signed_fits most lit = sign_at m most healthy lit

  -- a machine that may fail can be declared failed, whatever the cause
  pub declared_fits : (why : Cause) → MayBook (Books (Declared m why))
  declared_fits why =
      λ q. let can = is_true (may m) q in
      record { possible = failure_among now plan s m (left m can healthy) healthy; keeps = can }
    where
      is_true : (b : Bool) → not b ≡ false → b ≡ true
      is_true true h = refl
      is_true false h = cc
