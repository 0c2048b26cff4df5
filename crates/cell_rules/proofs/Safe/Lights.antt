-- The lights: what a green light says.
use Rattle.std.proofs.Common.{◌≡◌, ◌≢◌, ℕ, Bool, true, false, cond, Option, Some, None, sym, ap, ◌∙◌, arith}
use Rattle.cell_types.specs.declared.words.Machine.{Machine}
use Rattle.cell_types.specs.declared.words.Station.{Station}
use Rattle.cell_types.specs.declared.words.Axis.{Axis}
use Rattle.cell_types.specs.declared.words.Pose.{Pose}
use Rattle.cell_types.specs.declared.words.Belt.{Belt}
use Rattle.cell_types.specs.declared.words.Colour.{Colour}
use Rattle.cell_types.specs.declared.words.Place.{Place}
use Rattle.cell_types.specs.declared.words.Entry.{Entry}
use Rattle.cell_types.specs.Same.{same_machine, same_station, same_axis, same_belt}
use Rattle.cell_types.specs.Cell.{machine_of_belt}
use Rattle.cell_rules.specs.declared.limits.BookLimits.{BookLimits}
use Rattle.cell_rules.specs.First.{started_tests, tests}
use Rattle.cell_types.specs.After.{Snapshot, with_at, without, with_plate}
use Rattle.cell_rules.specs.SituationIn.{situation_in}
use Rattle.cell_rules.proofs.Safe.Facts.{pose_same, Axes, axes_of, rest, Passed}
use Rattle.cell_rules.proofs.Safe.Motion.{MotionSafe, begun, fits}
use Rattle.cell_rules.proofs.Safe.Repairs.{homed}
use Rattle.cell_rules.proofs.Safe.Plates.{without_is}

pub record FeedLit (ax : Axes) (plate : Station → Option ℕ) : Type 0 where
  pub belt : ax Axis.FeedBelt ≡ rest Pose.Rest
  pub front : plate Station.FeedIn ≡ None
  pub back : plate Station.FeedEnd ≡ None

pub record DepositLit (plate : Station → Option ℕ) (failed : Machine → Bool) : Type 0 where
  pub healthy : failed Machine.Deposit ≡ false
  pub plate_there : ℕ
  pub there : plate Station.DepEnd ≡ Some plate_there

pub record LightsSafe (ax : Axes) (plate : Station → Option ℕ) (failed : Machine → Bool) (lamp : Belt
    → Colour) : Type 0 where
  pub feed : lamp Belt.Feed ≡ Colour.Green → FeedLit ax plate
  pub deposit : lamp Belt.Deposit ≡ Colour.Green → DepositLit plate failed

-- a still belt rests at Rest
pub feed_rests : (s : Snapshot) → fits Axis.FeedBelt (axes_of s Axis.FeedBelt) ≡ true → s.going Axis.FeedBelt ≡ None
    → axes_of s Axis.FeedBelt ≡ rest Pose.Rest
feed_rests s e f = grind (arith, pose_same)

-- a light turns green only by tests that ask for all that green says
pub lights_lamp : (s : Snapshot) (b : Belt) (to : Colour) → MotionSafe (axes_of s) s.holder
    → LightsSafe (axes_of s) s.plate s.failed s.lamp → (l : BookLimits)
    → Passed (tests l (situation_in s) (Entry.Lamp b to))
    → LightsSafe (axes_of s) s.plate s.failed (with_at (same_belt b) to s.lamp)
lights_lamp s b to e f l g = grind (arith, pose_same)

-- plates that come and go
pub feed_without : (ax : Axes) (plate : Station → Option ℕ) (k : ℕ) → FeedLit ax plate → FeedLit ax (without k plate)
feed_without ax plate k e = grind (arith, pose_same)

-- the plate of which the light tells is at the belt's end, and plate k isn't
pub deposit_without : (plate : Station → Option ℕ) (failed : Machine → Bool) (place : ℕ → Place) (k : ℕ)
    → ((t : Station) (j : ℕ) → plate t ≡ Some j → place j ≡ Place.At t) → place k ≢ Place.At Station.DepEnd
    → DepositLit plate failed → DepositLit (without k plate) failed
deposit_without plate failed place k there n o =
    record {
      healthy = o.healthy;
      plate_there = o.plate_there;
      there = without_is k plate Station.DepEnd o.plate_there o.there
          (λ e. n (ap place (sym e) ∙ there Station.DepEnd o.plate_there o.there));
    }

-- an axis starts: FeedBelt does so with a plate
feed_started : (s : Snapshot) (a : Axis) (to : Pose) → Passed (started_tests (situation_in s) a to)
    → FeedLit (axes_of s) s.plate → FeedLit (begun (axes_of s) a to) s.plate
feed_started s a to e f = grind (arith, pose_same)

pub lights_started : (s : Snapshot) (a : Axis) (to : Pose) → Passed (started_tests (situation_in s) a to)
    → LightsSafe (axes_of s) s.plate s.failed s.lamp → LightsSafe (begun (axes_of s) a to) s.plate s.failed s.lamp
lights_started s a to h o = record { feed = λ g. feed_started s a to h (o.feed g); deposit = o.deposit }

-- an axis comes to rest
pub feed_axis : (ax : Axes) (a : Axis) (p q : Pose) (plate : Station → Option ℕ) → (ax a).going ≡ Some q
    → FeedLit ax plate → FeedLit (with_at (same_axis a) (rest p) ax) plate
feed_axis ax a p q plate e f = grind (arith, pose_same)

-- a green feed light tells of a belt that stands, so the axis that stops is another one
pub lights_rests : (ax : Axes) (a : Axis) (p q : Pose) (plate : Station → Option ℕ) (failed : Machine
    → Bool) (lamp : Belt → Colour) → (ax a).going ≡ Some q → LightsSafe ax plate failed lamp
    → LightsSafe (with_at (same_axis a) (rest p) ax) plate failed lamp
lights_rests ax a p q plate failed lamp e f = grind (arith, pose_same)

-- a machine fails, or is repaired
pub lights_declared : (ax : Axes) (plate : Station → Option ℕ) (failed : Machine → Bool) (lamp : Belt
    → Colour) (m : Machine) → LightsSafe ax plate failed lamp
    → LightsSafe ax plate (with_at (same_machine m) true failed)
    (with_at (λ b. same_machine m (machine_of_belt b)) Colour.Red lamp)
lights_declared ax plate failed lamp m e = grind (arith, pose_same)

healthy_case : (b : Bool) (f : Bool) → f ≡ false → cond b false f ≡ false
healthy_case b f e = grind (arith, pose_same)

-- the feed belt's only pose is its home, so a repair leaves it there
belt_home : (ax : Axes) (b : Bool) → ax Axis.FeedBelt ≡ rest Pose.Rest
    → cond b (rest Pose.Rest) (ax Axis.FeedBelt) ≡ rest Pose.Rest
belt_home ax b e = grind (arith, pose_same)

pub lights_repaired : (ax : Axes) (plate : Station → Option ℕ) (failed : Machine → Bool) (lamp : Belt
    → Colour) (m : Machine) → LightsSafe ax plate failed lamp
    → LightsSafe (homed ax m) plate (with_at (same_machine m) false failed) lamp
lights_repaired ax plate failed lamp m e = grind (arith, pose_same)

-- a plate comes to a station that no light speaks of
pub deposit_placed : (plate : Station → Option ℕ) (failed : Machine → Bool) (place : ℕ → Place) (k : ℕ) (dest : Station)
    → same_station dest Station.DepEnd ≡ false → ((t : Station) (j : ℕ) → plate t ≡ Some j → place j ≡ Place.At t)
    → place k ≢ Place.At Station.DepEnd → DepositLit plate failed → DepositLit (with_plate k dest plate) failed
deposit_placed plate failed place k dest e there n o =
    let d = deposit_without plate failed place k there n o in
    record { healthy = d.healthy; plate_there = d.plate_there; there = rw e d.there }

feed_placed : (ax : Axes) (plate : Station → Option ℕ) (k : ℕ) (dest : Station)
    → same_station dest Station.FeedIn ≡ false → same_station dest Station.FeedEnd ≡ false → FeedLit ax plate
    → FeedLit ax (with_plate k dest plate)
feed_placed ax plate k dest e f g = grind (arith, pose_same)

pub lights_placed : (ax : Axes) (plate : Station → Option ℕ) (failed : Machine → Bool) (lamp : Belt → Colour) (place : ℕ
    → Place) (k : ℕ) (dest : Station) → same_station dest Station.FeedIn ≡ false
    → same_station dest Station.FeedEnd ≡ false → same_station dest Station.DepEnd ≡ false
    → ((t : Station) (j : ℕ) → plate t ≡ Some j → place j ≡ Place.At t) → place k ≢ Place.At Station.DepEnd
    → LightsSafe ax plate failed lamp → LightsSafe ax (with_plate k dest plate) failed lamp
lights_placed ax plate failed lamp place k dest e f g there n o =
    record {
      feed = λ d. feed_placed ax plate k dest e f (o.feed d);
      deposit = λ d. deposit_placed plate failed place k dest g there n (o.deposit d);
    }
