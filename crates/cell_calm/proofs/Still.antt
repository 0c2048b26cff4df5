-- What holds of a cell in which only some machines fail
use Rattle.std.proofs.Common.{◌≡◌, ℕ, Bool, true, false, ◌&&◌, ◌||◌, None, refl, ap, ◌+◌, ◌≤◌, arith, sym, ◌∙◌}
use Rattle.std.specs.Prelude.{not, nat_lt, is_some, if◌then◌else◌}
use Rattle.std.proofs.lemmas.Bool.Decides.{nat_tests}
use Rattle.cell_types.specs.declared.words.Machine.{Machine}
use Rattle.cell_types.specs.declared.words.Machine.TheVariants as machine
use Rattle.cell_types.specs.declared.words.Station.TheVariants as station
use Rattle.cell_types.specs.declared.words.Axis.TheVariants as axis
use Rattle.cell_types.specs.declared.words.Belt.{Belt}
use Rattle.cell_types.specs.declared.words.Belt.TheVariants as belt
use Rattle.cell_types.specs.declared.words.Colour.{Colour}
use Rattle.cell_types.specs.declared.words.Colour.TheVariants as colour
use Rattle.cell_types.specs.declared.words.Entry.{Entry}
use Rattle.cell_types.specs.declared.words.Entry.TheVariants.{Admitted, Declared, Expected, Lamp, Quarantined}
use Rattle.cell_types.specs.declared.words.Entry.TheVariants.{Reinstated, Repaired, StopAsked}
use Rattle.cell_types.specs.After.{Snapshot, darkened, opening, step, with_at}
use Rattle.cell_types.specs.Cell.{machine_of_belt}
use Rattle.cell_types.specs.Same.{same_colour, same_machine}
use Rattle.cell_rules.specs.Situations.{Situation}
use Rattle.cell_rules.specs.declared.limits.BookLimits.{BookLimits}
use Rattle.cell_rules.proofs.Safe.Facts.{machine_same}
use Rattle.cell_machines.specs.Lights.{feed_light, green_where}
use Rattle.cell_machines.specs.Reads.{is_at_rest}
use Rattle.cell_machines.specs.Room.{is_bookable}
use Rattle.cell_machines.specs.Useful.{is_useful_now}
use Rattle.cell_useful.specs.Cells.{ample}
use Rattle.cell_progress.specs.Orders.{cell_of, may_after}
use Rattle.cell_calm.specs.Calm.{plain_entry}

-- no machine has failed but those that may, no plate was cleared, is in quarantine or expected, no more plates were
-- admitted than there are to be, and the feed light is green only while plates are to come
pub record Still (may : Machine → Bool) (plan : ℕ) (s : Snapshot) : Type 0 where
  pub healthy : (m : Machine) → may m ≡ false → s.failed m ≡ false
  pub uncleared : s.quarantined ≡ 0
  pub unwaiting : (k : ℕ) → s.waits k ≡ None
  pub unexpected : s.expected ≡ None
  pub green : same_colour (s.lamp belt.Feed) colour.Green ≡ true → nat_lt s.admitted plan ≡ true
  pub few : s.admitted ≤ plan

pub still_start : (may : Machine → Bool) (plan : ℕ) → Still may plan opening
still_start may plan =
    record {
      healthy = λ m h. refl;
      uncleared = refl;
      unwaiting = λ k. refl;
      unexpected = refl;
      green = λ h. cc;
      few = omega arith;
    }

-- those that may fail and haven't failed are among those that may yet fail
abbrev pub AreLeft : (Machine → Bool) → (Machine → Bool) → Snapshot → Type 0
AreLeft may now s = (m : Machine) → may m ≡ true → s.failed m ≡ false → now m ≡ true

-- an entry of a failure and what follows it
abbrev pub is_of_failure : Entry → Bool
is_of_failure (Declared m cause) = true
is_of_failure (StopAsked m) = true
is_of_failure (Quarantined k src) = true
is_of_failure (Repaired m) = true
is_of_failure (Expected k) = true
is_of_failure (Reinstated k) = true
is_of_failure _ = false

-- what an entry that happens keeps to
abbrev pub Keeps : (Machine → Bool) → ℕ → Snapshot → Entry → Type 0
Keeps may plan s (Lamp belt.Feed colour.Green) = nat_lt s.admitted plan ≡ true
Keeps may plan s (Admitted k) = nat_lt s.admitted plan ≡ true
Keeps may plan s (Declared m why) = may m ≡ true
Keeps may plan s e = is_of_failure e ≡ false

-- one that may fail fails, and the others stay as they are
others_healthy : (may failed : Machine → Bool) (m n : Machine) → may m ≡ true → may n ≡ false → failed n ≡ false
    → with_at (same_machine m) true failed n ≡ false
others_healthy may failed m n q h healthy = go (same_machine m n) refl
  where
    differ : true ≡ false → ⊥
    differ e = cc

    go : (b : Bool) → same_machine m n ≡ b → (if b then true else failed n) ≡ false
    go true e = absurd (differ (sym q ∙ (ap may (machine_same m n e) ∙ h)))
    go false e = healthy

-- a failure leaves no light green that wasn't
green_before : (m : Machine) (lamp : Belt → Colour) (b : Belt) → same_colour (darkened m lamp b) colour.Green ≡ true
    → same_colour (lamp b) colour.Green ≡ true
green_before m lamp b h = go (same_machine m (machine_of_belt b)) h
  where
    go : (x : Bool) → same_colour (if x then colour.Red else lamp b) colour.Green ≡ true
        → same_colour (lamp b) colour.Green ≡ true
    go true h = cc
    go false h = h

pub still_step : (may : Machine → Bool) (plan : ℕ) (s : Snapshot) (e : Entry) → Keeps may plan s e → Still may plan s
    → Still may plan (step e s)
still_step may plan s (Lamp belt.Feed colour.Red) q h =
    record {
      healthy = h.healthy;
      uncleared = h.uncleared;
      unwaiting = h.unwaiting;
      unexpected = h.unexpected;
      green = λ g. cc;
      few = h.few;
    }
still_step may plan s (Lamp belt.Feed colour.Green) q h =
    record {
      healthy = h.healthy;
      uncleared = h.uncleared;
      unwaiting = h.unwaiting;
      unexpected = h.unexpected;
      green = λ g. q;
      few = h.few;
    }
still_step may plan s (Admitted k) q h =
    let more : s.admitted + 1 ≤ plan = grind (arith, nat_tests) in
    record {
      healthy = h.healthy;
      uncleared = h.uncleared;
      unwaiting = h.unwaiting;
      unexpected = h.unexpected;
      green = λ g. cc;
      few = more;
    }
still_step may plan s (Declared m why) q h =
    record {
      healthy = λ n g. others_healthy may s.failed m n q g (h.healthy n g);
      uncleared = h.uncleared;
      unwaiting = h.unwaiting;
      unexpected = h.unexpected;
      green = λ g. h.green (green_before m s.lamp belt.Feed g);
      few = h.few;
    }
still_step may plan s (StopAsked m) q h = cc
still_step may plan s (Quarantined k src) q h = cc
still_step may plan s (Repaired m) q h = cc
still_step may plan s (Expected k) q h = cc
still_step may plan s (Reinstated k) q h = cc
still_step may plan s e q h =
    record {
      healthy = h.healthy;
      uncleared = h.uncleared;
      unwaiting = h.unwaiting;
      unexpected = h.unexpected;
      green = h.green;
      few = h.few;
    }

pub left_step : (may now : Machine → Bool) (plan : ℕ) (s : Snapshot) (e : Entry) → Keeps may plan s e
    → AreLeft may now s → AreLeft may (may_after (plain_entry e) now) (step e s)
left_step may now plan s (Declared m why) q h =
    λ n can healthy. go n can (same_machine m n) healthy
  where
    go : (n : Machine) → may n ≡ true → (b : Bool) → (if b then true else s.failed n) ≡ false
        → (if b then false else now n) ≡ true
    go n can true g = cc
    go n can false g = h n can g
left_step may now plan s (Repaired m) q h = cc
left_step may now plan s _ q h = h

-- no machine wants an entry of a failure
pub wanted_fits : (l : BookLimits) (c : Situation) (plan : ℕ) (m : Machine) (e : Entry)
    → is_useful_now l c plan m e ≡ true → is_of_failure e ≡ false
unfolding is_useful_now
wanted_fits l c plan m (Lamp b to) h = refl
wanted_fits l c plan machine.Feed _ h = cc
wanted_fits l c plan machine.Table _ h = cc
wanted_fits l c plan machine.Robot _ h = cc
wanted_fits l c plan machine.Press1 _ h = cc
wanted_fits l c plan machine.Press2 _ h = cc
wanted_fits l c plan machine.Deposit _ h = cc

lit_then : (a b c d e f x : Bool) → f ≡ false
    → (same_colour colour.Green (green_where (a && (b && (c && (d && (e || f)))))) && x) ≡ true → e ≡ true
lit_then a b c d true f x none h = refl
lit_then a b c d false f x none h = grind arith

-- the feed light is wanted green only while plates are to come, since none is expected
lit_fits : (may : Machine → Bool) (plan : ℕ) (s : Snapshot) (m : Machine) → Still may plan s
    → is_useful_now ample (cell_of s) plan m (Lamp belt.Feed colour.Green) ≡ true → nat_lt s.admitted plan ≡ true
unfolding is_useful_now feed_light
lit_fits may plan s machine.Feed h u =
    let c = cell_of s in
    lit_then (not (s.failed machine.Feed)) (is_at_rest c axis.FeedBelt) (not (c.occupied station.FeedIn))
    (not (c.occupied station.FeedEnd)) (nat_lt s.admitted plan) (is_some s.expected)
    (is_bookable ample c (Lamp belt.Feed colour.Green)) (ap is_some h.unexpected) u
lit_fits may plan s _ h u = cc

-- no machine wants to admit a plate
unadmitted : (plan : ℕ) (s : Snapshot) (m : Machine) (k : ℕ)
    → is_useful_now ample (cell_of s) plan m (Admitted k) ≡ true → nat_lt s.admitted plan ≡ true
unfolding is_useful_now
unadmitted plan s machine.Feed k u = cc
unadmitted plan s machine.Table k u = cc
unadmitted plan s machine.Robot k u = cc
unadmitted plan s machine.Press1 k u = cc
unadmitted plan s machine.Press2 k u = cc
unadmitted plan s machine.Deposit k u = cc

pub useful_keeps : (may : Machine → Bool) (plan : ℕ) (s : Snapshot) (m : Machine) (e : Entry) → Still may plan s
    → is_useful_now ample (cell_of s) plan m e ≡ true → Keeps may plan s e
useful_keeps may plan s m (Lamp belt.Feed colour.Green) h u = lit_fits may plan s m h u
useful_keeps may plan s m (Admitted k) h u = unadmitted plan s m k u
useful_keeps may plan s m (Declared n why) h u =
    let never : true ≡ false = wanted_fits ample (cell_of s) plan m (Declared n why) u in cc never
useful_keeps may plan s m e h u = wanted_fits ample (cell_of s) plan m e u
