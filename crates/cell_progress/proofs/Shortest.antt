-- How low the rank can get, and so how many entries there can be
use Rattle.std.proofs.Common.{◌≡◌, ◌≢◌, ◌⊎◌, ℕ, ◌+◌, ◌-◌, ◌*◌, ◌<◌, ◌≤◌, Bool, true, false, Option, Some}
use Rattle.std.proofs.Common.{None, is_some, ◌||◌, List, [], ◌∷◌, arith, length, suc}
use Rattle.std.specs.Prelude.{nat_lt}
use Rattle.std.specs.List.{Contains}
use Rattle.cell_types.specs.declared.words.Machine.{Machine}
use Rattle.cell_types.specs.declared.words.Axis.{Axis}
use Rattle.cell_types.specs.declared.words.Station.{Station}
use Rattle.cell_types.specs.declared.words.Zone.{Zone}
use Rattle.cell_types.specs.declared.words.Pose.{Pose}
use Rattle.cell_types.specs.declared.words.Belt.{Belt}
use Rattle.cell_types.specs.declared.words.Colour.{Colour}
use Rattle.cell_types.specs.declared.words.Entry.{Entry}
use Rattle.cell_types.specs.After.{Snapshot, opening, after, after_from, is_machine, step}
use Rattle.cell_machines.specs.Robot.{holds_a_zone}
use Rattle.cell_useful.specs.Moves.{entries_of, acts_of, is_left, is_nil}
use Rattle.cell_progress.specs.Orders.{cell_of, may_after, may_then, IsPossible, IsOnePress}
use Rattle.cell_progress.specs.Rank.{rank, sum_of, plates_of, lamps_rank, feed_rank, part, fail_rank, most_failures}
use Rattle.cell_progress.specs.Rank.{has_work, is_there}
use Rattle.cell_progress.proofs.Happening.{happens}
use Rattle.cell_progress.proofs.States.{Done, served_done}
use Rattle.cell_progress.proofs.Robots.{holds_nothing}
use Rattle.cell_progress.proofs.Whole.{Whole, whole_start, whole_step, whole_from}
use Rattle.cell_progress.proofs.Falls.{falls}
use Rattle.cell_progress.proofs.Onward.{kept, finished_nil, goes, served_free, whole_after}

-- the rank falls with every entry
pub rank_law : (plan : ℕ) (serves : Bool) (may : Machine → Bool) (es : List Entry) (e : Entry)
    → IsPossible plan serves may opening es
    → Contains (entries_of plan serves (may_then es may) (cell_of (after es))) e
    → rank plan (may_after e (may_then es may)) (cell_of (step e (after es)))
    < rank plan (may_then es may) (cell_of (after es))
rank_law plan serves may es e h i =
    falls plan (may_then es may) (after es) e (whole_after plan serves may es h)
    (happens plan serves (may_then es may) (cell_of (after es)) e i)

-- so each entry takes one of it at least
pub longer : (n a b d : ℕ) → n + a ≤ b → b < d → suc n + a ≤ d
longer n a b d h g = omega arith

bounded : (plan : ℕ) (serves : Bool) (may : Machine → Bool) (s : Snapshot) (es : List Entry) → Whole plan s
    → IsPossible plan serves may s es
    → length es + rank plan (may_then es may) (cell_of (after_from s es)) ≤ rank plan may (cell_of s)
bounded plan serves may s [] w h = omega arith
bounded plan serves may s (e ∷ es) w h =
    let x = happens plan serves may (cell_of s) e h.0 in
    longer (length es) (rank plan (may_then es (may_after e may)) (cell_of (after_from (step e s) es)))
    (rank plan (may_after e may) (cell_of (step e s))) (rank plan may (cell_of s))
    (bounded plan serves (may_after e may) (step e s) es (whole_step plan may s e w x) h.1) (falls plan may s e w x)

-- the rank of the opening
pub opening_rank : (plan : ℕ) (may : Machine → Bool)
    → rank plan may (cell_of opening) ≤ (76 * plan + 9) + most_failures may
unfolding rank plates_of lamps_rank fail_rank holds_a_zone has_work is_there is_machine
opening_rank plan may = omega arith

-- at the end both lights are red, since a green one tells of a plate
lamps_last : (s : Snapshot) (plan : ℕ) → Whole plan s → Done s plan → lamps_rank s.lamp ≡ 2
unfolding lamps_rank
lamps_last s plan w d =
    let f : s.lamp Belt.Feed ≡ Colour.Red = red (s.lamp Belt.Feed) (nat_lt s.admitted plan) w.more.green d.admitted in
    let g : s.lamp Belt.Deposit ≡ Colour.Red = red (s.lamp Belt.Deposit) (is_some (s.plate Station.DepEnd))
    (λ e. rw (w.reached.inv.lights.deposit e).there) (rw d.dep_back) in
    rw (f, g)
  where
    red : (c : Colour) (b : Bool) → (c ≡ Colour.Green → b ≡ true) → b ≡ false → c ≡ Colour.Red
    red c b h n = grind arith

-- Feed and the robot are at rest, and hold nothing
feed_last : (s : Snapshot) (plan : ℕ) → Done s plan → part Machine.Feed (cell_of s) ≡ 2
unfolding is_machine
feed_last s plan d = by_holder (s.going Axis.FeedBelt) (s.holder Zone.Z1) d.idle.feed_still d.idle.feed_free
  where
    by_holder : (g : Option Pose) (o : Option Machine) → g ≡ None → o ≢ Some Machine.Feed
        → feed_rank g (is_machine Machine.Feed o) (is_some (s.plate Station.Table) || s.failed Machine.Table) ≡ 2
    by_holder g o e n = grind arith

robot_last : (s : Snapshot) (plan : ℕ) → Done s plan → part Machine.Robot (cell_of s) ≡ 5
robot_last s plan d =
    let r = d.idle.drawn in rw (r.one, r.two, r.one_in, r.two_in, r.still, holds_nothing s d.idle.none_held)

rank_last : (s : Snapshot) (plan : ℕ) (may : Machine → Bool) → Whole plan s → Done s plan
    → 9 ≤ rank plan may (cell_of s)
unfolding rank
rank_last s plan may w d =
    sums (plan - s.admitted) (plates_of (cell_of s).occupied) (lamps_rank s.lamp) (λ m. part m (cell_of s))
    (fail_rank may s.failed) (lamps_last s plan w d) (feed_last s plan d) (robot_last s plan d)
  where
    sums : (n p l : ℕ) (f : Machine → ℕ) (m : ℕ) → l ≡ 2 → f Machine.Feed ≡ 2 → f Machine.Robot ≡ 5
        → 9 ≤ sum_of n p l f m
    sums n p l f m h i j = omega arith

-- and since an operator who serves leads on to such an end, the rank is nowhere lower
rank_least : (plan : ℕ) (may : Machine → Bool) (s : Snapshot) → plan ≤ 100000 → Whole plan s
    → 9 ≤ rank plan may (cell_of s)
rank_least plan may s p w =
    let g = goes plan true may s w (served_free plan may s p w) in
    let t = after_from s g.rest in
    let x : Whole plan t = whole_from plan true may s g.rest w g.possible in
    let d = served_done t plan p (kept plan t x)
    (finished_nil (is_left plan (cell_of t)) (is_nil (acts_of plan true (cell_of t))) g.finished) in
    sums (length g.rest) (rank plan (may_then g.rest may) (cell_of t)) (rank plan may (cell_of s))
    (rank_last t plan (may_then g.rest may) x d.done) (bounded plan true may s g.rest w g.possible)
  where
    sums : (n a b : ℕ) → 9 ≤ a → n + a ≤ b → 9 ≤ b
    sums n a b h i = omega arith

pub short : (plan : ℕ) (serves : Bool) (may : Machine → Bool) (es : List Entry) → plan ≤ 100000
    → IsPossible plan serves may opening es → length es ≤ 76 * plan + most_failures may
short plan serves may es p h =
    sums (length es) (rank plan (may_then es may) (cell_of (after es))) (rank plan may (cell_of opening)) plan
    (most_failures may) (bounded plan serves may opening es (whole_start plan) h) (opening_rank plan may)
    (rank_least plan (may_then es may) (after es) p (whole_after plan serves may es h))
  where
    sums : (n a b p f : ℕ) → n + a ≤ b → b ≤ (76 * p + 9) + f → 9 ≤ a → n ≤ 76 * p + f
    sums n a b p f h i k = omega arith

-- where one press may fail, or nothing at all
one_fails_most : (may : Machine → Bool) → IsOnePress may → most_failures may ≤ 10
one_fails_most may o = by_press o.0 o.1 o.2
  where
    by_press : (p : Machine) → (p ≡ Machine.Press1) ⊎ (p ≡ Machine.Press2) → ((m : Machine) → may m ≡ true → m ≡ p)
        → most_failures may ≤ 10
    by_press p q f =
        grind (
          arith,
          f Machine.Feed,
          f Machine.Table,
          f Machine.Robot,
          f Machine.Press1,
          f Machine.Press2,
          f Machine.Deposit,
        )

pub short_law : (plan : ℕ) (serves : Bool) (may : Machine → Bool) (es : List Entry) → plan ≤ 100000 → IsOnePress may
    → IsPossible plan serves may opening es → length es ≤ 76 * plan + 10
short_law plan serves may es p o h =
    sums (length es) (76 * plan) (most_failures may) (short plan serves may es p h) (one_fails_most may o)
  where
    sums : (n a f : ℕ) → n ≤ a + f → f ≤ 10 → n ≤ a + 10
    sums n a f h i = omega arith

pub calm_law : (plan : ℕ) (serves : Bool) (may : Machine → Bool) (es : List Entry) → plan ≤ 100000
    → ((m : Machine) → may m ≡ false) → IsPossible plan serves may opening es → length es ≤ 76 * plan
calm_law plan serves may es p c h =
    sums (length es) (76 * plan) (most_failures may) (short plan serves may es p h) none
  where
    none : most_failures may ≡ 0
    none = rw (c Machine.Feed, c Machine.Table, c Machine.Robot, c Machine.Press1, c Machine.Press2, c Machine.Deposit)

    sums : (n a f : ℕ) → n ≤ a + f → f ≡ 0 → n ≤ a
    sums n a f h i = omega arith
