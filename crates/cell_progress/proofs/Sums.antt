-- The rank falls where the parts rise by less than the rest falls
use Rattle.std.proofs.Common.{◌≡◌, ℕ, ◌+◌, ◌-◌, ◌*◌, ◌<◌, ◌≤◌, Bool, true, false, Some, None}
use Rattle.std.proofs.Common.{refl, arith, if◌then◌else◌}
use Rattle.cell_types.specs.declared.words.Machine.{Machine}
use Rattle.cell_types.specs.declared.words.Machine.TheVariants as machine
use Rattle.cell_types.specs.declared.words.Station.{Station}
use Rattle.cell_types.specs.Same.{same_machine, same_station}
use Rattle.cell_types.specs.After.{Snapshot, with_at}
use Rattle.cell_rules.specs.Situations.{Situation}
use Rattle.cell_rules.proofs.Safe.Facts.{machine_same}
use Rattle.cell_progress.specs.Rank.{rank, sum_of, plates_of, plate_weight, lamps_rank, part, fail_rank}
use Rattle.cell_progress.specs.Rank.{may_weight, failed_weight}
use Rattle.cell_progress.proofs.Taken.{taken, left_at, come_at}
use Rattle.cell_progress.proofs.Stations.{sum_left, sum_came, sum_less, sum_more}

abbrev pub total : (Machine → ℕ) → ℕ
total u =
    u machine.Feed + (u machine.Table + (u machine.Robot + (u machine.Press1 + (u machine.Press2 + u machine.Deposit))))

-- all but the parts of the machines
abbrev pub rest_of : ℕ → (Machine → Bool) → Situation → ℕ
rest_of plan may c = 76 * (plan - c.admitted) + (plates_of c.occupied + (lamps_rank c.lamp + fail_rank may c.failed))

total_rises : (f g u : Machine → ℕ) → ((o : Machine) → g o ≤ f o + u o) → total g ≤ total f + total u
total_rises f g u k =
    omega (
      arith,
      k machine.Feed,
      k machine.Table,
      k machine.Robot,
      k machine.Press1,
      k machine.Press2,
      k machine.Deposit,
    )

total_falls : (f g : Machine → ℕ) (m : Machine) → g m < f m → ((o : Machine) → g o ≤ f o) → total g < total f
total_falls f g machine.Feed h k =
    omega (
      arith,
      k machine.Feed,
      k machine.Table,
      k machine.Robot,
      k machine.Press1,
      k machine.Press2,
      k machine.Deposit,
    )
total_falls f g _ h k =
    omega (
      arith,
      k machine.Feed,
      k machine.Table,
      k machine.Robot,
      k machine.Press1,
      k machine.Press2,
      k machine.Deposit,
    )

sum_falls : (n p l x n' p' l' x' : ℕ) (f g : Machine → ℕ)
    → (76 * n' + (p' + (l' + x'))) + total g < (76 * n + (p + (l + x))) + total f
    → sum_of n' p' l' g x' < sum_of n p l f x
sum_falls n p l x n' p' l' x' f g h = omega arith

by_total : (plan : ℕ) (may may' : Machine → Bool) (c d : Situation)
    → rest_of plan may' d + total (λ o. part o d) < rest_of plan may c + total (λ o. part o c)
    → rank plan may' d < rank plan may c
unfolding rank
by_total plan may may' c d h =
    sum_falls (plan - c.admitted) (plates_of c.occupied) (lamps_rank c.lamp) (fail_rank may c.failed)
    (plan - d.admitted) (plates_of d.occupied) (lamps_rank d.lamp) (fail_rank may' d.failed) (λ o. part o c)
    (λ o. part o d) h

-- each part rises by so much at most
pub by_rise : (plan : ℕ) (may may' : Machine → Bool) (c d : Situation) (u : Machine → ℕ)
    → ((o : Machine) → part o d ≤ part o c + u o) → rest_of plan may' d + total u < rest_of plan may c
    → rank plan may' d < rank plan may c
by_rise plan may may' c d u k h =
    by_total plan may may' c d
    (sums _ _ _ _ (total u) h (total_rises (λ o. part o c) (λ o. part o d) u k))
  where
    sums : (x y a b t : ℕ) → x + t < y → a ≤ b + t → x + a < y + b
    sums x y a b t h k = omega arith

-- one part falls, no other rises, and the rest stays the same
all_parts : (f g : Machine → ℕ) (m : Machine) → g m < f m → ((o : Machine) → same_machine m o ≡ false → g o ≤ f o)
    → (o : Machine) → g o ≤ f o
all_parts f g m h k o = let e = k o in grind (arith, machine_same)

pub by_own : (plan : ℕ) (may may' : Machine → Bool) (c d : Situation) (m : Machine)
    → rest_of plan may' d ≡ rest_of plan may c → part m d < part m c
    → ((o : Machine) → same_machine m o ≡ false → part o d ≤ part o c) → rank plan may' d < rank plan may c
by_own plan may may' c d m e h k =
    let f = λ (o : Machine). part o c in
    let g = λ (o : Machine). part o d in
    by_total plan may may' c d (sums _ _ _ _ e (total_falls f g m h (all_parts f g m h k)))
  where
    sums : (x y a b : ℕ) → x ≡ y → a < b → x + a < y + b
    sums x y a b e h = omega arith

-- a plate leaves, comes or moves
left_sum : (o : Station → Bool) (t : Station) → o t ≡ true
    → plates_of (left_at t o) + plate_weight t ≡ plates_of o
unfolding plates_of
left_sum o t e = sum_left plate_weight o t e

came_sum : (o : Station → Bool) (t : Station) → o t ≡ false
    → plates_of (come_at t o) ≡ plates_of o + plate_weight t
unfolding plates_of
came_sum o t e = sum_came plate_weight o t e

pub plates_left : (s : Snapshot) (t : Station) (k : ℕ) → s.plate t ≡ Some k
    → plates_of (left_at t (taken s)) + plate_weight t ≡ plates_of (taken s)
plates_left s t k e = left_sum (taken s) t (rw e)

pub plates_came : (s : Snapshot) (t : Station) → s.plate t ≡ None
    → plates_of (come_at t (taken s)) ≡ plates_of (taken s) + plate_weight t
plates_came s t e = came_sum (taken s) t (rw e)

pub plates_moved : (s : Snapshot) (src dest : Station) (k : ℕ) → s.plate src ≡ Some k → s.plate dest ≡ None
    → plates_of (come_at dest (left_at src (taken s))) + plate_weight src
    ≡ plates_of (taken s) + plate_weight dest
plates_moved s src dest k e f =
    omega (arith, came_sum (left_at src (taken s)) dest (none (same_station src dest)), plates_left s src k e)
  where
    none : (b : Bool) → (if b then false else taken s dest) ≡ false
    none true = refl
    none false = rw f

-- a machine fails, and one is repaired
pub fail_more : (may failed : Machine → Bool) (m : Machine) → may m ≡ true → failed m ≡ false
    → fail_rank (with_at (same_machine m) false may) (with_at (same_machine m) true failed) + may_weight m
    ≡ fail_rank may failed + failed_weight m
unfolding fail_rank
fail_more may failed m e f = omega (arith, sum_less may_weight may m e, sum_more failed_weight failed m f)

pub fail_less : (may failed : Machine → Bool) (m : Machine) → failed m ≡ true
    → fail_rank may (with_at (same_machine m) false failed) + failed_weight m ≡ fail_rank may failed
unfolding fail_rank
fail_less may failed m e = omega (arith, sum_less failed_weight failed m e)
