-- By how much an entry raises the parts of machines at most: plates that move, failures, repairs and clearings
use Rattle.std.proofs.Common.{◌≡◌, ℕ, ◌+◌, ◌≤◌, Bool, true, false, ◌&&◌, Some, is_some, refl, arith, subst}
use Rattle.std.specs.Prelude.{if◌then◌else◌}
use Rattle.std.proofs.lemmas.Bool.Decides.{nat_tests}
use Rattle.cell_types.specs.declared.words.Machine.{Machine}
use Rattle.cell_types.specs.declared.words.Machine.TheVariants as machine
use Rattle.cell_types.specs.declared.words.Station.{Station}
use Rattle.cell_types.specs.declared.words.Station.TheVariants as station
use Rattle.cell_types.specs.declared.words.Axis.TheVariants as axis
use Rattle.cell_types.specs.declared.words.Pose.TheVariants as pose
use Rattle.cell_types.specs.declared.words.Zone.{Zone}
use Rattle.cell_types.specs.declared.words.Zone.TheVariants as zone
use Rattle.cell_types.specs.declared.words.Arm.TheVariants as arm
use Rattle.cell_types.specs.declared.words.Belt.{Belt}
use Rattle.cell_types.specs.declared.words.Belt.TheVariants as belt
use Rattle.cell_types.specs.declared.words.Colour.{Colour}
use Rattle.cell_types.specs.declared.words.Colour.TheVariants as colour
use Rattle.cell_types.specs.declared.words.Cause.{Cause}
use Rattle.cell_types.specs.declared.words.Entry.{Entry}
use Rattle.cell_types.specs.declared.words.Entry.TheVariants.{Lamp, Admitted, Conveyed, Delivered}
use Rattle.cell_types.specs.declared.words.Entry.TheVariants.{Declared, Quarantined, Repaired}
use Rattle.cell_types.specs.Same.{same_machine}
use Rattle.cell_types.specs.Cell.{machine_of_station, owner, visitor}
use Rattle.cell_types.specs.After.{Snapshot, is_machine, freed}
use Rattle.cell_rules.specs.First.{any_visited, any_still_there}
use Rattle.cell_rules.specs.Situations.{Situation}
use Rattle.cell_rules.proofs.Safe.Facts.{machine_same, axes_of, rest}
use Rattle.cell_rules.proofs.Safe.Motion.{TableWaits, Ready, Spot, TableSpot, Load1, Load2, Unload1, Unload2}
use Rattle.cell_rules.proofs.Safe.Motion.{DepositSpot, spot_arm}
use Rattle.cell_machines.specs.Jobs.{has_job, has_job_in}
use Rattle.cell_machines.specs.Robot.{holds_a_zone}
use Rattle.cell_progress.specs.Orders.{cell_of}
use Rattle.cell_progress.specs.Rank.{part, robot_rank, lamps_rank, has_work, is_there, is_turned_in}
use Rattle.cell_progress.proofs.Passing.{Allowed}
use Rattle.cell_progress.proofs.Taken.{taken}
use Rattle.cell_progress.proofs.RobotRank.{robot_kept, robot_eight, robot_most}
use Rattle.cell_progress.proofs.RobotFalls.{holds_none}
use Rattle.cell_progress.proofs.ArmFalls.{handing, Reach, reach_bits, out_most}
use Rattle.cell_progress.proofs.Keeping.{next, part_held, freed_mine, freed_other, keep_table, keep_repaired, keep_low}
use Rattle.cell_progress.proofs.Keeping.{keep_cleared, le_same}

-- no part is raised but one, or two
abbrev pub up : Machine → ℕ → Machine → ℕ
up m n o = if same_machine m o then n else 0

abbrev pub Rises : Snapshot → Entry → (Machine → ℕ) → Type 0
Rises s e u = (o : Machine) → part o (next e s) ≤ part o (cell_of s) + u o

same : (n : ℕ) → n ≤ n + 0
same n = omega arith

kept : (n m : ℕ) → n ≤ m → n ≤ m + 0
kept n m h = omega arith

most_more : (n m k : ℕ) → n ≤ m → n ≤ m + k
most_more n m k h = omega arith

most : (n m k : ℕ) → n ≤ k → n ≤ m + k
most n m k h = omega arith

-- entries that no part reads
pub lamp_rises : (s : Snapshot) (b : Belt) (to : Colour) → Rises s (Lamp b to) (λ o. 0)
unfolding has_work is_there holds_a_zone has_job_in has_job is_turned_in
lamp_rises s b to machine.Feed = same (part machine.Feed (cell_of s))
lamp_rises s b to o = same (part o (cell_of s))

pub admitted_rises : (s : Snapshot) (k : ℕ) → Rises s (Admitted k) (λ o. 0)
unfolding has_work is_there holds_a_zone has_job_in has_job is_turned_in
admitted_rises s k machine.Feed = same (part machine.Feed (cell_of s))
admitted_rises s k o = same (part o (cell_of s))

pub delivered_rises : (s : Snapshot) (k : ℕ) → Rises s (Delivered k) (λ o. 0)
unfolding has_work is_there holds_a_zone has_job_in has_job is_turned_in
delivered_rises s k machine.Feed = same (part machine.Feed (cell_of s))
delivered_rises s k o = same (part o (cell_of s))

-- a light turns red where a plate comes or goes
pub admitted_lamp : (s : Snapshot) (k : ℕ) → s.lamp belt.Feed ≡ colour.Green
    → lamps_rank (next (Admitted k) s).lamp ≡ lamps_rank s.lamp + 1
unfolding lamps_rank
admitted_lamp s k e = grind (arith, nat_tests)

pub delivered_lamp : (s : Snapshot) (k : ℕ) → s.lamp belt.Deposit ≡ colour.Green
    → lamps_rank (next (Delivered k) s).lamp ≡ lamps_rank s.lamp + 1
unfolding lamps_rank
delivered_lamp s k e = grind (arith, nat_tests)

-- the feed belt's motions end
pub end_rises : (s : Snapshot) (k : ℕ) → s.going axis.FeedBelt ≡ Some pose.ToEnd
    → Rises s (Conveyed axis.FeedBelt k station.FeedEnd) (up machine.Feed 1)
unfolding has_work is_there holds_a_zone has_job_in has_job is_turned_in
end_rises s k g machine.Feed = grind (arith, nat_tests)
end_rises s k g o = same (part o (cell_of s))

abbrev pub up_table : Machine → ℕ
up_table o = up machine.Feed 3 o + up machine.Table 8 o

pub to_table_rises : (s : Snapshot) (k : ℕ) → s.going axis.FeedBelt ≡ Some pose.ToTable
    → TableWaits (axes_of s) s.holder → Rises s (Conveyed axis.FeedBelt k station.Table) up_table
unfolding is_machine
to_table_rises s k g w machine.Feed = grind (arith, nat_tests)
to_table_rises s k g w machine.Table = grind (arith, nat_tests)
to_table_rises s k g w machine.Robot =
    kept _ (robot_rank (cell_of s))
    (robot_kept (cell_of s) (next (Conveyed axis.FeedBelt k station.Table) s) (refl, refl, refl, refl, refl)
    (λ z. keep_table s k z w.lift))
to_table_rises s k g w o = same (part o (cell_of s))

-- an arm hands a plate over
abbrev pub up_handing : Spot → Machine → ℕ
up_handing x machine.Robot = 8
up_handing TableSpot machine.Table = 8
up_handing Load1 machine.Press1 = 6
up_handing Load2 machine.Press2 = 6
up_handing Unload1 machine.Press1 = 4
up_handing Unload2 machine.Press2 = 4
up_handing DepositSpot machine.Deposit = 4
up_handing _ _ = 0

handing_robot : (s : Snapshot) (k : ℕ) (x : Spot) → Reach s (spot_arm x) → robot_rank (next (handing x k) s) ≤ 8
handing_robot s k TableSpot r =
    out_most (cell_of s) (next (handing TableSpot k) s) (is_some (s.going axis.RobotTurn))
    (reach_bits s arm.Arm1 (is_some (s.going axis.RobotTurn)) r refl) (refl, refl, refl, refl, refl)
handing_robot s k x r =
    out_most (cell_of s) (next (handing x k) s) (is_some (s.going axis.RobotTurn))
    (reach_bits s (spot_arm x) (is_some (s.going axis.RobotTurn)) r refl) (refl, refl, refl, refl, refl)

pub handing_rises : (s : Snapshot) (k : ℕ) (x : Spot) → Ready (axes_of s) x → Reach s (spot_arm x)
    → Rises s (handing x k) (up_handing x)
handing_rises s k x r h machine.Robot =
    most (robot_rank (next (handing x k) s)) (robot_rank (cell_of s)) 8 (handing_robot s k x h)
handing_rises s k TableSpot r _ machine.Feed = grind (arith, nat_tests)
handing_rises s k TableSpot r _ machine.Table = grind (arith, nat_tests)
handing_rises s k Load1 r _ machine.Press1 = grind (arith, nat_tests)
handing_rises s k Load2 r _ machine.Press2 = grind (arith, nat_tests)
handing_rises s k Unload1 r _ machine.Press1 = grind (arith, nat_tests)
handing_rises s k Unload2 r _ machine.Press2 = grind (arith, nat_tests)
handing_rises s k DepositSpot r _ machine.Deposit = grind (arith, nat_tests)
handing_rises s k _ r _ o = same (part o (cell_of s))

-- a machine fails: the table's failure is dear to the robot or to Feed, not to both
abbrev pub up_failed : Machine → Bool → Machine → ℕ
up_failed machine.Feed h o = 0
up_failed machine.Robot h o = 0
up_failed machine.Table true o = up machine.Feed 2 o
up_failed _ _ o = up machine.Robot 8 o

pub failed_rises : (s : Snapshot) (m : Machine) (why : Cause) (b : Bool)
    → is_machine machine.Feed (s.holder zone.Z1) ≡ b → (b ≡ true → axes_of s axis.TableLift ≡ rest pose.Low)
    → Rises s (Declared m why) (up_failed m b)
unfolding has_work is_there holds_a_zone has_job_in has_job is_turned_in
failed_rises s machine.Table why true e l machine.Robot =
    kept _ (robot_rank (cell_of s))
    (robot_kept (cell_of s) (next (Declared machine.Table why) s) (refl, refl, refl, refl, refl)
    (λ z. keep_low s why z (l refl)))
failed_rises s machine.Table why true e l machine.Feed = rw e (grind (arith, nat_tests))
failed_rises s machine.Table why false e l machine.Feed = rw e (grind (arith, nat_tests))
failed_rises s machine.Feed why b e l machine.Feed = same (part machine.Feed (cell_of s))
failed_rises s machine.Feed why b e l o = same (part o (cell_of s))
failed_rises s machine.Robot why b e l machine.Feed = same (part machine.Feed (cell_of s))
failed_rises s machine.Robot why b e l o = same (part o (cell_of s))
failed_rises s m why b e l machine.Robot =
    robot_eight (cell_of s) (next (Declared m why) s) (refl, refl, refl, refl, refl)
failed_rises s _ why b e l o = same (part o (cell_of s))

pub dark_rises : (s : Snapshot) (m : Machine) (why : Cause)
    → lamps_rank (next (Declared m why) s).lamp ≤ lamps_rank s.lamp + (up machine.Feed 1 m + up machine.Deposit 1 m)
unfolding lamps_rank
dark_rises s machine.Feed why = grind arith
dark_rises s machine.Deposit why = grind arith
dark_rises s m why = same (lamps_rank s.lamp)

-- a machine is repaired: it goes home, is empty, and holds nothing
abbrev pub up_repaired : Machine → Machine → ℕ
up_repaired machine.Feed machine.Feed = 2
up_repaired machine.Robot machine.Robot = 5
up_repaired _ _ = 0

record Repairs (s : Snapshot) (m : Machine) : Type 0 where
  failed : s.failed m ≡ true
  alone : (z : Zone) → (same_machine (owner z) m && is_machine (visitor z) (s.holder z)) ≡ false
  empty : (t : Station) → (same_machine (machine_of_station t) m && taken s t) ≡ false

repairs : (s : Snapshot) (m : Machine) → Allowed s (Repaired m) → Repairs s m
unfolding any_visited any_still_there
repairs s m p = record { failed = grind arith; alone = λ z. grind arith; empty = λ t. grind arith }

repaired_own : (s : Snapshot) (m : Machine) → Repairs s m
    → part m (next (Repaired m) s) ≤ part m (cell_of s) + up_repaired m m
unfolding has_work is_there
repaired_own s machine.Feed w =
    rw (freed_mine machine.Feed (s.holder zone.Z1)) (most 2 (part machine.Feed (cell_of s)) 2 (omega arith))
repaired_own s machine.Table w =
    rw (w.empty station.Table, freed_mine machine.Table (s.holder zone.Z1), freed_mine machine.Table (s.holder zone.Z2))
    (omega arith)
repaired_own s machine.Robot w =
    let n = holds_none (next (Repaired machine.Robot) s) (λ z. freed_mine machine.Robot (s.holder z)) in
    rw n (most 5 (robot_rank (cell_of s)) 5 (omega arith))
repaired_own s machine.Press1 w =
    rw (w.empty station.Press1, freed_mine machine.Press1 (s.holder zone.Z3)) (omega arith)
repaired_own s machine.Press2 w =
    rw (w.empty station.Press2, freed_mine machine.Press2 (s.holder zone.Z4)) (omega arith)
repaired_own s machine.Deposit w =
    rw (w.empty station.DepIn, freed_mine machine.Deposit (s.holder zone.Z5)) (omega arith)

-- the state after a repair, but for the zones
abbrev holding : Snapshot → Machine → Situation
holding s m = record (next (Repaired m) s) { holder = s.holder }

repaired_other : (s : Snapshot) (m o : Machine) → Repairs s m → same_machine m o ≡ false
    → same_machine o machine.Robot ≡ false → part o (holding s m) ≤ part o (cell_of s)
repaired_other s m machine.Robot w n r = cc
repaired_other s machine.Table machine.Feed w n r = feed_term s w.failed
  where
    feed_term : (s : Snapshot) → s.failed machine.Table ≡ true
        → part machine.Feed (holding s machine.Table) ≤ part machine.Feed (cell_of s)
    feed_term s e = grind (arith, nat_tests)
repaired_other s machine.Feed machine.Feed w n r = cc
repaired_other s machine.Table machine.Table w n r = cc
repaired_other s machine.Press1 machine.Press1 w n r = cc
repaired_other s machine.Press2 machine.Press2 w n r = cc
repaired_other s machine.Deposit machine.Deposit w n r = cc
repaired_other s _ o w n r = le_same (part o (cell_of s))

repaired_else : (s : Snapshot) (m o : Machine) → Repairs s m → same_machine m o ≡ false
    → same_machine o machine.Robot ≡ false → part o (next (Repaired m) s) ≤ part o (cell_of s) + up_repaired m o
repaired_else s m o w n r =
    as_much (part o (next (Repaired m) s)) (part o (holding s m)) (part o (cell_of s)) (up_repaired m o)
    (part_held (holding s m) (freed m s.holder) o (λ z. freed_other m o (s.holder z) n)) (repaired_other s m o w n r)
  where
    as_much : (a b c u : ℕ) → a ≡ b → b ≤ c → a ≤ c + u
    as_much a b c u e h = omega arith

repaired_robot : (s : Snapshot) (m : Machine) → Repairs s m → same_machine m machine.Robot ≡ false
    → robot_rank (next (Repaired m) s) ≤ robot_rank (cell_of s)
repaired_robot s machine.Robot w n = cc
repaired_robot s m w n =
    robot_kept (cell_of s) (next (Repaired m) s) (refl, refl, refl, refl, refl)
    (λ z. keep_repaired s m z n w.alone)

repaired_case : (s : Snapshot) (m o : Machine) (b : Bool) → Repairs s m → same_machine m o ≡ b
    → part o (next (Repaired m) s) ≤ part o (cell_of s) + up_repaired m o
repaired_case s m o true w e =
    subst (λ (x : Machine). part x (next (Repaired m) s) ≤ part x (cell_of s) + up_repaired m x) (machine_same m o e)
    (repaired_own s m w)
repaired_case s m machine.Robot false w e =
    most_more (robot_rank (next (Repaired m) s)) (robot_rank (cell_of s)) (up_repaired m machine.Robot)
    (repaired_robot s m w e)
repaired_case s m machine.Feed false w e = repaired_else s m machine.Feed w e refl
repaired_case s m o false w e = repaired_else s m o w e refl

pub repaired_rises : (s : Snapshot) (m : Machine) → Allowed s (Repaired m) → Rises s (Repaired m) (up_repaired m)
repaired_rises s m p o = repaired_case s m o (same_machine m o) (repairs s m p) refl

-- a station of a failed machine is cleared
abbrev pub up_cleared : Station → Machine → ℕ
up_cleared station.Table machine.Table = 8
up_cleared station.Press1 machine.Press1 = 6
up_cleared station.Press2 machine.Press2 = 6
up_cleared station.DepIn _ = 0
up_cleared station.DepEnd _ = 0
up_cleared _ machine.Robot = 9
up_cleared _ _ = 0

pub cleared_rises : (s : Snapshot) (k : ℕ) (t : Station) → s.failed (machine_of_station t) ≡ true
    → Rises s (Quarantined k t) (up_cleared t)
unfolding has_work is_there holds_a_zone has_job_in has_job is_turned_in
cleared_rises s k station.DepIn e machine.Robot =
    kept _ (robot_rank (cell_of s))
    (robot_kept (cell_of s) (next (Quarantined k station.DepIn) s) (refl, refl, refl, refl, refl)
    (λ z. keep_cleared s k z e))
cleared_rises s k station.DepEnd e machine.Robot = same (robot_rank (cell_of s))
cleared_rises s k t e machine.Robot =
    most (robot_rank (next (Quarantined k t) s)) (robot_rank (cell_of s)) 9 (robot_most (next (Quarantined k t) s))
cleared_rises s k station.Table e machine.Feed = rw e (grind (arith, nat_tests))
cleared_rises s k station.Table e machine.Table = grind (arith, nat_tests)
cleared_rises s k station.Press1 e machine.Press1 = grind (arith, nat_tests)
cleared_rises s k station.Press2 e machine.Press2 = grind (arith, nat_tests)
cleared_rises s k station.DepIn e machine.Deposit = grind (arith, nat_tests)
cleared_rises s k _ e o = same (part o (cell_of s))
