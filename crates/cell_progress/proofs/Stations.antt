-- Sums over stations and over machines, where one is added or left out
use Rattle.std.proofs.Common.{◌≡◌, ℕ, ◌+◌, Bool, true, false, arith}
use Rattle.cell_types.specs.declared.words.Machine.{Machine}
use Rattle.cell_types.specs.declared.words.Machine.TheVariants as machine
use Rattle.cell_types.specs.declared.words.Station.{Station}
use Rattle.cell_types.specs.declared.words.Station.TheVariants as station
use Rattle.cell_types.specs.Same.{same_machine, same_station}
use Rattle.cell_types.specs.After.{with_at}
use Rattle.cell_progress.specs.Rank.{stations_sum, machines_sum}

-- a plate leaves a station
pub sum_left : (w : Station → ℕ) (o : Station → Bool) (t : Station) → o t ≡ true
    → stations_sum w (with_at (same_station t) false o) + w t ≡ stations_sum w o
sum_left w o station.FeedIn e = rw e (omega arith)
sum_left w o _ e = rw e (omega arith)

-- a plate comes to one
pub sum_came : (w : Station → ℕ) (o : Station → Bool) (t : Station) → o t ≡ false
    → stations_sum w (with_at (same_station t) true o) ≡ stations_sum w o + w t
sum_came w o station.FeedIn e = rw e (omega arith)
sum_came w o _ e = rw e (omega arith)

-- the same of machines
pub sum_less : (w : Machine → ℕ) (o : Machine → Bool) (m : Machine) → o m ≡ true
    → machines_sum w (with_at (same_machine m) false o) + w m ≡ machines_sum w o
sum_less w o machine.Feed e = rw e (omega arith)
sum_less w o _ e = rw e (omega arith)

pub sum_more : (w : Machine → ℕ) (o : Machine → Bool) (m : Machine) → o m ≡ false
    → machines_sum w (with_at (same_machine m) true o) ≡ machines_sum w o + w m
sum_more w o machine.Feed e = rw e (omega arith)
sum_more w o _ e = rw e (omega arith)
