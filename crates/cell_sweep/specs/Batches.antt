-- What threads make of the runs of a sweep
use Rattle.std.specs.Prelude.{◌≡◌, ◌-◌, ℕ, true, List, All, Option, drop, get_or, take}
use Rattle.cell_sim.specs.declared.fault.PlannedFault.{PlannedFault}
use Rattle.cell_sweep.specs.declared.batch.Made.{Made}
use Rattle.cell_sweep.specs.Rows.{TellsServed, csv_line}
use Rattle.cell_sweep.specs.Sweeps.{TellsCase, Wanted}

-- the row tells of the run at its place, and the line is the row's
pub record IsMade (settings operator : List ℕ) (w : Wanted) (cases : List (List PlannedFault)) (m : Made) : Type 0 where
  pub case : (d : List PlannedFault) → get_or cases m.place d ≡ m.row.faults
  pub told : TellsServed settings operator w.service m.row
  pub line : w.csv ≡ true → m.line.items ≡ csv_line w.choice m.row

abbrev pub AreMade : List ℕ → List ℕ → Wanted → List (List PlannedFault) → List Made → Type 0
AreMade settings operator w cases made = All (IsMade settings operator w cases) made

-- the cases from a place on, below another
abbrev pub cases_between : List (List PlannedFault) → ℕ → ℕ → List (List PlannedFault)
cases_between cases begin end = take (end - begin) (drop begin cases)

-- the run at a place is told, and its line is written
abbrev pub TellsPlace : List ℕ → List ℕ → Wanted → List (List PlannedFault) → ℕ → Option (List ℕ) → Option (List ℕ)
    → Type 0
TellsPlace settings operator w cases place old new = (faults : List PlannedFault)
    × ((d : List PlannedFault) → get_or cases place d ≡ faults) × TellsCase settings operator w faults old new
