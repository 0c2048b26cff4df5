-- What is told of the plates that weren't admitted, and of those that were laid back
use Rattle.std.specs.Prelude.{ℕ, ◌-◌, List, [], ◌++◌, codes, decimal, nat_lt, if◌then◌else◌}
use Rattle.cell_types.specs.declared.words.Entry.{Entry}
use Rattle.cell_rules.specs.Views.{count_of}
use Rattle.cell_explain.specs.Words.{plates, were}

-- the line of so many plates that weren't admitted
abbrev pub unadmitted_line : ℕ → List ℕ
unadmitted_line n = decimal n ++ (plates n ++ (were n ++ codes "n't admitted\n"))

-- what is told of the plates that weren't admitted, where so many were due: how many, where there are any
abbrev pub unadmitted_of : List Entry → ℕ → List ℕ
unadmitted_of J due = if nat_lt (count_of J).admitted due then unadmitted_line (due - (count_of J).admitted) else []

-- the line of so many plates that were laid back
abbrev pub laid_back_line : ℕ → List ℕ
laid_back_line n = decimal n ++ (plates n ++ (were n ++ codes " laid back\n"))

-- what is told of the plates that were laid back: how many, where there are any
abbrev pub laid_back_of : List Entry → List ℕ
laid_back_of J = if nat_lt 0 (count_of J).reinstated then laid_back_line (count_of J).reinstated else []
