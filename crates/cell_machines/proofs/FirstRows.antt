-- The first useful entry of a list is the first that is wanted and bookable
use Rattle.std.proofs.Common.{◌≡◌, ℕ, Bool, ◌&&◌, Option, Some, List, [], ◌∷◌, refl, ap, ◌∙◌}
use Rattle.std.specs.Prelude.{map, if◌then◌else◌}
use Rattle.cell_types.specs.declared.words.Machine.{Machine}
use Rattle.cell_types.specs.declared.words.Entry.{Entry}
use Rattle.cell_rules.specs.Situations.{Situation}
use Rattle.cell_rules.specs.declared.limits.BookLimits.{BookLimits}
use Rattle.cell_machines.specs.Room.{is_bookable}
use Rattle.cell_machines.specs.Useful.{wants, is_useful_now}
use Rattle.cell_machines.specs.Candidates.{first_row, first_bookable, row, rows, useful_row, useful_rows}

pub first_law : (l : BookLimits) (c : Situation) (plan : ℕ) (m : Machine) (es : List Entry)
    → first_row (map (useful_row l c plan m) es) ≡ first_bookable l c (map (row l c plan m) es)
unfolding first_row first_bookable is_useful_now
first_law l c plan m [] = refl
first_law l c plan m (e ∷ es) =
    ap (λ (o : Option Entry). if wants l c plan m e && is_bookable l c e then Some e else o) (first_law l c plan m es)

-- the same of a machine's whole table
pub table_law : (l : BookLimits) (c : Situation) (plan : ℕ) (m : Machine) (t : List (Bool × Entry))
    → t ≡ useful_rows l c plan m → first_row t ≡ first_bookable l c (rows l c plan m)
unfolding useful_rows rows
table_law l c plan m t e = ap first_row e ∙ first_law l c plan m _
