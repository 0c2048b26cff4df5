-- The one plate at some stations
use Rattle.std.proofs.Common.{◌≡◌, ◌<◌, ◌+◌, ℕ, Option, Some, None, List, [], ◌∷◌, ◌++◌, ap, drop, drop-cons}
use Rattle.std.proofs.Common.{add-one, get_or, length}
use Rattle.cell_types.specs.declared.words.Station.{Station}
use Rattle.cell_events.specs.declared.places.Lying.{Lying}
use Rattle.cell_events.specs.Places.{lies, lying}

-- what was found, as a list
abbrev pub as_list : Option Lying → List Lying
as_list (Some one) = one ∷ []
as_list None = []

-- the stations from a place on are the one there and those behind it
pub lying-cut : (plate : Station → Option ℕ) (ss : List Station) (i : ℕ) (d : Station) → i < length ss
    → lying plate (drop i ss) ≡ lies (get_or ss i d) (plate (get_or ss i d)) ++ lying plate (drop (i + 1) ss)
lying-cut plate ss i d h =
    let cut : drop i ss ≡ get_or ss i d ∷ drop (i + 1) ss = rw add-one (drop-cons ss i d h) in
    ap (λ (l : List Station). lying plate l) cut
