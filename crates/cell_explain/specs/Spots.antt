-- The states of the walk through a text
use Rattle.std.specs.Prelude.{◌==◌, ◌||◌, ℕ, Bool, true, false, List, ◌∷◌, if◌then◌else◌}
use Rattle.csv.specs.Reading.{is_bom}
use Rattle.cell_explain.specs.declared.places.Spot.{Spot}
use Rattle.cell_explain.specs.declared.places.Spot.TheVariants as spot

-- where the byte comes that follows this one, in a field without quotes
abbrev pub in_field : ℕ → Spot
in_field c = if c == 44 then spot.FieldStart else if c == 13 || c == 10 then spot.Between else spot.Plain

-- the same at a field's start
abbrev pub at_field : ℕ → Spot
at_field c = if c == 34 then spot.Quoted else in_field c

-- where the byte comes that follows this one
abbrev pub spot_after : Spot → ℕ → Spot
spot_after spot.Between c = if c == 13 || c == 10 then spot.Between else at_field c
spot_after spot.FieldStart c = at_field c
spot_after spot.Plain c = in_field c
spot_after spot.Quoted c = if c == 34 then spot.Closed else spot.Quoted
spot_after spot.Closed c = if c == 34 then spot.Quoted else in_field c

-- whether a record goes on there
abbrev pub is_open : Spot → Bool
is_open spot.Between = false
is_open spot.FieldStart = true
is_open spot.Plain = true
is_open spot.Quoted = true
is_open spot.Closed = true

-- where the first record of a text may begin: behind a byte order mark
abbrev pub first_place : List ℕ → ℕ
first_place (a ∷ b ∷ c ∷ rest) = if is_bom a b c then 3 else 0
first_place _ = 0
