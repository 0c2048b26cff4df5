-- How long motions take after one was set
use Rattle.std.proofs.Common.{◌≡◌, ◌<◌, ℕ, List, [], arith, length}
use Rattle.std.specs.Prelude.{◌&&◌, ◌==◌, if◌then◌else◌, slice_index, slice_index_or, slice_set}
use Rattle.std.proofs.lemmas.List.{get_or-set_same, get_or-set_other}
use Rattle.std.proofs.lemmas.Bool.{cases_eq}

-- a list's number after one was set
pub after_set : (xs : List ℕ) (i k x : ℕ) → i < length xs
    → slice_index (slice_set xs i x) k ≡ (if i == k then x else slice_index xs k)
after_set xs i k x h = grind (
  arith,
  get_or-set_same {A = ℕ} xs i x 0,
  get_or-set_other {A = ℕ} xs i k x 0,
  cases_eq i k,
)

-- and a number of a list of lists, where a row was set
pub after_set_in : (rows : List (List ℕ)) (row : List ℕ) (i j k l x : ℕ) → i < length rows
    → slice_index row l ≡ (if j == l then x else slice_index (slice_index_or rows i []) l)
    → slice_index (slice_index_or (slice_set rows i row) k []) l
    ≡ (if (i == k) && (j == l) then x else slice_index (slice_index_or rows k []) l)
after_set_in rows row i j k l x h here =
    grind (
      arith,
      get_or-set_same {A = List ℕ} rows i row [],
      get_or-set_other {A = List ℕ} rows i k row [],
      cases_eq i k,
      cases_eq j l,
      here,
    )
