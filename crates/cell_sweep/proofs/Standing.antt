-- Where the faults of a run stand among those of all runs
use Rattle.std.proofs.Common.{◌≡◌, ℕ, zero, suc, ◌+◌, ◌-◌, ◌*◌, ◌/◌, ◌<◌, ◌≤◌, inl, inr, List, [], ◌∷◌, ◌++◌}
use Rattle.std.proofs.Common.{length, lit<, get_or, take, drop, refl, sym, ap, subst, ◌∙◌, arith, add-one}
use Rattle.std.proofs.Common.{append-nil, length-append}
use Rattle.std.specs.List.{flat_map}
use Rattle.std.proofs.lemmas.Bool.{cases_lt}
use Rattle.std.proofs.lemmas.Grind.{flat_map-append}
use Rattle.std.proofs.lemmas.List.{drop_all, drop_more, take_more, get_or_append_left, get_or-append_right}
use Rattle.std.proofs.lemmas.List.{get_or-drop, get_or-map}
use Rattle.std.proofs.lemmas.List.{length-drop, length-map, length-take-le}
use Rattle.std.proofs.lemmas.List.Concat.{flat_map-cons, get_or-flat_map}
use Rattle.std.proofs.Math.Nat.{add-mul, add-mul-div_right, mul_assoc, mul_comm, mul-le-mul_right, suc-mul}
use Rattle.std.proofs.Math.Nat.{mul-suc, zero-mul}
use Rattle.std.proofs.Math.Seq.{get_or-append_seam}
use Rattle.cell_sim.specs.declared.fault.Fault.{Fault}
use Rattle.cell_sim.specs.declared.fault.PlannedFault.{PlannedFault}
use Rattle.cell_types.specs.declared.words.Axis.{Axis}
use Rattle.cell_sweep.specs.declared.places.Motion.{Motion}
use Rattle.cell_sweep.specs.Cases.{in_motion, motions_in, pairs, planned, singles, with_each}

-- so many motions are so many
pub length-motions_in : (a : Axis) (n : ℕ) → length (motions_in a n) ≡ n
length-motions_in a zero = refl
length-motions_in a (suc n) =
    length-append (motions_in a n) (record { axis = a; number = suc n } ∷ []) ∙ ap (λ m. m + 1) (length-motions_in a n)
    ∙ add-one n

-- they are counted from 1
pub motions_in-at : (a : Axis) (n j : ℕ) (d : Motion) → j < n
    → get_or (motions_in a n) j d ≡ record { axis = a; number = j + 1 }
motions_in-at a zero j d inside = absurd (omega (arith, inside))
motions_in-at a (suc n) j d inside =
    elim (cases_lt j n) [
      | inl below ↦
          get_or_append_left (motions_in a n) (record { axis = a; number = suc n } ∷ []) d j
          (subst (λ m. j < m) (sym (length-motions_in a n)) below) ∙ motions_in-at a n j d below
      | inr past ↦
          let last : j ≡ n = omega (arith, inside, past) in
          let last-suc : suc n ≡ j + 1 = omega (arith, inside, past) in
          ap (λ i. get_or (motions_in a n ++ record { axis = a; number = suc n } ∷ []) i d)
          (last ∙ sym (length-motions_in a n))
          ∙ get_or-append_seam (motions_in a n) (record { axis = a; number = suc n }) [] d
          ∙ ap (λ m. record { axis = a; number = m }) last-suc
    ]

-- the motions of one more axis
pub motions-more : (counts : Axis → ℕ) (axes : List Axis) (i all : ℕ) (a : Axis) → i < length axes
    → all ≡ length (flat_map (λ b. motions_in b (counts b)) (take i axes))
    → all + counts (get_or axes i a) ≡ length (flat_map (λ b. motions_in b (counts b)) (take (i + 1) axes))
motions-more counts axes i all a inside so_far =
    let f : Axis → List Motion = λ b. motions_in b (counts b) in
    let b = get_or axes i a in
    sym (ap (λ xs. length (flat_map f xs)) (take_more axes i a inside)
    ∙ ap length (flat_map-append f (take i axes) (b ∷ []))
    ∙ length-append (flat_map f (take i axes)) (flat_map f (b ∷ []))
    ∙ ap (λ n. n + length (flat_map f (b ∷ []))) (sym so_far)
    ∙ ap (λ n. all + n) (ap length (flat_map-cons f b [] ∙ append-nil (f b)) ∙ length-motions_in b (counts b)))

pub motions-counted : (counts : Axis → ℕ) (axes : List Axis) (i all n : ℕ) (a : Axis) → i < length axes
    → all ≡ length (flat_map (λ b. motions_in b (counts b)) (take i axes)) → n ≡ counts (get_or axes i a)
    → all + n ≡ length (flat_map (λ b. motions_in b (counts b)) (take (i + 1) axes))
motions-counted counts axes i all n a inside so_far next =
    ap (λ m. all + m) next ∙ motions-more counts axes i all a inside so_far

-- a place behind them is so many places further
pub motions-past : (counts : Axis → ℕ) (axes : List Axis) (i left n place : ℕ) (a : Axis) → i < length axes
    → left + length (flat_map (λ b. motions_in b (counts b)) (take i axes)) ≡ place → n ≡ counts (get_or axes i a)
    → n ≤ left → left - n + length (flat_map (λ b. motions_in b (counts b)) (take (i + 1) axes)) ≡ place
motions-past counts axes i left n place a inside at next past =
    let more = motions-counted counts axes i (length (flat_map (λ b. motions_in b (counts b)) (take i axes))) n a inside
    refl next in
    omega (arith, at, more, past)

-- the motion of the axis in which a place of all motions is
pub motions-at : (counts : Axis → ℕ) (axes : List Axis) (i left n place : ℕ) (a : Axis) (d : Motion) → i < length axes
    → left + length (flat_map (λ b. motions_in b (counts b)) (take i axes)) ≡ place → n ≡ counts (get_or axes i a)
    → left < n
    → get_or (flat_map (λ b. motions_in b (counts b)) axes) place d
    ≡ record { axis = get_or axes i a; number = left + 1 }
motions-at counts axes i left n place a d inside at next below =
    let f : Axis → List Motion = λ b. motions_in b (counts b) in
    let b = get_or axes i a in
    let within : left < counts b = subst (λ m. left < m) next below in
    let here : length (flat_map f (take i axes)) + left ≡ place = omega (arith, at) in
    ap (λ n. get_or (flat_map f axes) n d) (sym here)
    ∙ get_or-flat_map f axes i left a d inside (subst (λ n. left < n) (sym (length-motions_in b (counts b))) within)
    ∙ motions_in-at b (counts b) left d within

-- lists of one length together
pub length-even : {X A : Type 0} (f : X → List A) (k : ℕ) (xs : List X) → ((x : X) → length (f x) ≡ k)
    → length (flat_map f xs) ≡ length xs * k
length-even f k [] each = sym (zero-mul k)
length-even f k (x ∷ xs) each =
    ap length (flat_map-cons f x xs) ∙ length-append (f x) (flat_map f xs)
    ∙ ap (λ n. n + length (flat_map f xs)) (each x)
    ∙ ap (λ n. k + n) (length-even f k xs each) ∙ omega (arith, suc-mul (length xs) k)

-- the place of an element in lists of one length
pub even-at : {X A : Type 0} (f : X → List A) (k : ℕ) (xs : List X) (i j : ℕ) (e : X) (d : A)
    → ((x : X) → length (f x) ≡ k) → i < length xs → j < k
    → get_or (flat_map f xs) (i * k + j) d ≡ get_or (f (get_or xs i e)) j d
even-at f k xs i j e d each inside within =
    let before : length (flat_map f (take i xs)) ≡ i * k =
    length-even f k (take i xs) each
    ∙ ap (λ n. n * k) (length-take-le i xs (omega (arith, inside))) in
    ap (λ n. get_or (flat_map f xs) (n + j) d) (sym before)
    ∙ get_or-flat_map f xs i j e d inside (subst (λ n. j < n) (sym (each (get_or xs i e))) within)

length-in_motion : (kinds : List Fault) (m : Motion) → length (in_motion kinds m) ≡ length kinds
length-in_motion kinds m = length-map kinds (planned m)

pub length-singles : (kinds : List Fault) (ms : List Motion) → length (singles kinds ms) ≡ length ms * length kinds
length-singles kinds ms = length-even (in_motion kinds) (length kinds) ms (length-in_motion kinds)

-- the fault of a kind in a motion
pub singles-at : (kinds : List Fault) (ms : List Motion) (i j : ℕ) (m : Motion) (f : Fault) (d : PlannedFault)
    → i < length ms → j < length kinds
    → get_or (singles kinds ms) (i * length kinds + j) d ≡ planned (get_or ms i m) (get_or kinds j f)
singles-at kinds ms i j m f d inside within =
    even-at (in_motion kinds) (length kinds) ms i j m d (length-in_motion kinds) inside within
    ∙ get_or-map (planned (get_or ms i m)) kinds j f d within

-- a column of a row is before the end of so many rows
pub row-fits : (i rows k j : ℕ) → i < rows → j < k → i * k + j < rows * k
row-fits i rows k j inside within =
    let whole : (i + 1) * k ≤ rows * k = mul-le-mul_right k (omega (arith, inside)) in
    let next : (i + 1) * k ≡ i * k + k = ap (λ n. n * k) (add-one i) ∙ suc-mul i k in
    omega (arith, whole, next, within)

length-with_each : (others : List PlannedFault) (f : PlannedFault) → length (with_each others f) ≡ length others
length-with_each others f = length-map others (λ g. f ∷ g ∷ [])

-- how many pairs begin in the first motion
length-row : (kinds : List Fault) (m : Motion) (later : List Motion)
    → length (flat_map (with_each (singles kinds later)) (in_motion kinds m))
    ≡ length kinds * (length later * length kinds)
length-row kinds m later =
    length-even (with_each (singles kinds later)) (length (singles kinds later)) (in_motion kinds m)
    (length-with_each (singles kinds later))
    ∙ ap (λ n. n * length (singles kinds later)) (length-in_motion kinds m)
    ∙ ap (λ n. length kinds * n) (length-singles kinds later)

-- the pairs from one motion on are those that begin in it, and those from the next motion on
pairs-row : (kinds : List Fault) (ms : List Motion) (i : ℕ) (m : Motion) → i < length ms
    → pairs kinds (drop i ms)
    ≡ flat_map (with_each (singles kinds (drop (i + 1) ms))) (in_motion kinds (get_or ms i m))
    ++ pairs kinds (drop (i + 1) ms)
pairs-row kinds ms i m inside = ap (pairs kinds) (drop_more ms i m inside)

row-length : (kinds : List Fault) (ms : List Motion) (i : ℕ) (m : Motion)
    → length (flat_map (with_each (singles kinds (drop (i + 1) ms))) (in_motion kinds (get_or ms i m)))
    ≡ length kinds * ((length ms - (i + 1)) * length kinds)
row-length kinds ms i m =
    length-row kinds (get_or ms i m) (drop (i + 1) ms)
    ∙ ap (λ n. length kinds * (n * length kinds)) (length-drop (i + 1) ms)

-- a place behind the pairs that begin in a motion is one of the pairs from the next motion on
pub pairs-past : (kinds : List Fault) (ms : List Motion) (i left : ℕ) (m : Motion) (d : List PlannedFault)
    → i < length ms → length kinds * ((length ms - (i + 1)) * length kinds) ≤ left
    → get_or (pairs kinds (drop i ms)) left d
    ≡ get_or (pairs kinds (drop (i + 1) ms)) (left - length kinds * ((length ms - (i + 1)) * length kinds)) d
pairs-past kinds ms i left m d inside past =
    ap (λ ps. get_or ps left d) (pairs-row kinds ms i m inside)
    ∙ get_or-append_right _ (pairs kinds (drop (i + 1) ms)) _ left d (row-length kinds ms i m) past

pub pairs-left : (kinds : List Fault) (ms : List Motion) (i left : ℕ) (m : Motion)
    → i < length ms → length kinds * ((length ms - (i + 1)) * length kinds) ≤ left
    → left < length (pairs kinds (drop i ms))
    → left - length kinds * ((length ms - (i + 1)) * length kinds) < length (pairs kinds (drop (i + 1) ms))
pairs-left kinds ms i left m inside past within =
    let row = flat_map (with_each (singles kinds (drop (i + 1) ms))) (in_motion kinds (get_or ms i m)) in
    let whole : length (pairs kinds (drop i ms)) ≡ length row + length (pairs kinds (drop (i + 1) ms)) =
    ap length (pairs-row kinds ms i m inside) ∙ length-append row (pairs kinds (drop (i + 1) ms)) in
    let width = row-length kinds ms i m in
    omega (arith, whole, width, past, within)

-- where no motion is left, no pair is
pub pairs-none : (kinds : List Fault) (ms : List Motion) (i : ℕ) → length ms ≤ i → length (pairs kinds (drop i ms)) ≡ 0
pairs-none kinds ms i past = ap (λ xs. length (pairs kinds xs)) (drop_all i ms past)

-- half of a product of neighbours
half : (n : ℕ) → suc n * n / 2 ≡ n + n * (n - 1) / 2
half zero = refl
half (suc n) =
    let doubled : suc (suc n) * suc n ≡ suc n * n + suc n * 2 =
    grind (arith, suc-mul (suc n) (suc n), mul-suc (suc n) n) in
    let less : suc n - 1 ≡ n = omega arith in
    ap (λ m. m / 2) doubled ∙ add-mul-div_right (suc n * n) (suc n) (lit< tt)
    ∙ omega (arith, ap (λ m. suc n * m / 2) less)

-- how many pairs there are
pub length-pairs : (kinds : List Fault) (ms : List Motion)
    → length (pairs kinds ms) ≡ length ms * (length ms - 1) / 2 * (length kinds * length kinds)
length-pairs kinds [] = sym (zero-mul (length kinds * length kinds))
length-pairs kinds (m ∷ later) =
    let k = length kinds in
    let n = length later in
    let row = length-row kinds m later in
    let rest = length-pairs kinds later in
    let square : k * (n * k) ≡ n * (k * k) = sym (mul_assoc k n k) ∙ ap (λ z. z * k) (mul_comm k n) ∙ mul_assoc n k k in
    let less : suc n - 1 ≡ n = omega arith in
    let both : (n + n * (n - 1) / 2) * (k * k) ≡ n * (k * k) + n * (n - 1) / 2 * (k * k) =
    add-mul n (n * (n - 1) / 2) (k * k) in
    length-append (flat_map (with_each (singles kinds later)) (in_motion kinds m)) (pairs kinds later)
    ∙ ap (λ z. z + length (pairs kinds later)) (row ∙ square) ∙ ap (λ z. n * (k * k) + z) rest
    ∙ sym both ∙ ap (λ z. z * (k * k)) (sym (half n)) ∙ ap (λ z. suc n * z / 2 * (k * k)) (sym less)

-- the pair of two kinds in two motions
pub pairs-here : (kinds : List Fault) (ms : List Motion) (i row x y : ℕ) (m : Motion) (f : Fault)
    (d : List PlannedFault)
    → i < length ms → row < length kinds → x < length ms - (i + 1) → y < length kinds
    → x * length kinds + y < (length ms - (i + 1)) * length kinds
    → get_or (pairs kinds (drop i ms)) (row * ((length ms - (i + 1)) * length kinds) + (x * length kinds + y)) d
    ≡ planned (get_or ms i m) (get_or kinds row f) ∷ planned (get_or ms (i + 1 + x) m) (get_or kinds y f) ∷ []
pairs-here kinds ms i row x y m f d inside within beyond below column =
    let others = singles kinds (drop (i + 1) ms) in
    let own = in_motion kinds (get_or ms i m) in
    let first = planned (get_or ms i m) (get_or kinds row f) in
    let second = planned (get_or ms (i + 1 + x) m) (get_or kinds y f) in
    let width : length others ≡ (length ms - (i + 1)) * length kinds =
    length-singles kinds (drop (i + 1) ms) ∙ ap (λ n. n * length kinds) (length-drop (i + 1) ms) in
    let in_row : row < length own = subst (λ n. row < n) (sym (length-in_motion kinds (get_or ms i m))) within in
    let in_others : x * length kinds + y < length others =
    subst (λ n. x * length kinds + y < n) (sym width) column in
    let there : get_or (flat_map (with_each others) own) (row * length others + (x * length kinds + y)) d
    ≡ get_or (with_each others (get_or own row first)) (x * length kinds + y) d =
    even-at (with_each others) (length others) own row (x * length kinds + y) first d (length-with_each others) in_row
    in_others in
    let one : get_or own row first ≡ first = get_or-map (planned (get_or ms i m)) kinds row f first within in
    let other : get_or others (x * length kinds + y) second ≡ second =
    singles-at kinds (drop (i + 1) ms) x y m f second
    (subst (λ n. x < n) (sym (length-drop (i + 1) ms)) beyond) below
    ∙ ap (λ v. planned v (get_or kinds y f)) (get_or-drop (i + 1) ms x m) in
    let fits : row * length others + (x * length kinds + y) < length (flat_map (with_each others) own) =
    subst (λ n. row * length others + (x * length kinds + y) < n)
    (sym (length-even (with_each others) (length others) own (length-with_each others)))
    (row-fits row (length own) (length others) (x * length kinds + y) in_row in_others) in
    ap (λ n. get_or (pairs kinds (drop i ms)) (row * n + (x * length kinds + y)) d) (sym width)
    ∙ ap (λ ps. get_or ps (row * length others + (x * length kinds + y)) d) (pairs-row kinds ms i m inside)
    ∙ get_or_append_left (flat_map (with_each others) own) (pairs kinds (drop (i + 1) ms)) d
    (row * length others + (x * length kinds + y)) fits
    ∙ there
    ∙ ap (λ g. get_or (with_each others g) (x * length kinds + y) d) one
    ∙ get_or-map (λ g. first ∷ g ∷ []) others (x * length kinds + y) second d in_others
    ∙ ap (λ g. first ∷ g ∷ []) other

-- the same, by the row and the column of the pair's place and those of the second fault
pub pair-between : (kinds : List Fault) (ms : List Motion) (i count row column x y place : ℕ) (m : Motion) (f : Fault)
    (first second : PlannedFault) (d : List PlannedFault)
    → count ≡ length ms → i < length ms → row < length kinds → column < (count - (i + 1)) * length kinds
    → row * ((count - (i + 1)) * length kinds) + column ≡ place
    → x < count - (i + 1) → y < length kinds → x * length kinds + y ≡ column
    → first ≡ planned (get_or ms i m) (get_or kinds row f)
    → second ≡ planned (get_or ms (i + 1 + x) m) (get_or kinds y f)
    → get_or (pairs kinds (drop i ms)) place d ≡ first ∷ second ∷ []
pair-between kinds ms i count row column x y place m f first second d same inside within below at beyond under there one
    other =
    let width : (count - (i + 1)) * length kinds ≡ (length ms - (i + 1)) * length kinds =
    ap (λ n. (n - (i + 1)) * length kinds) same in
    let here : row * ((length ms - (i + 1)) * length kinds) + (x * length kinds + y) ≡ place =
    ap (λ n. row * n + (x * length kinds + y)) (sym width)
    ∙ ap (λ n. row * ((count - (i + 1)) * length kinds) + n) there ∙ at in
    let ends : x * length kinds + y < (length ms - (i + 1)) * length kinds =
    subst (λ n. x * length kinds + y < n) width (subst (λ n. n < (count - (i + 1)) * length kinds) (sym there) below) in
    ap (λ n. get_or (pairs kinds (drop i ms)) n d) (sym here)
    ∙ pairs-here kinds ms i row x y m f d inside within (subst (λ n. x < n - (i + 1)) same beyond) under ends
    ∙ ap (λ g. g ∷ planned (get_or ms (i + 1 + x) m) (get_or kinds y f) ∷ []) (sym one)
    ∙ ap (λ g. first ∷ g ∷ []) (sym other)

-- where the pairs that begin in a motion are behind a place, it is one of the pairs from the next motion on
pub pairs-next : (kinds : List Fault) (ms : List Motion) (i count left place : ℕ) (m : Motion)
    → count ≡ length ms → i < count → length kinds * ((length ms - (i + 1)) * length kinds) ≤ left
    → left < length (pairs kinds (drop i ms))
    → ((d : List PlannedFault) → get_or (pairs kinds ms) place d ≡ get_or (pairs kinds (drop i ms)) left d)
    → (left - length kinds * ((count - (i + 1)) * length kinds) < length (pairs kinds (drop (i + 1) ms)))
    × ((d : List PlannedFault) → get_or (pairs kinds ms) place d
    ≡ get_or (pairs kinds (drop (i + 1) ms)) (left - length kinds * ((count - (i + 1)) * length kinds)) d)
pairs-next kinds ms i count left place m same inside past within so_far =
    let below : i < length ms = subst (λ n. i < n) same inside in
    rw (same) (
      pairs-left kinds ms i left m below past within,
      λ d. so_far d ∙ pairs-past kinds ms i left m d below past,
    )
