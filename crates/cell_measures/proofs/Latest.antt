-- The latest end under tests that are joined
use Rattle.std.proofs.Common.{◌≡◌, ◌≤◌, ◌<◌, ◌+◌, ◌++◌, ℕ, zero, suc, Bool, true, false, Option, Some, None}
use Rattle.std.proofs.Common.{List, [], ◌∷◌, refl, sym}
use Rattle.std.proofs.Common.{◌∙◌, ap, arith, drop, drop-cons, length, add-one, get_or, replicate, take}
use Rattle.std.specs.Prelude.{◌||◌, ◌&&◌, max, if◌then◌else◌, slice_index}
use Rattle.std.specs.List.{list_any}
use Rattle.std.proofs.lemmas.List.{get_or-replicate, length-replicate, get_or_past, take_all}
use Rattle.cell_types.specs.declared.words.Entry.{Entry}
use Rattle.cell_types.specs.declared.words.Axis.{Axis}
use Rattle.cell_types.specs.declared.words.Zone.{Zone}
use Rattle.cell_types.specs.Same.{axis_number, machine_number, zone_number}
use Rattle.cell_types.specs.Texts.{all_zone}
use Rattle.cell_measures.specs.declared.clock.Clock.{Clock}
use Rattle.cell_measures.specs.Waits.{frees, is_of, machine_of, names_that, plate_of, starts, waits_for, wants}
use Rattle.cell_measures.specs.Times.{Ended, begins, latest}
use Rattle.cell_measures.specs.Clocks.{Keeps, greatest, plate_time, zone_time}

-- an entry that passes either test counts once, and the greater end stands for both
or_step : (b c : Bool) (t x y : ℕ)
    → (if (b || c) then max t (max x y) else max x y) ≡ max (if b then max t x else x) (if c then max t y else y)
or_step true true t x y = omega arith
or_step true false t x y = omega arith
or_step false true t x y = omega arith
or_step false false t x y = refl

-- so a clock can keep one time for each machine, plate and zone, and take the greatest of those it needs
pub latest_or : (p q : Entry → Bool) (past : List Ended)
    → latest (λ d. p d || q d) past ≡ max (latest p past) (latest q past)
latest_or p q [] = refl
latest_or p q (d ∷ past) = ap (λ (n : ℕ). if (p d.entry || q d.entry) then max d.at n else n) (latest_or p q past)
    ∙ or_step (p d.entry) (q d.entry) d.at (latest p past) (latest q past)

-- where an entry names no plate or wants no zone, the clock's time for that is 0
pub latest_never : (past : List Ended) → latest (λ d. false) past ≡ 0
latest_never [] = refl
latest_never (d ∷ past) = latest_never past

-- a zone that an entry doesn't want has no say in when it begins
pub latest_and : (b : Bool) (p : Entry → Bool) (past : List Ended)
    → latest (λ d. b && p d) past ≡ (if b then latest p past else 0)
latest_and true p past = refl
latest_and false p past = latest_never past

-- the zones' times, taken one by one, cover every entry that frees a zone that is wanted
pub latest_any : (w : Zone → Bool) (g : Zone → Entry → Bool) (past : List Ended) (zs : List Zone)
    → greatest (λ z. if w z then latest (g z) past else 0) zs ≡ latest (λ d. list_any (λ z. w z && g z d) zs) past
latest_any w g past [] = sym (latest_never past)
latest_any w g past (z ∷ zs) =
    ap (λ (n : ℕ). max n (greatest (λ z. if w z then latest (g z) past else 0) zs)) (sym (latest_and (w z) (g z) past))
    ∙ ap (λ (n : ℕ). max (latest (λ d. w z && g z d) past) n) (latest_any w g past zs)
    ∙ sym (latest_or (λ d. w z && g z d) (λ d. list_any (λ z. w z && g z d) zs) past)

-- a step of a loop that takes the greatest
pub greatest_more : (f : Zone → ℕ) (zs : List Zone) (i : ℕ) (d : Zone) (end next all : ℕ) → i < length zs
    → max end (greatest f (drop i zs)) ≡ all → next ≡ max end (f (get_or zs i d))
    → max next (greatest f (drop (i + 1) zs)) ≡ all
greatest_more f zs i d end next all h e is =
    let cut : drop i zs ≡ get_or zs i d ∷ drop (i + 1) zs = rw add-one (drop-cons zs i d h) in
    let was : max end (max (f (get_or zs i d)) (greatest f (drop (i + 1) zs))) ≡ all = rw cut at e in
    omega (arith, was, is)

-- the latest end of all for which an entry waits is the greatest of those of its machine, its plate and its zones
plate_law : (c : Clock) (past : List Ended) (o : Option ℕ) → Keeps c past
    → plate_time c.plates.items o ≡ latest (names_that o) past
plate_law c past (Some j) k = k.plates j
plate_law c past None k = sym (latest_never past)

zones_law : (c : Clock) (past : List Ended) (e : Entry) → Keeps c past
    → greatest (zone_time c.zones e) all_zone ≡ latest (λ d. list_any (λ z. wants z e && frees z d) all_zone) past
zones_law c past e k =
    let path : (λ z. if wants z e then slice_index c.zones (zone_number z) else 0)
    ≡ (λ z. if wants z e then latest (frees z) past else 0) = λ i. λ z. if wants z e then k.zones z i else 0 in
    ap (λ (f : Zone → ℕ). greatest f all_zone) path ∙ latest_any (λ z. wants z e) frees past all_zone

-- what an entry waits for is of its machine, names its plate or frees a zone it wants; the clock keeps these apart
pub begins_law : (c : Clock) (past : List Ended) (e : Entry) (i plate zones both all : ℕ) → Keeps c past
    → i ≡ machine_number (machine_of e) → plate ≡ plate_time c.plates.items (plate_of e)
    → zones ≡ greatest (zone_time c.zones e) all_zone → both ≡ max plate zones
    → all ≡ max (slice_index c.machines i) both → all ≡ begins past e
begins_law c past e i plate zones both all k ei ep ez eb ea =
    let p : Entry → Bool = names_that (plate_of e) in
    let q : Entry → Bool = λ d. list_any (λ z. wants z e && frees z d) all_zone in
    let m : slice_index c.machines i ≡ latest (is_of (machine_of e)) past = ap (λ (n : ℕ). slice_index c.machines n) ei
    ∙ k.machines (machine_of e) in
    let two : both ≡ latest (λ d. p d || q d) past =
    eb ∙ ap (λ (n : ℕ). max n zones) (ep ∙ plate_law c past (plate_of e) k)
    ∙ ap (λ (n : ℕ). max (latest p past) n) (ez ∙ zones_law c past e k)
    ∙ sym (latest_or p q past) in
    ea ∙ ap (λ (n : ℕ). max n both) m
    ∙ ap (λ (n : ℕ). max (latest (is_of (machine_of e)) past) n) two
    ∙ sym (latest_or (is_of (machine_of e)) (λ d. p d || q d) past)

-- an entry ends no later than the last before it and the longest motion
pub motion_early : (c : Clock) (past : List Ended) (e : Entry) (a : Axis) (begun i lasts end n : ℕ) → Keeps c past
    → begun ≡ begins past e → i ≡ axis_number a → lasts < 65536 → end ≡ max begun (slice_index c.axes i + lasts)
    → ((p : Entry → Bool) → latest p past ≤ n) → end ≤ n + 65535
motion_early c past e a begun i lasts end n k eb ei small ee most =
    let b : begins past e ≤ n = most (waits_for e) in
    let start : slice_index c.axes i ≡ latest (starts a) past = ap (λ (j : ℕ). slice_index c.axes j) ei ∙ k.axes a in
    let s : latest (starts a) past ≤ n = most (starts a) in
    let b' : begun ≤ n = rw eb b in
    let s' : slice_index c.axes i ≤ n = rw start s in
    omega (arith, b', s', small, ee)

-- an entry that ends no motion ends as it begins, so it is no later than those before it
pub begun_early : (past : List Ended) (e : Entry) (begun n : ℕ) → begun ≡ begins past e → ((p : Entry → Bool)
    → latest p past ≤ n) → begun ≤ n + 65535
begun_early past e begun n eb most =
    let b : begins past e ≤ n = most (waits_for e) in
    let b' : begun ≤ n = rw eb b in
    omega (arith, b')

-- a new clock's list
pub zero_at : (xs : List ℕ) (n k : ℕ) → xs ≡ replicate n 0 → slice_index xs k ≡ 0
zero_at xs n k e = rw e (grind (
  arith,
  get_or-replicate {A = ℕ} n k 0 0,
  get_or_past {X = ℕ} (replicate n 0) k 0,
  length-replicate {A = ℕ} n 0,
))

-- behind the times stand zeros, as behind any list
grown : (old : List ℕ) (n k : ℕ) → slice_index (old ++ replicate n 0) k ≡ slice_index old k
grown [] n k = zero_at (replicate n 0) n k refl
grown (x ∷ old) n zero = refl
grown (x ∷ old) n (suc k) = grown old n k

pub grown_at : (old new : List ℕ) (n more k : ℕ) → length old ≤ n → new ≡ take n old ++ replicate more 0
    → slice_index new k ≡ slice_index old k
grown_at old new n more k short e = rw (e, take_all n old short) (grown old more k)
