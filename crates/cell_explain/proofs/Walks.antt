-- The walk through a text goes as csv's machine does
use Rattle.std.proofs.Common.{◌≡◌, ◌==◌, ◌+◌, ℕ, Bool, true, false, List, [], ◌∷◌, ◌++◌}
use Rattle.std.proofs.Common.{arith, refl}
use Rattle.std.specs.Prelude.{◌&&◌, ◌||◌, ⊤, not, if◌then◌else◌}
use Rattle.csv.specs.Machine.{ends_at_end, is_end, step}
use Rattle.csv.specs.Reading.{default_config}
use Rattle.csv.specs.declared.parser.State.{State}
use Rattle.csv.specs.declared.parser.State.TheVariants as st
use Rattle.csv.specs.declared.parser.Action.{Action}
use Rattle.csv.specs.declared.parser.Action.TheVariants as act
use Rattle.cell_explain.specs.declared.places.Spot.{Spot}
use Rattle.cell_explain.specs.declared.places.Spot.TheVariants as spot
use Rattle.cell_explain.specs.Places.{records_in, state_behind}
use Rattle.cell_explain.specs.Spots.{is_open, spot_after}

-- the walk's state is csv's
abbrev pub Matches : Spot → State → Type 0
Matches spot.Between st.StartRecord = ⊤
Matches spot.Between st.AfterCr = ⊤
Matches spot.FieldStart st.StartField = ⊤
Matches spot.Plain st.InField = ⊤
Matches spot.Quoted st.InQuoted = ⊤
Matches spot.Closed st.AfterQuote = ⊤
Matches _ _ = ⊥

pub open-same : (p : Spot) (s : State) → Matches p s → ends_at_end s ≡ is_open p
open-same spot.Between st.StartRecord h = refl
open-same spot.Between st.AfterCr h = refl
open-same spot.FieldStart st.StartField h = refl
open-same spot.Plain st.InField h = refl
open-same spot.Quoted st.InQuoted h = refl
open-same spot.Closed st.AfterQuote h = refl
open-same _ _ h = absurd h

-- a step of the walk and one of csv's agree: their states, and whether a record ends
abbrev pub Agree : Spot → Spot → State × Action → Type 0
Agree old new by = Matches new by.0 × (is_end by.1 ≡ (is_open old && not (is_open new)))

-- where a byte in a field leads, by whether it is a comma, a return or a line feed
abbrev pub spot_by : Bool → Bool → Bool → Spot
spot_by comma return feed =
    if comma then spot.FieldStart else if return || feed then spot.Between else spot.Plain

abbrev pub step_by : Bool → Bool → Bool → State × Action
step_by comma return feed =
    if comma then (st.StartField, act.EndField)
    else if return || feed then ((if return then st.AfterCr else st.StartRecord), act.EndRecord)
    else (st.InField, act.Copy)

-- the same at a field's start, where it may be a quote
abbrev pub spot_from : Bool → Bool → Bool → Bool → Spot
spot_from quote comma return feed = if quote then spot.Quoted else spot_by comma return feed

abbrev pub step_from : Bool → Bool → Bool → Bool → State × Action
step_from quote comma return feed = if quote then (st.InQuoted, act.Skip) else step_by comma return feed

field-agrees : (p : Spot) → is_open p ≡ true → (comma return feed : Bool)
    → Agree p (spot_by comma return feed) (step_by comma return feed)
field-agrees p h true return feed = (tt, rw h refl)
field-agrees p h false true feed = (tt, rw h refl)
field-agrees p h false false true = (tt, rw h refl)
field-agrees p h false false false = (tt, rw h refl)

start-agrees : (p : Spot) → is_open p ≡ true → (quote comma return feed : Bool)
    → Agree p (spot_from quote comma return feed) (step_from quote comma return feed)
start-agrees p h true comma return feed = (tt, rw h refl)
start-agrees p h false comma return feed = field-agrees p h comma return feed

-- before a record
record-agrees : (return feed quote comma : Bool)
    → Agree spot.Between (if return || feed then spot.Between else spot_from quote comma return feed)
    (if return || feed then (st.StartRecord, act.Skip) else step_from quote comma return feed)
record-agrees true feed quote comma = (tt, refl)
record-agrees false true quote comma = (tt, refl)
record-agrees false false true comma = (tt, refl)
record-agrees false false false true = (tt, refl)
record-agrees false false false false = (tt, refl)

-- right after a return
return-agrees : (feed return quote comma : Bool)
    → Agree spot.Between (if return || feed then spot.Between else spot_from quote comma return feed)
    (if feed then (st.StartRecord, act.Skip)
    else if return || feed then (st.StartRecord, act.Skip) else step_from quote comma return feed)
return-agrees true true quote comma = (tt, refl)
return-agrees true false quote comma = (tt, refl)
return-agrees false return quote comma = record-agrees return false quote comma

quoted-agrees : (quote : Bool) → Agree spot.Quoted (if quote then spot.Closed else spot.Quoted)
    (if quote then (st.AfterQuote, act.Skip) else (st.InQuoted, act.Copy))
quoted-agrees true = (tt, refl)
quoted-agrees false = (tt, refl)

closed-agrees : (quote comma return feed : Bool) → Agree spot.Closed (spot_from quote comma return feed)
    (if quote then (st.InQuoted, act.Copy) else step_by comma return feed)
closed-agrees true comma return feed = (tt, refl)
closed-agrees false comma return feed = field-agrees spot.Closed refl comma return feed

pub step-agrees : (p : Spot) (s : State) (c : ℕ) → Matches p s → Agree p (spot_after p c) (step default_config s c)
step-agrees spot.Between st.StartRecord c h = record-agrees (c == 13) (c == 10) (c == 34) (c == 44)
step-agrees spot.Between st.AfterCr c h = return-agrees (c == 10) (c == 13) (c == 34) (c == 44)
step-agrees spot.FieldStart st.StartField c h =
    start-agrees spot.FieldStart refl (c == 34) (c == 44) (c == 13) (c == 10)
step-agrees spot.Plain st.InField c h = field-agrees spot.Plain refl (c == 44) (c == 13) (c == 10)
step-agrees spot.Quoted st.InQuoted c h = quoted-agrees (c == 34)
step-agrees spot.Closed st.AfterQuote c h = closed-agrees (c == 34) (c == 44) (c == 13) (c == 10)
step-agrees _ _ c h = absurd h

-- one byte more
pub state-snoc : (s : State) (xs : List ℕ) (c : ℕ) → state_behind s (xs ++ c ∷ [])
    ≡ (step default_config (state_behind s xs) c).0
state-snoc s [] c = refl
state-snoc s (x ∷ xs) c = state-snoc (step default_config s x).0 xs c

pub records-snoc : (s : State) (xs : List ℕ) (c : ℕ) → records_in s (xs ++ c ∷ [])
    ≡ records_in s xs + (if is_end (step default_config (state_behind s xs) c).1 then 1 else 0)
records-snoc s [] c = omega arith
records-snoc s (x ∷ xs) c =
    let rest : records_in (step default_config s x).0 (xs ++ c ∷ []) ≡ records_in (step default_config s x).0 xs
    + (if is_end (step default_config (state_behind (step default_config s x).0 xs) c).1 then 1 else 0) =
    records-snoc (step default_config s x).0 xs c in
    omega (arith, rest)
