-- What a machine books by a sign is its own and passes its tests, since the light is green
use Rattle.std.proofs.Common.{◌≡◌, ℕ, ◌+◌, Bool, true, false, ◌&&◌, not, nat_lt, Option, Some, None, List, is_some}
use Rattle.std.proofs.Common.{if◌then◌else◌, refl, ap, ◌∙◌, eq-eqb}
use Rattle.std.specs.Option.{option_map}
use Rattle.std.specs.List.{count_by}
use Rattle.cell_types.specs.declared.words.Machine.{Machine}
use Rattle.cell_types.specs.declared.words.Machine.TheVariants as machine
use Rattle.cell_types.specs.declared.words.Station.TheVariants as station
use Rattle.cell_types.specs.declared.words.Belt.TheVariants as belt
use Rattle.cell_types.specs.declared.words.Colour.{Colour}
use Rattle.cell_types.specs.declared.words.Colour.TheVariants as colour
use Rattle.cell_types.specs.declared.words.Entry.{Entry}
use Rattle.cell_types.specs.declared.words.Entry.TheVariants.{Admitted, Delivered, Reinstated}
use Rattle.cell_types.specs.Same.{same_colour}
use Rattle.cell_types.specs.After.{is_plate}
use Rattle.cell_rules.specs.Views.{plate_of, is_failed, lamp_of, expected_of, is_admitted}
use Rattle.cell_rules.specs.declared.limits.BookLimits.{BookLimits}
use Rattle.cell_rules.specs.Bridged.{TellsWhatIsLeft}
use Rattle.cell_turns.specs.declared.turns.decide.Ruling.TheVariants.{Books, PastLast}
use Rattle.cell_turns.specs.Rulings.{next_plate, laid_in, books, signed}
use Rattle.cell_diagnosis.specs.declared.reading.Reading.{Reading}
use Rattle.cell_diagnosis.specs.Readings.{bit}
use Rattle.cell_turns.specs.Signs.{shows_sign}
use Rattle.cell_turns.proofs.Own.{IsOwn, OwnRuling}
use Rattle.cell_turns.proofs.Tests.{full_then, skip, limit_then, none_left, alone}

-- only the two belts have a light, and nothing is asked of the other machines
abbrev pub IsLit : List Entry → Machine → Type 0
IsLit J machine.Feed = same_colour (lamp_of J belt.Feed) colour.Green ≡ true
IsLit J machine.Deposit = same_colour (lamp_of J belt.Deposit) colour.Green ≡ true
IsLit J _ = Unit {0}

-- the book asks only that the light isn't red
not_red : (c : Colour) → same_colour c colour.Green ≡ true → same_colour c colour.Red ≡ false
not_red colour.Red h = cc
not_red colour.Green h = refl

-- the book asks for the number after those admitted, and that no plate is expected back
own_next : (l : BookLimits) (J : List Entry) → is_failed J machine.Feed ≡ false
    → same_colour (lamp_of J belt.Feed) colour.Green ≡ true → expected_of J ≡ None
    → OwnRuling l J machine.Feed (next_plate (count_by is_admitted J + 1))
own_next l J healthy lit none = go (nat_lt 100000 (count_by is_admitted J + 1))
  where
    k : ℕ
    k = count_by is_admitted J + 1

    go : (b : Bool) → OwnRuling l J machine.Feed (if b then PastLast else Books (Admitted k))
    go true = tt
    go false = record {
      by = refl;
      room = full_then _ (Admitted k) _ (limit_then k _ _
          (skip _ _ (Admitted k) _ healthy (skip _ _ (Admitted k) _ (ap not (eq-eqb k k refl))
          (skip _ _ (Admitted k) _ (not_red (lamp_of J belt.Feed) lit)
          (skip _ _ (Admitted k) _ (ap is_some none) (none_left (Admitted k)))))));
      plain = refl;
    }

-- the plate that is laid back is the expected one, so no test on its number refuses it
own_back : (l : BookLimits) (J : List Entry) (k : ℕ) → is_failed J machine.Feed ≡ false
    → same_colour (lamp_of J belt.Feed) colour.Green ≡ true → expected_of J ≡ Some k
    → IsOwn l J machine.Feed (Reinstated k)
own_back l J k healthy lit some = record {
  by = refl;
  room = full_then _ (Reinstated k) _ (skip _ _ (Reinstated k) _ healthy
      (skip _ _ (Reinstated k) _ (ap (λ (o : Option ℕ). not (is_plate k o)) some ∙ ap not (eq-eqb k k refl))
      (skip _ _ (Reinstated k) _ (not_red (lamp_of J belt.Feed) lit) (none_left (Reinstated k)))));
  plain = refl;
}

own_laid_in : (l : BookLimits) (J : List Entry) → is_failed J machine.Feed ≡ false
    → same_colour (lamp_of J belt.Feed) colour.Green ≡ true
    → OwnRuling l J machine.Feed (laid_in (expected_of J) (count_by is_admitted J + 1))
own_laid_in l J healthy lit = go (expected_of J) refl
  where
    go : (o : Option ℕ) → expected_of J ≡ o → OwnRuling l J machine.Feed (laid_in o (count_by is_admitted J + 1))
    go None is = own_next l J healthy lit is
    go (Some k) is = own_back l J k healthy lit is

pub own_signed : (l : BookLimits) (J : List Entry) (m : Machine) → is_failed J m ≡ false → IsLit J m → TellsWhatIsLeft J
    → OwnRuling l J m (signed J m)
own_signed l J machine.Feed healthy lit told = own_laid_in l J healthy lit
own_signed l J machine.Deposit healthy lit told = go (plate_of J station.DepEnd) refl
  where
    go : (o : Option ℕ) → plate_of J station.DepEnd ≡ o
        → OwnRuling l J machine.Deposit (books (option_map (λ k. Delivered k) o))
    go None at = tt
    go (Some k) at = record {
      by = refl;
      room = full_then _ (Delivered k) _ (skip _ _ (Delivered k) _ healthy
          (skip _ _ (Delivered k) _ (alone J station.DepEnd k told at)
          (skip _ _ (Delivered k) _ (not_red (lamp_of J belt.Deposit) lit) (none_left (Delivered k)))));
      plain = refl;
    }
own_signed l J machine.Table healthy lit told = tt
own_signed l J machine.Robot healthy lit told = tt
own_signed l J machine.Press1 healthy lit told = tt
own_signed l J machine.Press2 healthy lit told = tt

right : (a b : Bool) → (a && b) ≡ true → b ≡ true
right true b h = h
right false b h = cc

-- a sign counts only under a green light, so where it shows the light is green
pub lit : (J : List Entry) (m : Machine) (r : Option Reading) (b : Bool) → (b && shows_sign J m r) ≡ true → IsLit J m
lit J m r false h = cc
lit J machine.Feed None true h = cc
lit J machine.Feed (Some r) true h = right (bit r.presence 0) (same_colour (lamp_of J belt.Feed) colour.Green) h
lit J machine.Deposit None true h = cc
lit J machine.Deposit (Some r) true h = right (not (bit r.presence 1))
    (same_colour (lamp_of J belt.Deposit) colour.Green) h
lit J machine.Table r true h = tt
lit J machine.Robot r true h = tt
lit J machine.Press1 r true h = tt
lit J machine.Press2 r true h = tt
