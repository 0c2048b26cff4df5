-- A plate that is moved from one station to another, in the world and in the book
use Rattle.std.proofs.Common.{◌≡◌, ◌≢◌, ℕ, ◌<◌, ◌==◌, Bool, true, false, Option, Some, None, List}
use Rattle.std.proofs.Common.{length, refl, arith, sym, ap, ◌∙◌, subst, length-set, get_or-set_same}
use Rattle.std.proofs.Common.{get_or-set_other}
use Rattle.std.specs.Option.{option_map}
use Rattle.std.proofs.lemmas.Bool.Decides.{nat_tests}
use Rattle.cell_types.specs.declared.words.Place.{Place}
use Rattle.cell_types.specs.declared.words.Station.{Station}
use Rattle.cell_types.specs.declared.words.Station.TheVariants as station
use Rattle.cell_types.specs.declared.words.Entry.{Entry}
use Rattle.cell_types.specs.After.{Snapshot, after, is_plate, opening, step, with_plate as plate_put}
use Rattle.cell_types.specs.Same.{same_station, station_number}
use Rattle.cell_types.proofs.Left.{after_snoc}
use Rattle.cell_rules.specs.Situations.{Situation}
use Rattle.cell_rules.specs.Views.{plate_of}
use Rattle.cell_rules.proofs.Safe.Bridge.{Good, good_cell}
use Rattle.cell_rules.proofs.Safe.Facts.{is_plate_tells}
use Rattle.cell_rules.proofs.Safe.Facts.{station_same}
use Rattle.cell_sim.specs.declared.world.Plate.{Plate}
use Rattle.cell_sim.specs.Parts.{plate_at, plate_here, with_plate}
use Rattle.cell_sim.specs.Simulated.{Simulated}
use Rattle.cell_world.specs.Going.{IsPlain}
use Rattle.cell_world.specs.Starting.{one_more}
use Rattle.cell_world.specs.Handing.{HasBooked}
use Rattle.cell_world.proofs.Steps.{not_true}

-- what a station has after a plate was put there, and every other one
station_below : (s : Station) (n : ℕ) → n ≡ 9 → station_number s < n
station_below station.FeedIn n h = omega (arith, h)
station_below station.FeedEnd n h = omega (arith, h)
station_below station.Table n h = omega (arith, h)
station_below station.Arm1 n h = omega (arith, h)
station_below station.Arm2 n h = omega (arith, h)
station_below station.Press1 n h = omega (arith, h)
station_below station.Press2 n h = omega (arith, h)
station_below station.DepIn n h = omega (arith, h)
station_below station.DepEnd n h = omega (arith, h)

pub here_now : (s : Station) (o : Option Plate) (w : Simulated) → length w.plates ≡ 9
    → plate_here (with_plate s o w) s ≡ o
here_now s o w n = get_or-set_same w.plates (station_number s) o None (station_below s (length w.plates) n)

pub here_before : (s t : Station) (o : Option Plate) (w : Simulated) → station_number t ≢ station_number s
    → plate_here (with_plate s o w) t ≡ plate_here w t
here_before s t o w h = get_or-set_other w.plates (station_number s) (station_number t) o None h

pub other_station : (s t : Station) → station_number t ≢ station_number s → same_station s t ≡ false
other_station s t h = grind (arith, nat_tests)

pub same_number : (n m : ℕ) → n ≡ m → (n == m) ≡ true
same_number n m h = grind (arith, nat_tests)

differ_from : (s t : Station) → same_station t s ≡ false → station_number t ≢ station_number s
differ_from s t h = grind (arith, nat_tests)

station_by : (P : Station → Type 0) (s t : Station) (b : Bool) → same_station t s ≡ b → P s
    → (station_number t ≢ station_number s → P t) → P t
station_by P s t true h x y = subst P (sym (station_same t s h)) x
station_by P s t false h x y = y (differ_from s t h)

pub each_station : (P : Station → Type 0) (s t : Station) → P s → (station_number t ≢ station_number s → P t) → P t
each_station P s t x y = station_by P s t (same_station t s) refl x y

-- a plate is moved from one station to another, in the world and in the book
unfoldable pub moved : Station → Station → Simulated → Simulated
moved from to w = with_plate to (plate_here w from) (with_plate from None w)

abbrev pub number_of : Option Plate → Option ℕ
number_of o = option_map (λ (p : Plate). p.number) o

pub moved_to : (from to : Station) (w : Simulated) → length w.plates ≡ 9
    → plate_at (moved from to w) to ≡ plate_at w from
unfolding moved
moved_to from to w n =
    ap number_of (here_now to (plate_here w from) (with_plate from None w) (length-set _ _ _ ∙ n))

moved_from : (from to : Station) (w : Simulated) → length w.plates ≡ 9 → station_number from ≢ station_number to
    → plate_at (moved from to w) from ≡ None
unfolding moved
moved_from from to w n h =
    ap number_of (here_before to from (plate_here w from) (with_plate from None w) h ∙ here_now from None w n)

pub moved_none : (from to t : Station) (w : Simulated) → station_number t ≢ station_number to
    → station_number t ≢ station_number from → plate_at (moved from to w) t ≡ plate_at w t
unfolding moved
moved_none from to t w h k =
    ap number_of (here_before to t (plate_here w from) (with_plate from None w) h ∙ here_before from t None w k)

pub put_to : (k : ℕ) (to : Station) (f : Station → Option ℕ) → plate_put k to f to ≡ Some k
put_to k to f = let e = same_number (station_number to) (station_number to) refl in rw e refl

put_from : (k : ℕ) (to t : Station) (f : Station → Option ℕ) → station_number t ≢ station_number to → f t ≡ Some k
    → plate_put k to f t ≡ None
put_from k to t f h e =
    let a = other_station to t h in let b = same_number k k refl in rw (a, e, b) refl

pub put_none : (k : ℕ) (to t : Station) (f : Station → Option ℕ) → station_number t ≢ station_number to
    → is_plate k (f t) ≡ false → plate_put k to f t ≡ f t
put_none k to t f h e = let a = other_station to t h in rw (a, e) refl

-- what the book says of plates, and the state that is left
abbrev pub Left : List Entry → Station → Option ℕ
Left J s = (after J).plate s

pub told_left : (J : List Entry) (s : Station) → Good J → plate_of J s ≡ Left J s
told_left J s g = ap (λ (c : Situation). c.plate s) (good_cell J g)

pub some_none : {A : Type 0} (o : Option A) (x : A) → o ≡ Some x → o ≡ None → ⊥
some_none None x h k = cc h
some_none (Some y) x h k = cc k

apart : (f : Station → Option ℕ) (k : ℕ) (from to : Station) → f from ≡ Some k → f to ≡ None
    → station_number from ≢ station_number to
apart f k from to h n e =
    let s = station_same from to (same_number (station_number from) (station_number to) e) in
    some_none (f to) k (ap f (sym s) ∙ h) n

place_there : Place → Station
place_there (Place.At x) = x
place_there _ = station.FeedIn

place_same : (x y : Station) → Place.At x ≡ Place.At y → x ≡ y
unfolding place_there
place_same x y e = ap place_there e

-- a plate is at one station
at_one : (J : List Entry) (k : ℕ) (s t : Station) → Good J → Left J s ≡ Some k → Left J t ≡ Some k → s ≡ t
at_one J k s t g h i = place_same s t (sym (g.safe.plates.there s k h) ∙ g.safe.plates.there t k i)

pub not_elsewhere : (J : List Entry) (k : ℕ) (s t : Station) → Good J → Left J s ≡ Some k
    → station_number t ≢ station_number s → is_plate k (Left J t) ≡ false
not_elsewhere J k s t g h d =
    not_true (is_plate k (Left J t)) (λ y. d (ap station_number (at_one J k t s g
    (is_plate_tells k (Left J t) y) h)))

-- each station has what is booked, if it had
pub handed : (J : List Entry) (w : Simulated) (e : Entry) (k : ℕ) (from to t : Station) → Good J → Good (one_more J e)
    → IsPlain w → (step e (after J)).plate ≡ plate_put k to (after J).plate
    → Left J from ≡ Some k → Left J to ≡ None → HasBooked J w from → HasBooked J w t
    → plate_at (moved from to w) t ≡ plate_of (one_more J e) t
handed J w e k from to t g g' plain stepped h n b bt =
    let left : Left (one_more J e) ≡ plate_put k to (after J).plate =
    ap (λ (s : Snapshot). s.plate) (after_snoc opening J e) ∙ stepped in
    let told : (s : Station) → plate_of (one_more J e) s ≡ plate_put k to (after J).plate s =
    λ s. told_left (one_more J e) s g' ∙ ap (λ (f : Station → Option ℕ). f s) left in
    let d = apart (after J).plate k from to h n in
    each_station (λ (s : Station). HasBooked J w s → plate_at (moved from to w) s ≡ plate_of (one_more J e) s) to t
    (λ x. moved_to from to w plain.stations
    ∙ (b ∙ (told_left J from g ∙ (h ∙ sym (told to ∙ put_to k to (after J).plate)))))
    (λ i. each_station (λ (s : Station). station_number s ≢ station_number to → HasBooked J w s
    → plate_at (moved from to w) s ≡ plate_of (one_more J e) s) from t
    (λ j x. moved_from from to w plain.stations d ∙ sym (told from ∙ put_from k to from (after J).plate d h))
    (λ j l x. moved_none from to t w l j ∙ (x ∙ (told_left J t g
    ∙ sym (told t ∙ put_none k to t (after J).plate l (not_elsewhere J k from t g h j))))) i) bt
