-- A station of a machine without a belt is cleared
use Rattle.std.proofs.Common.{◌≡◌, ◌≢◌, ◌⊎◌, inl, inr, ℕ, Bool, true, false, Option, Some, None, List, is_some}
use Rattle.std.proofs.Common.{length-set, refl, sym, ap, ◌∙◌, subst, if◌then◌else◌}
use Rattle.cell_types.specs.declared.words.Belt.TheVariants as belt
use Rattle.cell_types.specs.declared.words.Entry.{Entry}
use Rattle.cell_types.specs.declared.words.Entry.TheVariants.{Quarantined}
use Rattle.cell_types.specs.declared.words.Machine.{Machine}
use Rattle.cell_types.specs.declared.words.Station.{Station}
use Rattle.cell_types.specs.declared.words.Station.TheVariants as station
use Rattle.cell_types.specs.Cell.{machine_of_station}
use Rattle.cell_types.specs.Same.{station_number}
use Rattle.cell_rules.specs.Views.{asks, fails, is_failed}
use Rattle.cell_rules.proofs.Safe.Bridge.{Good, good_when_legal}
use Rattle.cell_rules.proofs.Safe.Views.{view_snoc}
use Rattle.cell_ports.specs.declared.plan.Plan.{Plan}
use Rattle.cell_turns.specs.Following.{Following}
use Rattle.cell_sim.specs.Hands.{after_remove, count_removed}
use Rattle.cell_sim.specs.Parts.{has_plate, plate_at, plate_here, with_plate}
use Rattle.cell_sim.specs.Simulated.{Simulated}
use Rattle.cell_types.specs.After.{is_plate}
use Rattle.cell_world.specs.Agreeing.{has_belt}
use Rattle.cell_world.specs.BeltTurning.{StationsAsBooked}
use Rattle.cell_world.specs.Belts.{Conveying, dest_of, from_of, light_of, to_deposit_end}
use Rattle.cell_world.specs.Belts.{to_feed_end, to_table}
use Rattle.cell_world.specs.Going.{IsPlain}
use Rattle.cell_world.specs.Handing.{HasBooked}
use Rattle.cell_world.specs.Laying.{GreenIsWanted, LayingAsBooked, NoneIsLaid, OneIsLaid}
use Rattle.cell_world.specs.Sparing.{IsSpared}
use Rattle.cell_world.specs.Starting.{one_more}
use Rattle.cell_world.specs.Stopping.{CellWithStops, ClearingKeeps}
use Rattle.cell_world.specs.Turning.{is_within}
use Rattle.cell_world.proofs.BeltLamps.{left_none, told_then}
use Rattle.cell_world.proofs.BeltWays.{EndsStay, belt_stays}
use Rattle.cell_world.proofs.Ends.{apart_by}
use Rattle.cell_world.proofs.Entries.{at_before, going_before}
use Rattle.cell_world.proofs.Four.{kept_as, legal_then}
use Rattle.cell_world.proofs.Laying.{admitted_before, expected_before, lamp_before, lays_before, takes_before}
use Rattle.cell_world.proofs.Long.{fair_then}
use Rattle.cell_world.proofs.Plates.{Left, each_station, here_before, here_now, not_elsewhere, number_of, some_none}
use Rattle.cell_world.proofs.Plates.{told_left}
use Rattle.cell_world.proofs.Steps.{unless}
use Rattle.cell_world.proofs.Stopping.{member_spared, plain_of}
use Rattle.cell_world.proofs.Turns.{good_then}
use Rattle.cell_world.proofs.Wanted.{wanted_more}

-- THE WORLD

abbrev pub cleared : Station → Simulated → Simulated
cleared s w = count_removed s (with_plate s None w)

pub if_so : {X : Type 0} (b : Bool) (x y : X) → b ≡ true → (if b then x else y) ≡ x
if_so true x y h = refl
if_so false x y h = cc h

pub clear_does : (s : Station) (w : Simulated) → has_plate w s ≡ true → after_remove s w ≡ cleared s w
unfolding after_remove
clear_does s w h = if_so (has_plate w s) (cleared s w) _ h

pub cleared_plain : (s : Station) (w : Simulated) → IsPlain w → IsPlain (cleared s w)
cleared_plain s w t =
    record { unwatched = t.unwatched; axes = t.axes; stations = length-set _ _ _ ∙ t.stations }

pub other_here : (s u : Station) (w : Simulated) → station_number u ≢ station_number s
    → plate_here (cleared s w) u ≡ plate_here w u
other_here s u w d = here_before s u None w d

-- a station of a belt isn't one without
belt_apart : (s u : Station) → has_belt (machine_of_station s) ≡ false → has_belt (machine_of_station u) ≡ true
    → station_number u ≢ station_number s
belt_apart s u b c =
    apart_by u s (λ e. let x : true ≡ false =
    sym c ∙ (ap (λ (v : Station). has_belt (machine_of_station v)) e ∙ b) in cc x)

-- THE STATIONS, IN THE BOOK AND IN THE WORLD

pub cleared_booked : (J : List Entry) (k : ℕ) (s u : Station) (w : Simulated) → Good J
    → Good (one_more J (Quarantined k s)) → IsPlain w → Left J s ≡ Some k → HasBooked J w u
    → HasBooked (one_more J (Quarantined k s)) (cleared s w) u
cleared_booked J k s u w g g' t there h =
    let x = Quarantined k s in
    each_station (λ (v : Station). HasBooked J w v → HasBooked (one_more J x) (cleared s w) v) s u
    (λ i. ap number_of (here_now s None w t.stations) ∙ sym (told_then J x s g' ∙ left_none k (Left J s) there))
    (λ d i. ap number_of (other_here s u w d) ∙ (i ∙ (told_left J u g ∙ sym (told_then J x u g'
    ∙ unless (is_plate k (Left J u)) None (Left J u) (not_elsewhere J k s u g there d))))) h

within_of : (s : Station) → has_belt (machine_of_station s) ≡ false → is_within s ≡ true
within_of station.FeedIn h = sym h
within_of station.DepEnd h = sym h
within_of s h = refl

-- what differs by the count of plates that were cleared alone
abbrev as_counted : Simulated → Simulated → Simulated
as_counted w v = record v { cleared = w.cleared }

laid_as : (K : List Entry) (p : Plan) (w v : Simulated) → NoneIsLaid K (as_counted w v) ⊎ OneIsLaid K p (as_counted w v)
    → NoneIsLaid K v ⊎ OneIsLaid K p v
laid_as K p w v (inl z) = inl (record { plate = z.plate; count = z.count })
laid_as K p w v (inr z) =
    inr (record { green = z.green; plate = z.plate; count = z.count; planned = z.planned })

pub laying_as : (K : List Entry) (p : Plan) (w v : Simulated) → GreenIsWanted K p → LayingAsBooked K p (as_counted w v)
    → LayingAsBooked K p v
laying_as K p w v wanted t =
    record {
      light = t.light;
      laid = laid_as K p w v t.laid;
      planned = t.planned;
      sparing = inr wanted;
      untrusting = t.untrusting;
      unexpected = t.unexpected;
    }

cleared_stations : (J : List Entry) (p : Plan) (k : ℕ) (s : Station) (w : Simulated) → Good J
    → Good (one_more J (Quarantined k s)) → has_belt (machine_of_station s) ≡ false → IsPlain w
    → Left J s ≡ Some k → GreenIsWanted J p → StationsAsBooked J p w
    → StationsAsBooked (one_more J (Quarantined k s)) p (cleared s w)
cleared_stations J p k s w g g' b t there wanted st =
    let x = Quarantined k s in let K = one_more J x in let v = cleared s w in
    let booked : (u : Station) → HasBooked J w u → HasBooked K v u = λ u h. cleared_booked J k s u w g g' t there h in
    record {
      laying = laying_as K p w v (wanted_more J p x refl refl wanted)
          (lays_before J K p w (as_counted w v)
          (record {
            lamp = lamp_before J x belt.Feed refl;
            admitted = admitted_before J x refl;
            expected = expected_before J x refl;
            part = refl;
            there = λ i. ap number_of (other_here s station.FeedIn w (belt_apart s station.FeedIn b refl));
            booked = λ h. booked station.FeedIn h;
          }) st.laying);
      taking = takes_before J K w v
          (record {
            lamp = lamp_before J x belt.Deposit refl;
            light = refl;
            there = λ i. ap number_of (other_here s station.DepEnd w (belt_apart s station.DepEnd b refl));
            booked = λ h. booked station.DepEnd h;
          }) st.taking;
      within = λ u h. booked u (st.within u h);
    }

-- THE BELTS

from_belt : (c : Conveying) → has_belt (machine_of_station (from_of c)) ≡ true
from_belt to_feed_end = refl
from_belt to_table = refl
from_belt to_deposit_end = refl

dest_here : (c : Conveying) (s : Station) (w : Simulated) → has_belt (machine_of_station s) ≡ false
    → (plate_here w s ≡ None → ⊥) → plate_here w (dest_of c) ≡ None
    → plate_here (cleared s w) (dest_of c) ≡ plate_here w (dest_of c)
dest_here to_feed_end s w b n e = other_here s station.FeedEnd w (belt_apart s station.FeedEnd b refl)
dest_here to_deposit_end s w b n e = other_here s station.DepEnd w (belt_apart s station.DepEnd b refl)
dest_here to_table s w b n e =
    each_station (λ (u : Station). plate_here w u ≡ None → plate_here (cleared s w) u ≡ plate_here w u) s station.Table
    (λ h. absurd (n h)) (λ d h. other_here s station.Table w d) e

pub cleared_light : (c : Conveying) (s : Station) (w : Simulated) → light_of c (cleared s w) ≡ light_of c w
cleared_light to_feed_end s w = refl
cleared_light to_table s w = refl
cleared_light to_deposit_end s w = refl

cleared_ends : (J : List Entry) (p : Plan) (n : Machine) (f : Option Following) (s : Station) (w : Simulated)
    → has_belt (machine_of_station s) ≡ false → (plate_here w s ≡ None → ⊥) → EndsStay J p n f w (cleared s w)
cleared_ends J p n f s w b full c q g i o =
    record {
      light = cleared_light c s w;
      from_end = other_here s (from_of c) w (belt_apart s (from_of c) b (from_belt c));
      dest_end = dest_here c s w b full o.empty;
    }

cleared_spares : (J : List Entry) (k : ℕ) (s : Station) (n : Machine) (w : Simulated) → IsPlain w
    → IsSpared n J (one_more J (Quarantined k s)) w (cleared s w)
cleared_spares J k s n w t =
    let x = Quarantined k s in
    record {
      plain = cleared_plain s w t;
      long = refl;
      at = λ a i. at_before J x a refl;
      going = λ a i. going_before J x a refl;
      axes = λ a i. refl;
    }

-- THE WHOLE CELL

pub clearing_keeps : ClearingKeeps
clearing_keeps l J p minds w k s b here free t =
    let x = Quarantined k s in let K = one_more J x in let v = cleared s w in
    let plain = plain_of l J p minds w t in
    let g = good_when_legal l J t.legal in let g' = good_then l J x g free in
    let at : plate_at w s ≡ Some k = t.stations.within s (within_of s b) ∙ here in
    let there : Left J s ≡ Some k = sym (told_left J s g) ∙ here in
    let full : plate_here w s ≡ None → ⊥ = λ h. some_none (plate_at w s) k at (ap number_of h) in
    let failed : (n : Machine) → is_failed K n ≡ is_failed J n = λ n. view_snoc (fails n) false J x in
    subst (λ (u : Simulated). CellWithStops l K p minds u)
    (sym (clear_does s w (ap (λ (o : Option ℕ). is_some o) at)))
    (record {
      legal = legal_then l J (Some x) t.legal free;
      fair = fair_then p w v refl t.fair;
      wanted = wanted_more J p x refl refl t.wanted;
      switches = λ n c. member_spared J K p n (minds n) w v (failed n) (cleared_spares J k s n w plain)
          (t.switches n c);
      belts = λ n c. kept_as J K n (minds n) (failed n) (view_snoc (asks n) false J x)
          (λ i. belt_stays J K p n (minds n).axis w v c (cleared_spares J k s n w plain)
          (cleared_ends J p n (minds n).axis s w b full) i) (t.belts n c);
      stations = cleared_stations J p k s w g g' b plain there t.wanted t.stations;
    })
