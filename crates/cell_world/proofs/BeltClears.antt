-- A station of a belt's stopped machine is cleared
use Rattle.std.proofs.Common.{◌≡◌, ◌≢◌, inl, inr, ℕ, ◌+◌, ◌<◌, ◌⊎◌, true, false, Option, Some, None, List, is_some}
use Rattle.std.proofs.Common.{arith, refl, sym, ap, ◌∙◌, subst}
use Rattle.std.specs.Option.{option_or}
use Rattle.cell_types.specs.declared.words.Axis.{Axis}
use Rattle.cell_types.specs.declared.words.Axis.TheVariants as axis
use Rattle.cell_types.specs.declared.words.Belt.TheVariants as belt
use Rattle.cell_types.specs.declared.words.Entry.{Entry}
use Rattle.cell_types.specs.declared.words.Entry.TheVariants.{Quarantined}
use Rattle.cell_types.specs.declared.words.Machine.{Machine}
use Rattle.cell_types.specs.declared.words.Machine.TheVariants as machine
use Rattle.cell_types.specs.declared.words.Station.{Station}
use Rattle.cell_types.specs.declared.words.Station.TheVariants as station
use Rattle.cell_types.specs.After.{is_plate}
use Rattle.cell_types.specs.Cell.{machine_of_station}
use Rattle.cell_types.specs.Same.{station_number}
use Rattle.cell_rules.specs.declared.limits.BookLimits.{BookLimits}
use Rattle.cell_rules.specs.Views.{fails, plate_of}
use Rattle.cell_rules.proofs.Safe.Bridge.{Good, good_when_legal}
use Rattle.cell_rules.proofs.Safe.Views.{view_snoc}
use Rattle.cell_ports.specs.declared.plan.Plan.{Plan}
use Rattle.cell_turns.specs.Minds.{Mind}
use Rattle.cell_sim.specs.Hands.{after_remove, carried, carried_by, count_removed, is_anywhere, taken_out}
use Rattle.cell_sim.specs.Moves.{moves}
use Rattle.cell_sim.specs.Parts.{axis_at, has_plate, plate_at, with_plate}
use Rattle.cell_sim.specs.Readings.{is_silent_in}
use Rattle.cell_sim.specs.Simulated.{Simulated}
use Rattle.cell_world.specs.Belts.{light_of}
use Rattle.cell_world.specs.BeltStopping.{BeltClearBegins, BeltClears, BeltHasStopped}
use Rattle.cell_world.specs.BeltStopping.{OneIsLeft, PathsBegin, StationsBut}
use Rattle.cell_world.specs.BeltTurning.{way_of}
use Rattle.cell_world.specs.Going.{IsPlain}
use Rattle.cell_world.specs.Handing.{HasBooked}
use Rattle.cell_world.specs.Laying.{GreenIsWanted, NoneIsLaid}
use Rattle.cell_world.specs.Starting.{one_more}
use Rattle.cell_world.proofs.BeltLamps.{left_none, told_then}
use Rattle.cell_world.proofs.Clearing.{clear_does, cleared, cleared_booked, cleared_light, cleared_plain, laying_as}
use Rattle.cell_world.proofs.Clearing.{other_here}
use Rattle.cell_world.proofs.Ends.{apart_by}
use Rattle.cell_world.proofs.Laying.{admitted_before, apart_out, expected_before, lamp_before, lays_before}
use Rattle.cell_world.proofs.Laying.{takes_before}
use Rattle.cell_world.proofs.Plates.{Left, each_station, number_of, not_elsewhere, some_none, told_left}
use Rattle.cell_world.proofs.Steps.{unless}
use Rattle.cell_world.proofs.Turns.{good_then}
use Rattle.cell_world.proofs.Wanted.{wanted_more}

abbrev clear_more : List Entry → ℕ → Station → List Entry
clear_more J k s = one_more J (Quarantined k s)

-- THE BOOK

-- a station that has none has none then
still_none : (J : List Entry) (k : ℕ) (s u : Station) → Good J → Good (clear_more J k s) → Left J s ≡ Some k
    → plate_of J u ≡ None → plate_of (clear_more J k s) u ≡ None
still_none J k s u g k' there h =
    let x = Quarantined k s in
    each_station (λ (v : Station). plate_of J v ≡ None → plate_of (clear_more J k s) v ≡ None) s u
    (λ i. told_then J x s k' ∙ left_none k (Left J s) there)
    (λ d i. told_then J x u k' ∙ (unless (is_plate k (Left J u)) None (Left J u) (not_elsewhere J k s u g there d)
    ∙ (sym (told_left J u g) ∙ i))) h

-- where the plate is missing in the world, the other stations are as booked
other_booked : (J : List Entry) (k : ℕ) (s u : Station) (w : Simulated) → Good J → Good (clear_more J k s)
    → Left J s ≡ Some k → station_number u ≢ station_number s → HasBooked J w u → HasBooked (clear_more J k s) w u
other_booked J k s u w g k' there d z =
    let x = Quarantined k s in
    z ∙ (told_left J u g ∙ sym (told_then J x u k'
    ∙ unless (is_plate k (Left J u)) None (Left J u) (not_elsewhere J k s u g there d)))

-- A PLATE THAT IS THERE IS TAKEN OUT

pub record Clears (J : List Entry) (p : Plan) (k : ℕ) (s : Station) (w : Simulated) : Type 0 where
  pub good : Good J
  pub next : Good (clear_more J k s)
  pub plain : IsPlain w
  pub there : Left J s ≡ Some k
  pub wanted : GreenIsWanted J p

booked_then : (J : List Entry) (p : Plan) (k : ℕ) (s u : Station) (w : Simulated) → Clears J p k s w
    → HasBooked J w u → HasBooked (clear_more J k s) (cleared s w) u
booked_then J p k s u w t h = cleared_booked J k s u w t.good t.next t.plain t.there h

-- the station that is cleared isn't one where no plate is booked
not_this : (J : List Entry) (k : ℕ) (s u : Station) → Good J → Left J s ≡ Some k → plate_of J u ≡ None
    → station_number u ≢ station_number s
not_this J k s u g there h =
    apart_by u s (λ e. some_none (Left J s) k there
    (sym (told_left J s g) ∙ subst (λ (v : Station). plate_of J v ≡ None) e h))

left_cleared : (J : List Entry) (p : Plan) (k : ℕ) (s : Station) (w : Simulated) → Clears J p k s w
    → NoneIsLaid J w ⊎ OneIsLeft J p w
    → NoneIsLaid (clear_more J k s) (cleared s w) ⊎ OneIsLeft (clear_more J k s) p (cleared s w)
left_cleared J p k s w t (inl z) =
    let a = admitted_before J (Quarantined k s) refl in
    inl (record { plate = booked_then J p k s station.FeedIn w t z.plate; count = z.count ∙ sym a })
left_cleared J p k s w t (inr z) =
    let a = admitted_before J (Quarantined k s) refl in
    inr (record {
      plate = ap number_of (other_here s station.FeedIn w (not_this J k s station.FeedIn t.good t.there z.unbooked))
          ∙ (z.plate ∙ ap (λ (n : ℕ). Some (n + 1)) (sym a));
      count = z.count ∙ ap (λ (n : ℕ). n + 1) (sym a);
      planned = subst (λ (n : ℕ). n < p.plates) (sym a) z.planned;
      unbooked = still_none J k s station.FeedIn t.good t.next t.there z.unbooked;
    })

feed_apart : (s : Station) → machine_of_station s ≡ machine.Feed → station_number station.DepEnd ≢ station_number s
feed_apart s e = apart_by station.DepEnd s (λ i.
    let c : machine.Deposit ≡ machine.Feed = ap machine_of_station i ∙ e in cc c)

deposit_apart : (s : Station) → machine_of_station s ≡ machine.Deposit
    → station_number station.FeedIn ≢ station_number s
deposit_apart s e = apart_by station.FeedIn s (λ i.
    let c : machine.Feed ≡ machine.Deposit = ap machine_of_station i ∙ e in cc c)

pub feed_cleared : (J : List Entry) (p : Plan) (k : ℕ) (s : Station) (w : Simulated) → Clears J p k s w
    → machine_of_station s ≡ machine.Feed → StationsBut J p machine.Feed w
    → StationsBut (clear_more J k s) p machine.Feed (cleared s w)
feed_cleared J p k s w t e st =
    let x = Quarantined k s in let K = one_more J x in let v = cleared s w in
    record {
      laying = record {
        red = lamp_before J x belt.Feed refl ∙ st.laying.red;
        light = st.laying.light;
        laid = left_cleared J p k s w t st.laying.laid;
        planned = st.laying.planned;
        untrusting = st.laying.untrusting;
        unexpected = expected_before J x refl ∙ st.laying.unexpected;
      };
      taking = takes_before J K w v
          (record {
            lamp = lamp_before J x belt.Deposit refl;
            light = refl;
            there = λ i. ap number_of (other_here s station.DepEnd w (feed_apart s e));
            booked = λ h. booked_then J p k s station.DepEnd w t h;
          }) st.taking;
      within = λ u h. booked_then J p k s u w t (st.within u h);
    }

none_cleared : (J : List Entry) (p : Plan) (k : ℕ) (s : Station) (w : Simulated) → Clears J p k s w
    → plate_at w s ≡ Some k → HasBooked J w station.DepEnd ⊎ (plate_at w station.DepEnd ≡ None)
    → HasBooked (clear_more J k s) (cleared s w) station.DepEnd ⊎ (plate_at (cleared s w) station.DepEnd ≡ None)
none_cleared J p k s w t at (inl z) = inl (booked_then J p k s station.DepEnd w t z)
none_cleared J p k s w t at (inr z) =
    inr (ap number_of (other_here s station.DepEnd w (apart_by station.DepEnd s (λ e.
    some_none (plate_at w s) k at (subst (λ (u : Station). plate_at w u ≡ None) e z)))) ∙ z)

pub deposit_cleared : (J : List Entry) (p : Plan) (k : ℕ) (s : Station) (w : Simulated) → Clears J p k s w
    → machine_of_station s ≡ machine.Deposit → plate_at w s ≡ Some k → StationsBut J p machine.Deposit w
    → StationsBut (clear_more J k s) p machine.Deposit (cleared s w)
deposit_cleared J p k s w t e at st =
    let x = Quarantined k s in let K = one_more J x in let v = cleared s w in
    record {
      laying = laying_as K p w v (wanted_more J p x refl refl t.wanted)
          (lays_before J K p w (record v { cleared = w.cleared })
          (record {
            lamp = lamp_before J x belt.Feed refl;
            admitted = admitted_before J x refl;
            expected = expected_before J x refl;
            part = refl;
            there = λ i. ap number_of (other_here s station.FeedIn w (deposit_apart s e));
            booked = λ h. booked_then J p k s station.FeedIn w t h;
          }) st.laying);
      taking = record {
        red = lamp_before J x belt.Deposit refl ∙ st.taking.red;
        light = st.taking.light;
        taken = none_cleared J p k s w t at st.taking.taken;
      };
      within = λ u h. booked_then J p k s u w t (st.within u h);
    }

-- A PLATE THAT WAS TAKEN OUT ALREADY

deposit_missed : (J : List Entry) (p : Plan) (k : ℕ) (w : Simulated) → Clears J p k station.DepEnd w
    → plate_at w station.DepEnd ≡ None → StationsBut J p machine.Deposit w
    → StationsBut (clear_more J k station.DepEnd) p machine.Deposit w
deposit_missed J p k w t gone st =
    let s = station.DepEnd in let x = Quarantined k s in let K = one_more J x in
    record {
      laying = lays_before J K p w w
          (record {
            lamp = lamp_before J x belt.Feed refl;
            admitted = admitted_before J x refl;
            expected = expected_before J x refl;
            part = refl;
            there = λ i. refl;
            booked = λ h. other_booked J k s station.FeedIn w t.good t.next t.there (omega arith) h;
          }) st.laying;
      taking = record {
        red = lamp_before J x belt.Deposit refl ∙ st.taking.red;
        light = st.taking.light;
        taken = inr gone;
      };
      within = λ u h. other_booked J k s u w t.good t.next t.there (apart_out u h) (st.within u h);
    }

missed : (s : Station) (w : Simulated) → has_plate w s ≡ false → carried w s ≡ None → after_remove s w ≡ w
unfolding after_remove is_anywhere
missed s w h c =
    unless (has_plate w s) (count_removed s (with_plate s None w)) _ h
    ∙ unless (is_anywhere w (carried w s)) (count_removed s (taken_out (carried w s) w)) w
    (ap (λ (o : Option ℕ). is_anywhere w o) c ∙ refl)

none_carried : (w : Simulated) → PathsBegin w → carried w station.DepEnd ≡ None
none_carried w t =
    let a = t.feed station.DepEnd (λ e. let c : machine.Deposit ≡ machine.Feed = e in cc c) in
    let b = t.deposit station.DepEnd (λ e. let c : station.DepEnd ≡ station.DepIn = e in cc c) in
    ap (λ (o : Option ℕ). option_or o (carried_by (axis_at w axis.DepositBelt).motion station.DepEnd)) a ∙ b

-- THE MACHINE STAYS STOPPED

pub still_stopped : (J : List Entry) (m : Machine) (k : ℕ) (s : Station) (i : Mind) (w v : Simulated) → IsPlain v
    → ((a : Axis) → axis_at v a ≡ axis_at w a) → light_of (way_of m) v ≡ light_of (way_of m) w
    → BeltHasStopped J m i w → BeltHasStopped (clear_more J k s) m i v
still_stopped J m k s i w v plain axes light t =
    record {
      failed = view_snoc (fails m) false J (Quarantined k s) ∙ t.failed;
      was_failed = t.was_failed;
      was_obeyed = t.was_obeyed;
      plain = plain;
      red = light ∙ t.red;
      still = λ a e. ap (λ x. moves x.motion) (axes a) ∙ t.still a e;
      read = λ a e. ap (λ x. is_silent_in x.motion) (axes a) ∙ t.read a e;
    }

abbrev After : List Entry → Plan → ℕ → Station → Mind → Simulated → Type 0
After J p k s i v =
    BeltHasStopped (clear_more J k s) (machine_of_station s) i v
    × StationsBut (clear_more J k s) p (machine_of_station s) v

there_clears : (J : List Entry) (p : Plan) (k : ℕ) (s : Station) (i : Mind) (w : Simulated) → IsPlain w
    → plate_at w s ≡ Some k → BeltHasStopped J (machine_of_station s) i w
    → StationsBut (clear_more J k s) p (machine_of_station s) (cleared s w) → After J p k s i (after_remove s w)
there_clears J p k s i w plain at t st =
    let m = machine_of_station s in
    subst (λ (v : Simulated). After J p k s i v) (sym (clear_does s w (ap (λ (o : Option ℕ). is_some o) at))) (
      still_stopped J m k s i w (cleared s w) (cleared_plain s w plain) (λ a. refl) (cleared_light (way_of m) s w) t,
      st,
    )

none_clears : (J : List Entry) (p : Plan) (k : ℕ) (i : Mind) (w : Simulated) → Clears J p k station.DepEnd w
    → PathsBegin w → plate_at w station.DepEnd ≡ None → BeltHasStopped J machine.Deposit i w
    → StationsBut J p machine.Deposit w → After J p k station.DepEnd i (after_remove station.DepEnd w)
none_clears J p k i w t paths gone h st =
    subst (λ (v : Simulated). After J p k station.DepEnd i v)
    (sym (missed station.DepEnd w (ap (λ (o : Option ℕ). is_some o) gone) (none_carried w paths))) (
      still_stopped J machine.Deposit k station.DepEnd i w w t.plain (λ a. refl) refl h,
      deposit_missed J p k w t gone st,
    )

-- what is booked at the beginning of the feed belt is there
front_there : (J : List Entry) (p : Plan) (k : ℕ) (w : Simulated) → plate_of J station.FeedIn ≡ Some k
    → NoneIsLaid J w ⊎ OneIsLeft J p w → plate_at w station.FeedIn ≡ Some k
front_there J p k w h (inl z) = z.plate ∙ h
front_there J p k w h (inr z) = absurd (some_none (plate_of J station.FeedIn) k h z.unbooked)

end_clears : (J : List Entry) (p : Plan) (k : ℕ) (i : Mind) (w : Simulated) → Clears J p k station.DepEnd w
    → PathsBegin w → plate_of J station.DepEnd ≡ Some k
    → HasBooked J w station.DepEnd ⊎ (plate_at w station.DepEnd ≡ None) → BeltHasStopped J machine.Deposit i w
    → StationsBut J p machine.Deposit w → After J p k station.DepEnd i (after_remove station.DepEnd w)
end_clears J p k i w t paths here (inl z) h st =
    let at = z ∙ here in
    there_clears J p k station.DepEnd i w t.plain at h (deposit_cleared J p k station.DepEnd w t refl at st)
end_clears J p k i w t paths here (inr z) h st = none_clears J p k i w t paths z h st

clears : (l : BookLimits) (J : List Entry) (p : Plan) (k : ℕ) (s : Station) (i : Mind) (w : Simulated)
    → BeltClearBegins l J p k s i w → Clears J p k s w
clears l J p k s i w t =
    let g = good_when_legal l J t.legal in
    record {
      good = g;
      next = good_then l J (Quarantined k s) g t.allowed;
      plain = t.stopped.plain;
      there = sym (told_left J s g) ∙ t.here;
      wanted = t.wanted;
    }

pub belt_clears : BeltClears
belt_clears l J p k station.FeedIn i w b t =
    let at = front_there J p k w t.here t.stations.laying.laid in
    there_clears J p k station.FeedIn i w t.stopped.plain at t.stopped
    (feed_cleared J p k station.FeedIn w (clears l J p k station.FeedIn i w t) refl t.stations)
belt_clears l J p k station.FeedEnd i w b t =
    there_clears J p k station.FeedEnd i w t.stopped.plain (t.stations.within station.FeedEnd refl ∙ t.here) t.stopped
    (feed_cleared J p k station.FeedEnd w (clears l J p k station.FeedEnd i w t) refl t.stations)
belt_clears l J p k station.DepIn i w b t =
    let at = t.stations.within station.DepIn refl ∙ t.here in
    there_clears J p k station.DepIn i w t.stopped.plain at t.stopped
    (deposit_cleared J p k station.DepIn w (clears l J p k station.DepIn i w t) refl at t.stations)
belt_clears l J p k station.DepEnd i w b t =
    end_clears J p k i w (clears l J p k station.DepEnd i w t) t.paths t.here t.stations.taking.taken t.stopped
    t.stations
belt_clears l J p k station.Table i w b t = let x : false ≡ true = b in cc x
belt_clears l J p k station.Arm1 i w b t = let x : false ≡ true = b in cc x
belt_clears l J p k station.Arm2 i w b t = let x : false ≡ true = b in cc x
belt_clears l J p k station.Press1 i w b t = let x : false ≡ true = b in cc x
belt_clears l J p k station.Press2 i w b t = let x : false ≡ true = b in cc x
