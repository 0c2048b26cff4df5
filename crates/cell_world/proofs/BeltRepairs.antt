-- A belt's machine that the operator repairs, and its first turn then
use Rattle.std.proofs.Common.{◌≡◌, inl, inr, ℕ, ◌+◌, ◌<◌, Bool, true, false, ◌⊎◌, Option, Some, None}
use Rattle.std.proofs.Common.{List, ◌++◌, refl, sym, ap, ◌∙◌, subst, is_none}
use Rattle.std.specs.Prelude.{option_to_list}
use Rattle.cell_types.specs.declared.words.Axis.{Axis}
use Rattle.cell_types.specs.declared.words.Cause.TheVariants as cause
use Rattle.cell_types.specs.declared.words.Belt.TheVariants as belt
use Rattle.cell_types.specs.declared.words.Colour.TheVariants as colour
use Rattle.cell_types.specs.declared.words.Entry.{Entry}
use Rattle.cell_types.specs.declared.words.Entry.TheVariants.{Repaired}
use Rattle.cell_types.specs.declared.words.Machine.{Machine}
use Rattle.cell_types.specs.declared.words.Machine.TheVariants as machine
use Rattle.cell_types.specs.declared.words.Pose.TheVariants as pose
use Rattle.cell_types.specs.declared.words.Station.{Station}
use Rattle.cell_types.specs.declared.words.Station.TheVariants as station
use Rattle.cell_types.specs.After.{after}
use Rattle.cell_types.specs.Cell.{axes_of, home, machine_of_axis, machine_of_station}
use Rattle.cell_types.specs.Same.{same_machine}
use Rattle.cell_rules.specs.declared.limits.BookLimits.{BookLimits}
use Rattle.cell_rules.specs.declared.refusal.Refusal.{Refusal}
use Rattle.cell_rules.specs.First.{any_still_there, any_visited}
use Rattle.cell_rules.specs.Last.{when}
use Rattle.cell_rules.specs.Legal.{allowed, first_of}
use Rattle.cell_rules.specs.SituationIn.{situation_in}
use Rattle.cell_rules.specs.Views.{going_of, is_asked, is_failed, lamp_of, plate_of}
use Rattle.cell_rules.proofs.Safe.Bridge.{Good, good_passed, good_when_legal}
use Rattle.cell_rules.proofs.Safe.Facts.{passed_last}
use Rattle.cell_rules.proofs.Safe.Plates.{emptied}
use Rattle.cell_ports.specs.declared.plan.Plan.{Plan}
use Rattle.cell_diagnosis.specs.declared.reading.Reading.{Reading}
use Rattle.cell_turns.specs.declared.turns.decide.Ruling.{Ruling}
use Rattle.cell_turns.specs.declared.turns.decide.Ruling.TheVariants.{Nothing, Proposes}
use Rattle.cell_turns.specs.Following.{Following}
use Rattle.cell_turns.specs.Minds.{Mind, first_mind}
use Rattle.cell_turns.specs.Observed.{axis_noted}
use Rattle.cell_turns.specs.Rulings.{declares, ruling}
use Rattle.cell_turns.specs.Turns.{IsProposed, IsRuled, begins_anew}
use Rattle.cell_sim.specs.Hands.{axis_homed}
use Rattle.cell_sim.specs.Parts.{in_turn, plate_at, plate_here}
use Rattle.cell_sim.specs.Readings.{after_reading, shown}
use Rattle.cell_sim.specs.Simulated.{Simulated}
use Rattle.cell_world.specs.Agreeing.{has_belt}
use Rattle.cell_world.specs.Belts.{BeltRests, Conveying, belt_of, from_of, machine_of, to_deposit_end, to_feed_end}
use Rattle.cell_world.specs.Belts.{to_table}
use Rattle.cell_world.specs.BeltStopping.{BeltAnewBegins, BeltBeginsAnew, BeltIsRepaired}
use Rattle.cell_world.specs.BeltStopping.{BeltRepairs, HasBrought, OneIsLeft, StationsBut, StationsStopped}
use Rattle.cell_world.specs.BeltTurning.{BeltTurnBegins, IsBeltTied, StationsAsBooked, way_of}
use Rattle.cell_world.specs.Going.{IsPlain}
use Rattle.cell_world.specs.Handing.{HasBooked}
use Rattle.cell_world.specs.Laying.{GreenIsWanted, NoneIsLaid}
use Rattle.cell_world.specs.Starting.{one_more}
use Rattle.cell_world.specs.Turning.{after_turn}
use Rattle.cell_world.proofs.BeltReads.{IsRead, Went, belt_agreed, belt_reads, nothing_noted}
use Rattle.cell_world.proofs.BeltReads.{way_is}
use Rattle.cell_world.proofs.BeltStops.{book_same}
use Rattle.cell_world.proofs.BeltTurns.{proposed_leaves}
use Rattle.cell_world.proofs.BeltWays.{one_belt, red_green}
use Rattle.cell_world.proofs.Halts.{all_home, home_does, homed_plain}
use Rattle.cell_world.proofs.Hand.{homed_part}
use Rattle.cell_world.proofs.Laying.{admitted_before, expected_before, lamp_before, laying_of, lays_before}
use Rattle.cell_world.proofs.Laying.{takes_before}
use Rattle.cell_world.proofs.Opening.{none_noted}
use Rattle.cell_world.proofs.Plates.{number_of, some_none, told_left}
use Rattle.cell_world.proofs.Four.{same_machines}
use Rattle.cell_world.proofs.Stopping.{anew_axis, anew_rest, at_home, by_fourth, failed_after, first_axis, obeyed_after}
use Rattle.cell_world.proofs.Stopping.{repaired_healthy, still_home}
use Rattle.cell_world.proofs.Turns.{Noted, good_then, plates_as, when_no}

-- WHAT THE BOOK TELLS

-- a machine is repaired only when none of its stations has a plate
no_plates : (l : BookLimits) (J : List Entry) (m : Machine) → Good J → first_of l J (Repaired m) ≡ None → (t : Station)
    → machine_of_station t ≡ m → plate_of J t ≡ None
no_plates l J m g free t e =
    let ok : allowed l J (Repaired m) ≡ true = ap (λ (o : Option Refusal). is_none o) free in
    let c = situation_in (after J) in
    told_left J t g ∙ emptied (after J) m
    (passed_last (any_visited c m) (any_still_there c m) (good_passed l J (Repaired m) g ok).1.1) t
    (subst (λ (n : Machine). same_machine (machine_of_station t) n ≡ true) e (same_machines (machine_of_station t)))

-- THE REPAIR

abbrev home_more : List Entry → Machine → List Entry
home_more J m = one_more J (Repaired m)

abbrev homed : Machine → Simulated → Simulated
homed m w = in_turn axis_homed (axes_of m) w

belt_its_own : (m : Machine) → has_belt m ≡ true → machine_of_axis (belt_of (way_of m)) ≡ m
belt_its_own machine.Feed b = refl
belt_its_own machine.Deposit b = refl
belt_its_own machine.Table b = cc b
belt_its_own machine.Robot b = cc b
belt_its_own machine.Press1 b = cc b
belt_its_own machine.Press2 b = cc b

rests_home : (m : Machine) → has_belt m ≡ true → home (belt_of (way_of m)) ≡ pose.Rest
rests_home machine.Feed b = refl
rests_home machine.Deposit b = refl
rests_home machine.Table b = cc b
rests_home machine.Robot b = cc b
rests_home machine.Press1 b = cc b
rests_home machine.Press2 b = cc b

homed_rests : (J : List Entry) (m : Machine) (w : Simulated) → has_belt m ≡ true → IsPlain w
    → BeltRests (home_more J m) (way_of m) None (homed m w)
homed_rests J m w b t =
    let a = belt_of (way_of m) in let e = belt_its_own m b in
    record {
      plain = homed_plain (axes_of m) w t;
      booked = still_home J m a e;
      home = at_home J m a e ∙ rests_home m b;
      still = (all_home m a w t e).still;
      unnoted = refl;
    }

homed_here : (m : Machine) (w : Simulated) (u : Station) → plate_here (homed m w) u ≡ plate_here w u
homed_here m w u = homed_part (λ (v : Simulated). plate_here v u) (λ a y v. refl) (axes_of m) w

homed_laying : (m : Machine) (w : Simulated) → laying_of (homed m w) ≡ laying_of w
homed_laying m w = homed_part laying_of (λ a y v. refl) (axes_of m) w

homed_light : (m : Machine) (w : Simulated) → (homed m w).deposit_light ≡ w.deposit_light
homed_light m w = homed_part (λ (v : Simulated). v.deposit_light) (λ a y v. refl) (axes_of m) w

from_its : (c : Conveying) → machine_of_station (from_of c) ≡ machine_of c
from_its to_feed_end = refl
from_its to_table = refl
from_its to_deposit_end = refl

-- a plate that is put back is booked at a station of the machine
brought_not : (l : BookLimits) (J : List Entry) (m : Machine) (w : Simulated) → Good J
    → first_of l J (Repaired m) ≡ None → HasBrought J m w → ⊥
brought_not l J m w g free b =
    some_none (plate_of J (from_of b.way)) b.plate.number b.booked
    (no_plates l J m g free (from_of b.way) (from_its b.way ∙ b.of))

homed_booked : (J : List Entry) (m : Machine) (w : Simulated) (u : Station) → Good J → Good (home_more J m)
    → HasBooked J w u → HasBooked (home_more J m) (homed m w) u
homed_booked J m w u g k h = plates_as J (Repaired m) w (homed m w) u g k refl (ap number_of (homed_here m w u)) h

red_wanted : (K : List Entry) (p : Plan) → lamp_of K belt.Feed ≡ colour.Red → GreenIsWanted K p
red_wanted K p red green = absurd (red_green (lamp_of K belt.Feed) red green)

-- where no plate is left the stations are as booked
feed_whole : (K : List Entry) (p : Plan) (v : Simulated) → StationsBut K p machine.Feed v → NoneIsLaid K v
    → StationsAsBooked K p v
feed_whole K p v t z =
    record {
      laying = record {
        light = t.laying.light ∙ sym t.laying.red;
        laid = inl z;
        planned = t.laying.planned;
        sparing = inr (red_wanted K p t.laying.red);
        untrusting = t.laying.untrusting;
        unexpected = t.laying.unexpected;
      };
      taking = t.taking;
      within = t.within;
    }

abbrev Whole : List Entry → Plan → Machine → Simulated → Type 0
Whole K p m v =
    StationsAsBooked K p v ⊎ ((m ≡ machine.Feed) × OneIsLeft K p v × StationsBut K p m v)

feed_either : (K : List Entry) (p : Plan) (v : Simulated) → StationsBut K p machine.Feed v
    → NoneIsLaid K v ⊎ OneIsLeft K p v → Whole K p machine.Feed v
feed_either K p v t (inl z) = inl (feed_whole K p v t z)
feed_either K p v t (inr z) = inr (refl, z, t)

laid_home : (J : List Entry) (p : Plan) (w : Simulated) → Good J → Good (home_more J machine.Feed)
    → NoneIsLaid J w ⊎ OneIsLeft J p w
    → NoneIsLaid (home_more J machine.Feed) (homed machine.Feed w)
    ⊎ OneIsLeft (home_more J machine.Feed) p (homed machine.Feed w)
laid_home J p w g k (inl z) =
    let a = admitted_before J (Repaired machine.Feed) refl in
    inl (record { plate = homed_booked J machine.Feed w station.FeedIn g k z.plate; count = z.count ∙ sym a })
laid_home J p w g k (inr z) =
    let a = admitted_before J (Repaired machine.Feed) refl in
    inr (record {
      plate = ap number_of (homed_here machine.Feed w station.FeedIn)
          ∙ (z.plate ∙ ap (λ (n : ℕ). Some (n + 1)) (sym a));
      count = z.count ∙ ap (λ (n : ℕ). n + 1) (sym a);
      planned = subst (λ (n : ℕ). n < p.plates) (sym a) z.planned;
      unbooked = book_same J (Repaired machine.Feed) station.FeedIn g k refl ∙ z.unbooked;
    })

feed_home : (J : List Entry) (p : Plan) (w : Simulated) → Good J → Good (home_more J machine.Feed)
    → StationsBut J p machine.Feed w → StationsBut (home_more J machine.Feed) p machine.Feed (homed machine.Feed w)
feed_home J p w g k t =
    let m = machine.Feed in let x = Repaired m in let K = one_more J x in let v = homed m w in
    record {
      laying = record {
        red = lamp_before J x belt.Feed refl ∙ t.laying.red;
        light = t.laying.light;
        laid = laid_home J p w g k t.laying.laid;
        planned = t.laying.planned;
        untrusting = t.laying.untrusting;
        unexpected = expected_before J x refl ∙ t.laying.unexpected;
      };
      taking = takes_before J K w v
          (record {
            lamp = lamp_before J x belt.Deposit refl;
            light = homed_light m w;
            there = λ i. ap number_of (homed_here m w station.DepEnd);
            booked = homed_booked J m w station.DepEnd g k;
          }) t.taking;
      within = λ u i. homed_booked J m w u g k (t.within u i);
    }

-- no plate is booked where it was taken out
none_taken : (J : List Entry) (w : Simulated) → plate_of J station.DepEnd ≡ None
    → HasBooked J w station.DepEnd ⊎ (plate_at w station.DepEnd ≡ None) → HasBooked J w station.DepEnd
none_taken J w n (inl z) = z
none_taken J w n (inr z) = z ∙ sym n

deposit_home : (J : List Entry) (p : Plan) (w : Simulated) → Good J → Good (home_more J machine.Deposit)
    → plate_of J station.DepEnd ≡ None → StationsBut J p machine.Deposit w
    → StationsAsBooked (home_more J machine.Deposit) p (homed machine.Deposit w)
deposit_home J p w g k n t =
    let m = machine.Deposit in let x = Repaired m in let K = one_more J x in let v = homed m w in
    record {
      laying = lays_before J K p w v
          (record {
            lamp = lamp_before J x belt.Feed refl;
            admitted = admitted_before J x refl;
            expected = expected_before J x refl;
            part = homed_laying m w;
            there = λ i. ap number_of (homed_here m w station.FeedIn);
            booked = homed_booked J m w station.FeedIn g k;
          }) t.laying;
      taking = record {
        light = homed_light m w ∙ (t.taking.light ∙ sym (lamp_before J x belt.Deposit refl ∙ t.taking.red));
        taken = inl (homed_booked J m w station.DepEnd g k (none_taken J w n t.taking.taken));
      };
      within = λ u i. homed_booked J m w u g k (t.within u i);
    }

stations_home : (l : BookLimits) (J : List Entry) (p : Plan) (m : Machine) (w : Simulated) → has_belt m ≡ true
    → Good J → Good (home_more J m) → first_of l J (Repaired m) ≡ None → StationsBut J p m w
    → Whole (home_more J m) p m (homed m w)
stations_home l J p machine.Feed w b g k free t =
    let h = feed_home J p w g k t in
    feed_either (home_more J machine.Feed) p (homed machine.Feed w) h h.laying.laid
stations_home l J p machine.Deposit w b g k free t =
    inl (deposit_home J p w g k (no_plates l J machine.Deposit g free station.DepEnd refl) t)
stations_home l J p machine.Table w b g k free t = cc b
stations_home l J p machine.Robot w b g k free t = cc b
stations_home l J p machine.Press1 w b g k free t = cc b
stations_home l J p machine.Press2 w b g k free t = cc b

only_put : (l : BookLimits) (J : List Entry) (p : Plan) (m : Machine) (w : Simulated) → Good J
    → first_of l J (Repaired m) ≡ None → StationsStopped J p m w → StationsBut J p m w
only_put l J p m w g free (inl t) = t
only_put l J p m w g free (inr t) = absurd (brought_not l J m w g free t.0)

pub belt_repairs : BeltRepairs
belt_repairs l J p m s w b law free t st =
    let g = good_when_legal l J law in let k = good_then l J (Repaired m) g free in let v = homed m w in
    let K = home_more J m in
    subst (λ (u : Simulated). BeltIsRepaired K m s u × Whole K p m u) (sym (home_does m w t.plain)) (
      record {
        healthy = repaired_healthy J m;
        was_failed = t.was_failed;
        was_obeyed = t.was_obeyed;
        rests = homed_rests J m w b t.plain;
      },
      stations_home l J p m w b g k free (only_put l J p m w g free st),
    )

-- THE FIRST TURN THEN

pub ruled_belt : (J : List Entry) (p : Plan) (m : Machine) (s : Mind) (w : Simulated) (r : Option Reading)
    → BeltIsRepaired J m s w → is_asked J m ≡ false → ruling J m p s r ≡ Proposes
unfolding ruling
ruled_belt J p m s w r t h =
    by_fourth _ _ _ _ Proposes (when_no (is_failed J m) Nothing t.healthy)
    (when_no s.memory.command_failed (declares m cause.CommandFault) t.was_obeyed)
    (when_no (is_asked J m) (declares m cause.OperatorStop) h)
    (ap (λ (x : Bool). when x Proposes) t.was_failed)

pub belt_anew : (J : List Entry) (m : Machine) (s : Mind) (w : Simulated) → BeltIsRepaired J m s w
    → is_asked J m ≡ false
    → begins_anew J m s.memory ≡ true
belt_anew J m s w t h = let a = t.was_failed in let b = t.healthy in let c = t.was_obeyed in rw (a, b, c, h) refl

-- its reading finds no end of a motion
only_read : (J : List Entry) (p : Plan) (m : Machine) (s : Mind) (w : Simulated) → has_belt m ≡ true
    → BeltRests J (way_of m) s.axis w → Went J p m s w → IsRead J p m (Noted J p m s w) (after_reading w m)
only_read J p m s w b t (inl x) = x.1
only_read J p m s w b t (inr x) =
    absurd (some_none _ _ x.goes.booked
    (subst (λ (a : Axis). going_of J a ≡ None) (one_belt (way_of m) x.way (way_is m b ∙ sym x.of)) t.booked))

first_begins : (l : BookLimits) (J : List Entry) (p : Plan) (m : Machine) (s : Mind) (w : Simulated)
    → BeltAnewBegins l J p m s w → BeltTurnBegins l J p m (first_mind J m) w
first_begins l J p m s w t =
    record {
      legal = t.legal;
      fair = t.fair;
      as_booked = record {
        healthy = t.repaired.healthy;
        unasked = t.unasked;
        was_healthy = t.repaired.healthy;
        was_obeyed = refl;
        tied = inl t.repaired.rests;
        agreed = none_noted;
      };
      stations = t.stations;
      robot = t.robot;
    }

first_noted : (J : List Entry) (p : Plan) (m : Machine) (w : Simulated) (r : Option Reading) → has_belt m ≡ true
    → BeltRests J (way_of m) None w → axis_noted J m p None r ≡ None
first_noted J p m w r b t =
    subst (λ (n : Machine). axis_noted J n p None r ≡ None) (way_is m b) (nothing_noted J p (way_of m) None w r t)

pub belt_begins_anew : BeltBeginsAnew
belt_begins_anew l J p m s w e b t d allow =
    let f = first_mind J m in let r = shown w m in let K = J ++ option_to_list e in
    let begins = first_begins l J p m s w t in let rests = t.repaired.rests in
    let proposed : IsProposed l J m p.plates e =
    subst (λ (k : Ruling). IsRuled l J m p.plates k e) (ruled_belt J p m s w r t.repaired t.unasked) d in
    let read = only_read J p m f w b rests (belt_reads J p m f w b t.robot t.stations (inl rests)) in
    let left = (proposed_leaves l J p m f w e
    (record { belt = b; begins = begins; agreed = belt_agreed l J p m f w b begins }) read
    (good_when_legal l J t.legal) proposed allow).0 in
    let new = belt_anew J m s w t.repaired t.unasked in
    record {
      works = record {
        healthy = left.as_booked.healthy;
        was_healthy = failed_after J p m s r e ∙ left.as_booked.healthy;
        was_obeyed = obeyed_after J p m s r e t.repaired.was_obeyed;
        tied = subst (λ (x : Option Following). IsBeltTied K p m x (after_turn w m e))
            (first_axis J p m w r e (first_noted J p m w r b rests) ∙ sym (anew_axis J p m s r e new))
            left.as_booked.tied;
        agreed = anew_rest J p m s r e new;
      };
      stations = left.stations;
      collisions = left.collisions;
    }
