-- A belt's machine that the operator stops
use Rattle.std.proofs.Common.{◌≡◌, ◌≢◌, inl, inr, ℕ, ◌+◌, ◌<◌, Bool, true, false, not, ◌&&◌, ◌⊎◌, Option, Some, None}
use Rattle.std.proofs.Common.{List, [], ◌++◌, refl, sym, ap, ◌∙◌, subst, length-set, IfSome}
use Rattle.std.proofs.lemmas.List.{append-nil}
use Rattle.std.specs.Prelude.{option_to_list, suc, zero}
use Rattle.cell_types.specs.declared.words.Axis.{Axis}
use Rattle.cell_types.specs.declared.words.Axis.TheVariants as axis
use Rattle.cell_types.specs.declared.words.Belt.TheVariants as belt
use Rattle.cell_types.specs.declared.words.Cause.TheVariants as cause
use Rattle.cell_types.specs.declared.words.Colour.TheVariants as colour
use Rattle.cell_types.specs.declared.words.Command.TheVariants.{AllOff}
use Rattle.cell_types.specs.declared.words.Entry.{Entry}
use Rattle.cell_types.specs.declared.words.Entry.TheVariants.{Declared}
use Rattle.cell_types.specs.declared.words.Machine.{Machine}
use Rattle.cell_types.specs.declared.words.Machine.TheVariants as machine
use Rattle.cell_types.specs.declared.words.Station.{Station}
use Rattle.cell_types.specs.declared.words.Station.TheVariants as station
use Rattle.cell_types.specs.After.{after, step}
use Rattle.cell_types.specs.Cell.{axes_of, machine_of_axis}
use Rattle.cell_types.specs.Same.{same_colour, station_number}
use Rattle.cell_rules.specs.Legal.{first_of}
use Rattle.cell_rules.specs.Views.{is_failed, lamp_of, plate_of}
use Rattle.cell_rules.proofs.Safe.Bridge.{Good, good_when_legal}
use Rattle.cell_ports.specs.declared.plan.Plan.{Plan}
use Rattle.cell_turns.specs.declared.turns.decide.Ruling.{Ruling}
use Rattle.cell_turns.specs.Following.{Following}
use Rattle.cell_turns.specs.Minds.{Mind}
use Rattle.cell_turns.specs.Turns.{IsRuled, mind_after}
use Rattle.cell_sim.specs.declared.axis.AxisInWorld.{AxisInWorld}
use Rattle.cell_sim.specs.declared.motion.Moving.{Moving}
use Rattle.cell_sim.specs.declared.motion.Phase.TheVariants.{Arrived}
use Rattle.cell_sim.specs.declared.world.Plate.{Plate}
use Rattle.cell_sim.specs.Commands.{after_command, all_stopped, axis_stopped, fails, feed_lit, stopped_motion, unlit}
use Rattle.cell_sim.specs.Parts.{axis_at, in_turn, plate_at, plate_here, with_motion, with_plate}
use Rattle.cell_sim.specs.Readings.{after_reading, by_the_hands, is_reading_missing, is_silent_in, read_on, shown}
use Rattle.cell_sim.specs.Simulated.{Simulated}
use Rattle.cell_world.specs.Agreeing.{has_belt}
use Rattle.cell_world.specs.Belts.{BeltGoes, BeltRests, Conveying, belt_of, dest_of, from_of, light_of, machine_of}
use Rattle.cell_world.specs.Belts.{path_with, to_deposit_end, to_feed_end, to_table}
use Rattle.cell_world.specs.BeltStopping.{BeltStopsAnew, BeltHasStopped, BeltStands, BeltStopLeaves, BeltStops}
use Rattle.cell_world.specs.BeltStopping.{HasBrought, OneIsLeft, StationsBut, StationsStopped, put_back}
use Rattle.cell_world.specs.BeltTurning.{IsBeltTied, StationsAsBooked, way_of}
use Rattle.cell_world.specs.Going.{IsPlain}
use Rattle.cell_world.specs.Handing.{HasBooked}
use Rattle.cell_world.specs.Laying.{NoneIsLaid, OneIsLaid, OneIsTaken, admitted_in}
use Rattle.cell_world.specs.Starting.{after_entry, one_more}
use Rattle.cell_world.specs.Tied.{Given, more, motion_along, next_given, none, one}
use Rattle.cell_world.specs.Turning.{after_turn}
use Rattle.cell_world.proofs.BeltLamps.{told_then}
use Rattle.cell_world.proofs.BeltReads.{after_still, gone_counts, goes_stations, hands_counts, rests_by_hand}
use Rattle.cell_world.proofs.BeltReads.{way_is}
use Rattle.cell_world.proofs.BeltWays.{ends_booked, feed_lit_so, lit_as}
use Rattle.cell_world.proofs.Belts.{after_belt, end_then, gone_plain, gone_to, in_then, moves_then, none_by_hand}
use Rattle.cell_world.proofs.Halts.{StandsStill, all_as_still, all_stay, all_still, it_stopped, none_silent}
use Rattle.cell_world.proofs.Halts.{stopped_plain}
use Rattle.cell_world.proofs.Laying.{admitted_before, expected_before, hands_booked, lamp_before, lamp_now}
use Rattle.cell_world.proofs.Laying.{laying_of, lays_before, takes_before}
use Rattle.cell_world.proofs.Plates.{each_station, here_before, here_now, number_of, told_left}
use Rattle.cell_world.proofs.Spared.{lit_leaves}
use Rattle.cell_world.proofs.Steps.{unless, unlooked}
use Rattle.cell_world.proofs.Stopping.{declared_failed, failed_after, obeyed_after, ruled_nothing, ruled_stop}
use Rattle.cell_world.proofs.Turns.{and_false, good_then, plates_as}

-- THE COMMAND

abbrev pub halted : Machine → Simulated → Simulated
halted m w = in_turn axis_stopped (axes_of m) (unlit m w)

unlit_plain : (m : Machine) (w : Simulated) → IsPlain w → IsPlain (unlit m w)
unlit_plain machine.Feed w t = (lit_leaves belt.Feed colour.Red axis.FeedBelt w t).plain
unlit_plain machine.Deposit w t = (lit_leaves belt.Deposit colour.Red axis.DepositBelt w t).plain
unlit_plain m w t = t

unlit_axis : (m : Machine) (a : Axis) (w : Simulated) → IsPlain w → axis_at (unlit m w) a ≡ axis_at w a
unlit_axis machine.Feed a w t = (lit_leaves belt.Feed colour.Red a w t).axis
unlit_axis machine.Deposit a w t = (lit_leaves belt.Deposit colour.Red a w t).axis
unlit_axis m a w t = refl

halted_plain : (m : Machine) (w : Simulated) → IsPlain w → IsPlain (halted m w)
halted_plain m w t = stopped_plain (axes_of m) (unlit m w) (unlit_plain m w t)

halt_does : (m : Machine) (w : Simulated) → IsPlain w → after_command [] w (AllOff m) ≡ halted m w
unfolding after_command fails all_stopped
halt_does m w t = unlooked (Some (AllOff m)) (halted m w) (halted_plain m w t).unwatched

halted_here : (m : Machine) (w : Simulated) (u : Station) → has_belt m ≡ true
    → plate_here (halted m w) u ≡ plate_here w u
unfolding feed_lit
halted_here machine.Feed w u b = refl
halted_here machine.Deposit w u b = refl
halted_here machine.Table w u b = cc b
halted_here machine.Robot w u b = cc b
halted_here machine.Press1 w u b = cc b
halted_here machine.Press2 w u b = cc b

halted_counts : (m : Machine) (w : Simulated) → has_belt m ≡ true → (halted m w).collisions ≡ w.collisions
unfolding feed_lit
halted_counts machine.Feed w b = refl
halted_counts machine.Deposit w b = refl
halted_counts machine.Table w b = cc b
halted_counts machine.Robot w b = cc b
halted_counts machine.Press1 w b = cc b
halted_counts machine.Press2 w b = cc b

halted_red : (m : Machine) (w : Simulated) → has_belt m ≡ true → light_of (way_of m) (halted m w) ≡ colour.Red
unfolding feed_lit
halted_red machine.Feed w b = refl
halted_red machine.Deposit w b = refl
halted_red machine.Table w b = cc b
halted_red machine.Robot w b = cc b
halted_red machine.Press1 w b = cc b
halted_red machine.Press2 w b = cc b

-- THE STATIONS

abbrev stop_more : List Entry → Machine → List Entry
stop_more J m = one_more J (Declared m cause.OperatorStop)

-- what is counted and lit, but for the light that is turned red
record FeedHalts (w v : Simulated) : Type 0 where
  laid : v.laid ≡ w.laid
  planned : v.planned ≡ w.planned
  trusting : v.is_trusting ≡ w.is_trusting
  light : v.feed_light ≡ colour.Red
  other : v.deposit_light ≡ w.deposit_light

record DepositHalts (w v : Simulated) : Type 0 where
  part : laying_of v ≡ laying_of w
  light : v.deposit_light ≡ colour.Red

abbrev Halts : Machine → Simulated → Simulated → Type 0
Halts machine.Feed w v = FeedHalts w v
Halts _ w v = DepositHalts w v

trusts_red : (w : Simulated) → IsPlain w → (feed_lit colour.Red w).is_trusting ≡ w.is_trusting
unfolding feed_lit
trusts_red w t =
    let same = not (same_colour w.feed_light colour.Red) in
    unless (same && w.watch.is_on) (same_colour colour.Red colour.Green) w.is_trusting
    (ap (λ (i : Bool). same && i) t.unwatched ∙ and_false same)

feed_halts : (w : Simulated) → IsPlain w → FeedHalts w (halted machine.Feed w)
unfolding feed_lit
feed_halts w t =
    record { laid = refl; planned = refl; trusting = trusts_red w t; light = refl; other = refl }

deposit_halts : (w : Simulated) → DepositHalts w (halted machine.Deposit w)
deposit_halts w = record { part = refl; light = refl }

-- what the book has at a station stays where an entry moves no plate
pub book_same : (J : List Entry) (x : Entry) (u : Station) → Good J → Good (one_more J x)
    → (step x (after J)).plate ≡ (after J).plate → plate_of (one_more J x) u ≡ plate_of J u
book_same J x u g k st =
    told_then J x u k ∙ (ap (λ (f : Station → Option ℕ). f u) st ∙ sym (told_left J u g))

-- a plate that was laid in and isn't booked is left
left_there : (J : List Entry) (p : Plan) (x : Entry) (w v : Simulated) → admitted_in (one_more J x) ≡ admitted_in J
    → v.laid ≡ w.laid → plate_here v station.FeedIn ≡ plate_here w station.FeedIn
    → (HasBooked J w station.FeedIn → HasBooked (one_more J x) v station.FeedIn)
    → (lamp_of J belt.Feed ≡ colour.Green → plate_of (one_more J x) station.FeedIn ≡ None)
    → NoneIsLaid J w ⊎ OneIsLaid J p w → NoneIsLaid (one_more J x) v ⊎ OneIsLeft (one_more J x) p v
left_there J p x w v a laid here booked unbooked (inl z) =
    inl (record { plate = booked z.plate; count = laid ∙ (z.count ∙ sym a) })
left_there J p x w v a laid here booked unbooked (inr z) =
    inr (record {
      plate = ap number_of here ∙ (z.plate ∙ ap (λ (n : ℕ). Some (n + 1)) (sym a));
      count = laid ∙ (z.count ∙ ap (λ (n : ℕ). n + 1) (sym a));
      planned = subst (λ (n : ℕ). n < p.plates) (sym a) z.planned;
      unbooked = unbooked z.green;
    })

taken_there : (J K : List Entry) (w v : Simulated) (o : plate_at v station.DepEnd ≡ plate_at w station.DepEnd)
    → (HasBooked J w station.DepEnd → HasBooked K v station.DepEnd)
    → HasBooked J w station.DepEnd ⊎ (plate_at w station.DepEnd ≡ None)
    → HasBooked K v station.DepEnd ⊎ (plate_at v station.DepEnd ≡ None)
taken_there J K w v o h (inl z) = inl (h z)
taken_there J K w v o h (inr z) = inr (o ∙ z)

stops_booked : (J : List Entry) (m : Machine) (w v : Simulated) (u : Station) → Good J → Good (stop_more J m)
    → plate_here v u ≡ plate_here w u → HasBooked J w u → HasBooked (stop_more J m) v u
stops_booked J m w v u g k h i =
    plates_as J (Declared m cause.OperatorStop) w v u g k refl (ap number_of h) i

feed_stops : (J : List Entry) (p : Plan) (w v : Simulated) → Good J → Good (stop_more J machine.Feed) → FeedHalts w v
    → ((u : Station) → plate_here v u ≡ plate_here w u) → StationsAsBooked J p w
    → StationsBut (stop_more J machine.Feed) p machine.Feed v
feed_stops J p w v g k h here st =
    let x = Declared machine.Feed cause.OperatorStop in let K = one_more J x in
    let booked : (u : Station) → HasBooked J w u → HasBooked K v u =
    λ u i. stops_booked J machine.Feed w v u g k (here u) i in
    record {
      laying = record {
        red = lamp_now J x belt.Feed colour.Red refl;
        light = h.light;
        laid = left_there J p x w v (admitted_before J x refl) h.laid (here station.FeedIn) (booked station.FeedIn)
            (λ i. book_same J x station.FeedIn g k refl
            ∙ (told_left J station.FeedIn g ∙ (feed_lit_so J g i).front)) st.laying.laid;
        planned = h.planned ∙ st.laying.planned;
        untrusting = h.trusting ∙ st.laying.untrusting;
        unexpected = expected_before J x refl ∙ st.laying.unexpected;
      };
      taking = takes_before J K w v
          (record {
            lamp = lamp_before J x belt.Deposit refl;
            light = h.other;
            there = λ i. ap number_of (here station.DepEnd);
            booked = booked station.DepEnd;
          }) st.taking;
      within = λ u i. booked u (st.within u i);
    }

deposit_taken : (J : List Entry) (w : Simulated) (st : HasBooked J w station.DepEnd ⊎ OneIsTaken J w)
    → HasBooked J w station.DepEnd ⊎ (plate_at w station.DepEnd ≡ None)
deposit_taken J w (inl z) = inl z
deposit_taken J w (inr z) = inr z.gone

deposit_stops : (J : List Entry) (p : Plan) (w v : Simulated) → Good J → Good (stop_more J machine.Deposit)
    → DepositHalts w v → ((u : Station) → plate_here v u ≡ plate_here w u) → StationsAsBooked J p w
    → StationsBut (stop_more J machine.Deposit) p machine.Deposit v
deposit_stops J p w v g k h here st =
    let x = Declared machine.Deposit cause.OperatorStop in let K = one_more J x in
    let booked : (u : Station) → HasBooked J w u → HasBooked K v u =
    λ u i. stops_booked J machine.Deposit w v u g k (here u) i in
    record {
      laying = lays_before J K p w v
          (record {
            lamp = lamp_before J x belt.Feed refl;
            admitted = admitted_before J x refl;
            expected = expected_before J x refl;
            part = h.part;
            there = λ i. ap number_of (here station.FeedIn);
            booked = booked station.FeedIn;
          }) st.laying;
      taking = record {
        red = lamp_now J x belt.Deposit colour.Red refl;
        light = h.light;
        taken = taken_there J K w v (ap number_of (here station.DepEnd)) (booked station.DepEnd)
            (deposit_taken J w st.taking.taken);
      };
      within = λ u i. booked u (st.within u i);
    }

stations_stop : (J : List Entry) (p : Plan) (m : Machine) (w v : Simulated) → has_belt m ≡ true → Good J
    → Good (stop_more J m) → Halts m w v → ((u : Station) → plate_here v u ≡ plate_here w u) → StationsAsBooked J p w
    → StationsBut (stop_more J m) p m v
stations_stop J p machine.Feed w v b g k h here st = feed_stops J p w v g k h here st
stations_stop J p machine.Deposit w v b g k h here st = deposit_stops J p w v g k h here st
stations_stop J p machine.Table w v b g k h here st = cc b
stations_stop J p machine.Robot w v b g k h here st = cc b
stations_stop J p machine.Press1 w v b g k h here st = cc b
stations_stop J p machine.Press2 w v b g k h here st = cc b

halts_so : (m : Machine) (w : Simulated) → has_belt m ≡ true → IsPlain w → Halts m w (halted m w)
halts_so machine.Feed w b t = feed_halts w t
halts_so machine.Deposit w b t = deposit_halts w
halts_so machine.Table w b t = cc b
halts_so machine.Robot w b t = cc b
halts_so machine.Press1 w b t = cc b
halts_so machine.Press2 w b t = cc b

-- A PLATE THAT CAME AT THE LAST READING

abbrev come_to : Conveying → Plate → ℕ → Simulated → Simulated
come_to c k n w = gone_to c k (more n 0) w

come_here : (c : Conveying) (k : Plate) (n : ℕ) (w : Simulated) (u : Station)
    → station_number u ≢ station_number (dest_of c) → station_number u ≢ station_number (from_of c)
    → plate_here (come_to c k n w) u ≡ plate_here w u
come_here c k n w u d e =
    let v = with_motion (belt_of c) (Some (motion_along (path_with c k) (n + 0) Arrived)) w in
    here_before (dest_of c) u (plate_here w (from_of c)) (with_plate (from_of c) None v) d
    ∙ here_before (from_of c) u None v e

belt_its : (c : Conveying) → has_belt (machine_of c) ≡ true
belt_its to_feed_end = refl
belt_its to_table = refl
belt_its to_deposit_end = refl

back_here : (c : Conveying) (k : Plate) (n : ℕ) (w : Simulated) (u : Station) → IsPlain w
    → plate_here w (from_of c) ≡ Some k → plate_here w (dest_of c) ≡ None
    → plate_here (put_back c k (halted (machine_of c) (come_to c k n w))) u ≡ plate_here w u
back_here c k n w u t a b =
    let m = machine_of c in let x = come_to c k n w in let v = halted m x in let y = with_plate (dest_of c) None v in
    let plain = halted_plain m x (gone_plain c k (more n 0) w t) in
    each_station (λ (s : Station). plate_here (put_back c k v) s ≡ plate_here w s) (from_of c) u
    (here_now (from_of c) (Some k) y (length-set _ _ _ ∙ plain.stations) ∙ sym a)
    (λ d. here_before (from_of c) u (Some k) y d
    ∙ each_station (λ (s : Station). station_number s ≢ station_number (from_of c)
    → plate_here y s ≡ plate_here w s) (dest_of c) u
    (λ i. here_now (dest_of c) None v plain.stations ∙ sym b)
    (λ e i. here_before (dest_of c) u None v e ∙ (halted_here m x u (belt_its c) ∙ come_here c k n w u e i)) d)

halts_back : (c : Conveying) (k : Plate) (n : ℕ) (w : Simulated) → IsPlain (come_to c k n w)
    → Halts (machine_of c) w (put_back c k (halted (machine_of c) (come_to c k n w)))
halts_back to_feed_end k n w t =
    let h = feed_halts (come_to to_feed_end k n w) t in
    record { laid = h.laid; planned = h.planned; trusting = h.trusting; light = h.light; other = h.other }
halts_back to_table k n w t =
    let h = feed_halts (come_to to_table k n w) t in
    record { laid = h.laid; planned = h.planned; trusting = h.trusting; light = h.light; other = h.other }
halts_back to_deposit_end k n w t = record { part = refl; light = refl }

-- the belt's motion, which was stopped
one_belt_stopped : (c : Conveying) (w : Simulated) → IsPlain w
    → (axis_at (in_turn axis_stopped (axes_of (machine_of c)) w) (belt_of c)).motion
    ≡ stopped_motion (axis_at w (belt_of c)).motion
one_belt_stopped to_feed_end w t = ap (λ (x : AxisInWorld). x.motion) (it_stopped axis.FeedBelt w t)
one_belt_stopped to_table w t = ap (λ (x : AxisInWorld). x.motion) (it_stopped axis.FeedBelt w t)
one_belt_stopped to_deposit_end w t = ap (λ (x : AxisInWorld). x.motion) (it_stopped axis.DepositBelt w t)

come_motion : (c : Conveying) (k : Plate) (n : ℕ) (w : Simulated) → IsPlain w
    → (axis_at (halted (machine_of c) (come_to c k n w)) (belt_of c)).motion
    ≡ Some (record (motion_along (path_with c k) (n + 0) Arrived) { stopped = true })
come_motion c k n w t =
    let m = machine_of c in let x = come_to c k n w in let plain = gone_plain c k (more n 0) w t in
    one_belt_stopped c (unlit m x) (unlit_plain m x plain)
    ∙ (ap (λ (y : AxisInWorld). stopped_motion y.motion) (unlit_axis m (belt_of c) x plain)
    ∙ ap stopped_motion (moves_then c k (more n 0) w t))

has_brought : (J : List Entry) (p : Plan) (c : Conveying) (k : Plate) (n : ℕ) (s : Mind) (w : Simulated) → Good J
    → Good (stop_more J (machine_of c)) → BeltGoes J p c k (more n 0) s.axis w → StationsAsBooked J p w
    → HasBrought (stop_more J (machine_of c)) (machine_of c) (halted (machine_of c) (come_to c k n w))
has_brought J p c k n s w g i t st =
    let m = machine_of c in let x = come_to c k n w in
    let ends = ends_booked J p c w st (sym (lit_as J p c w st) ∙ t.red) in
    record {
      way = c;
      plate = k;
      of = refl;
      gone = halted_here m x (from_of c) (belt_its c) ∙ in_then c k n w t.plain;
      there = halted_here m x (dest_of c) (belt_its c) ∙ end_then c k n w t.plain t.here;
      booked = sym (stops_booked J m w w (from_of c) g i refl ends.0) ∙ ap number_of t.here;
      free = sym (stops_booked J m w w (dest_of c) g i refl ends.1) ∙ ap number_of t.empty;
      further = n + 0;
      carried = come_motion c k n w t.plain;
    }

-- THE TURN

only_belt : (c : Conveying) (a : Axis) → machine_of_axis a ≡ machine_of c → a ≡ belt_of c
only_belt to_feed_end axis.FeedBelt e = refl
only_belt to_table axis.FeedBelt e = refl
only_belt to_deposit_end axis.DepositBelt e = refl
only_belt c a e = cc e

-- where its command leaves it, of what its reading left
stops_by : (J : List Entry) (p : Plan) (c : Conveying) (s : Mind) (w u : Simulated)
    → s.memory.command_failed ≡ false → after_reading w (machine_of c) ≡ u → IsPlain u
    → is_silent_in (axis_at u (belt_of c)).motion ≡ false → u.collisions ≡ w.collisions
    → StationsStopped (stop_more J (machine_of c)) p (machine_of c) (halted (machine_of c) u)
    → BeltStopLeaves (stop_more J (machine_of c)) p (machine_of c)
    (mind_after J (machine_of c) p s (shown w (machine_of c)) (Some (Declared (machine_of c) cause.OperatorStop))) w
    (after_entry (after_reading w (machine_of c)) (Declared (machine_of c) cause.OperatorStop))
stops_by J p c s w u obeyed read plain silent counts st =
    let m = machine_of c in let x = Declared m cause.OperatorStop in let K = one_more J x in
    let s' = mind_after J m p s (shown w m) (Some x) in let v = halted m u in
    let so : after_entry (after_reading w m) x ≡ v =
    ap (λ (y : Simulated). after_entry y x) read ∙ halt_does m u plain in
    let unlit' = unlit_plain m u plain in
    let halts : BeltHasStopped K m s' v = record {
      failed = declared_failed J m cause.OperatorStop;
      was_failed = failed_after J p m s (shown w m) (Some x) ∙ declared_failed J m cause.OperatorStop;
      was_obeyed = obeyed_after J p m s (shown w m) (Some x) obeyed;
      plain = halted_plain m u plain;
      red = halted_red m u (belt_its c);
      still = λ a e. all_still m a (unlit m u) unlit' e;
      read = λ a e. (all_as_still (axes_of m) a (unlit m u) unlit').read
          ∙ (ap (λ (y : AxisInWorld). is_silent_in y.motion) (unlit_axis m a u plain)
          ∙ (ap (λ (y : Axis). is_silent_in (axis_at u y).motion) (only_belt c a e) ∙ silent));
    } in
    record {
      stopped = subst (λ (y : Simulated). BeltHasStopped K m s' y) (sym so) halts;
      stations = subst (λ (y : Simulated). StationsStopped K p m y) (sym so) st;
      collisions = ap (λ (y : Simulated). y.collisions) so ∙ (halted_counts m u (belt_its c) ∙ counts);
    }

abbrev Stops : List Entry → Plan → Machine → Mind → Simulated → Type 0
Stops J p m s w =
    BeltStopLeaves (stop_more J m) p m (mind_after J m p s (shown w m) (Some (Declared m cause.OperatorStop))) w
    (after_entry (after_reading w m) (Declared m cause.OperatorStop))

-- of a belt that rests
rests_stop : (J : List Entry) (p : Plan) (c : Conveying) (f : Option Following) (s : Mind) (w : Simulated) → Good J
    → Good (stop_more J (machine_of c)) → s.memory.command_failed ≡ false → BeltRests J c f w
    → StationsAsBooked J p w → Stops J p (machine_of c) s w
rests_stop J p c f s w g k obeyed t st =
    let m = machine_of c in let u = by_the_hands w m in let r = rests_by_hand J c f w t in
    stops_by J p c s w u obeyed (after_still J c f w t) r.plain
    (ap (λ (o : Option Moving). is_silent_in o) r.still) (hands_counts m w)
    (inl (stations_stop J p m u (halted m u) (belt_its c) g k (halts_so m u (belt_its c) r.plain)
    (λ y. halted_here m u y (belt_its c)) (hands_booked J p m w t.plain st)))

-- of one that carries a plate
goes_stop : (J : List Entry) (p : Plan) (c : Conveying) (k : Plate) (g h : Given) (s : Mind) (w : Simulated)
    → next_given g ≡ Some h → Good J → Good (stop_more J (machine_of c)) → s.memory.command_failed ≡ false
    → BeltGoes J p c k g s.axis w → StationsAsBooked J p w → Stops J p (machine_of c) s w
goes_stop J p c k g h s w e ok next obeyed t st =
    let m = machine_of c in let u = gone_to c k g w in let plain = gone_plain c k g w t.plain in
    stops_by J p c s w u obeyed (after_belt J p c k g s.axis w t) plain
    (ap (λ (o : Option Moving). is_silent_in o) (moves_then c k g w t.plain)) (gone_counts c k g w)
    (inl (stations_stop J p m u (halted m u) (belt_its c) ok next (halts_so m u (belt_its c) plain)
    (λ y. halted_here m u y (belt_its c)) (goes_stations J p c k g h w e st)))

comes_stop : (J : List Entry) (p : Plan) (c : Conveying) (k : Plate) (n : ℕ) (s : Mind) (w : Simulated) → Good J
    → Good (stop_more J (machine_of c)) → s.memory.command_failed ≡ false → BeltGoes J p c k (more n 0) s.axis w
    → StationsAsBooked J p w → Stops J p (machine_of c) s w
unfolding has_brought
comes_stop J p c k n s w ok next obeyed t st =
    let m = machine_of c in let u = come_to c k n w in let plain = gone_plain c k (more n 0) w t.plain in
    stops_by J p c s w u obeyed (after_belt J p c k (more n 0) s.axis w t) plain
    (ap (λ (o : Option Moving). is_silent_in o) (moves_then c k (more n 0) w t.plain)) (gone_counts c k (more n 0) w)
    (inr (
      has_brought J p c k n s w ok next t st,
      stations_stop J p m w (put_back c k (halted m u)) (belt_its c) ok next (halts_back c k n w plain)
          (λ y. back_here c k n w y t.plain t.here t.empty) st,
    ))

carries_stop : (J : List Entry) (p : Plan) (c : Conveying) (k : Plate) (g : Given) (s : Mind) (w : Simulated) → Good J
    → Good (stop_more J (machine_of c)) → s.memory.command_failed ≡ false → BeltGoes J p c k g s.axis w
    → StationsAsBooked J p w → Stops J p (machine_of c) s w
carries_stop J p c k (none n) s w ok next obeyed t st = goes_stop J p c k (none n) (one n) s w refl ok next obeyed t st
carries_stop J p c k (one n) s w ok next obeyed t st = goes_stop J p c k (one n) (more 0 n) s w refl ok next obeyed t st
carries_stop J p c k (more n (suc j)) s w ok next obeyed t st =
    goes_stop J p c k (more n (suc j)) (more (suc n) j) s w refl ok next obeyed t st
carries_stop J p c k (more n zero) s w ok next obeyed t st = comes_stop J p c k n s w ok next obeyed t st

tied_stop : (J : List Entry) (p : Plan) (m : Machine) (s : Mind) (w : Simulated) → has_belt m ≡ true → Good J
    → Good (stop_more J m) → s.memory.command_failed ≡ false → IsBeltTied J p m s.axis w → StationsAsBooked J p w
    → Stops J p m s w
tied_stop J p m s w b ok next obeyed (inl t) st =
    subst (λ (x : Machine). Good (stop_more J x) → Stops J p x s w) (way_is m b)
    (λ k. rests_stop J p (way_of m) s.axis s w ok k obeyed t st) next
tied_stop J p m s w b ok next obeyed (inr t) st =
    subst (λ (x : Machine). Good (stop_more J x) → Stops J p x s w) t.of
    (λ k. carries_stop J p t.way t.plate t.given s w ok k obeyed t.goes st) next

pub belt_stops : BeltStops
belt_stops l J p m s w e b t d allow =
    let x = Declared m cause.OperatorStop in
    let is : e ≡ Some x =
    subst (λ (k : Ruling). IsRuled l J m p.plates k e)
    (ruled_stop J p m s (shown w m) t.works.healthy t.works.was_obeyed t.asked) d in
    let free = subst (λ (o : Option Entry). IfSome o (λ y. first_of l J y ≡ None)) is allow in
    let ok = good_when_legal l J t.legal in (
      is,
      subst (λ (o : Option Entry). BeltStopLeaves (J ++ option_to_list o) p m (mind_after J m p s (shown w m) o) w
          (after_turn w m o)) (sym is)
          (tied_stop J p m s w b ok (good_then l J x ok free) t.works.was_obeyed t.works.tied t.stations),
    )

-- of one that was repaired and is asked again
pub belt_stops_anew : BeltStopsAnew
belt_stops_anew l J p m s w e b t d allow =
    let x = Declared m cause.OperatorStop in let r = t.repaired in
    let is : e ≡ Some x =
    subst (λ (k : Ruling). IsRuled l J m p.plates k e)
    (ruled_stop J p m s (shown w m) r.healthy r.was_obeyed t.asked) d in
    let free = subst (λ (o : Option Entry). IfSome o (λ y. first_of l J y ≡ None)) is allow in
    let ok = good_when_legal l J t.legal in (
      is,
      subst (λ (o : Option Entry). BeltStopLeaves (J ++ option_to_list o) p m (mind_after J m p s (shown w m) o) w
          (after_turn w m o)) (sym is)
          (subst (λ (y : Machine). Good (stop_more J y) → Stops J p y s w) (way_is m b)
          (λ k. rests_stop J p (way_of m) None s w ok k r.was_obeyed r.rests t.stations) (good_then l J x ok free)),
    )

-- WHILE IT IS STOPPED

stands_read : (c : Conveying) (w : Simulated) → light_of c w ≡ colour.Red → StandsStill (machine_of c) w
    → after_reading w (machine_of c) ≡ w
unfolding after_reading read_on
stands_read c w red h =
    let m = machine_of c in
    ap (λ (v : Simulated). read_on m v) (none_by_hand c w red)
    ∙ (unless (is_reading_missing w m) _ _ (none_silent m w h) ∙ all_stay m w h)

stopped_read : (J : List Entry) (m : Machine) (s : Mind) (w : Simulated) → has_belt m ≡ true → BeltHasStopped J m s w
    → after_reading w m ≡ w
stopped_read J m s w b t =
    subst (λ (x : Machine). StandsStill x w → after_reading w x ≡ w) (way_is m b)
    (λ h. stands_read (way_of m) w t.red h) (λ a e. (t.still a e, t.read a e))

pub belt_stands : BeltStands
belt_stands l J p m s w e b t d =
    let is : e ≡ None =
    subst (λ (k : Ruling). IsRuled l J m p.plates k e) (ruled_nothing J p m s (shown w m) t.failed) d in
    let so = stopped_read J m s w b t in
    let stays : BeltHasStopped J m (mind_after J m p s (shown w m) None) w = record {
      failed = t.failed;
      was_failed = failed_after J p m s (shown w m) None
          ∙ (ap (λ (K : List Entry). is_failed K m) (append-nil J) ∙ t.failed);
      was_obeyed = obeyed_after J p m s (shown w m) None t.was_obeyed;
      plain = t.plain;
      red = t.red;
      still = t.still;
      read = t.read;
    } in (
      is,
      ap (λ (o : Option Entry). after_turn w m o) is ∙ so,
      subst (λ (o : Option Entry). BeltHasStopped J m (mind_after J m p s (shown w m) o) (after_turn w m o)) (sym is)
          (subst (λ (v : Simulated). BeltHasStopped J m (mind_after J m p s (shown w m) None) v) (sym so) stays),
    )
