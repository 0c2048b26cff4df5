-- Entries by which a belt's light is turned
use Rattle.std.proofs.Common.{◌≡◌, ◌≢◌, ℕ, ◌+◌, ◌<◌, ◌≤◌, Bool, true, false, not, ◌&&◌, ◌||◌, ◌⊎◌, inl, inr, Option}
use Rattle.std.proofs.Common.{Some, None, List, [], is_some, is_none, refl, sym, ap, ◌∙◌, subst, arith}
use Rattle.std.proofs.Common.{if◌then◌else◌}
use Rattle.std.proofs.lemmas.Bool.Decides.{nat_tests}
use Rattle.std.specs.Prelude.{nat_lt}
use Rattle.cell_types.specs.declared.words.Axis.TheVariants as axis
use Rattle.cell_types.specs.declared.words.Belt.{Belt}
use Rattle.cell_types.specs.declared.words.Belt.TheVariants as belt
use Rattle.cell_types.specs.declared.words.Colour.{Colour}
use Rattle.cell_types.specs.declared.words.Colour.TheVariants as colour
use Rattle.cell_types.specs.declared.words.Command.{Command}
use Rattle.cell_types.specs.declared.words.Command.TheVariants.{Lamp as Lit}
use Rattle.cell_types.specs.declared.words.Entry.{Entry}
use Rattle.cell_types.specs.declared.words.Entry.TheVariants.{Lamp, Admitted}
use Rattle.cell_types.specs.declared.words.Entry.TheVariants.{Delivered}
use Rattle.cell_types.specs.declared.words.Machine.TheVariants as machine
use Rattle.cell_types.specs.declared.words.Place.{Place}
use Rattle.cell_types.specs.declared.words.Pose.{Pose}
use Rattle.cell_types.specs.declared.words.Station.{Station}
use Rattle.cell_types.specs.declared.words.Station.TheVariants as station
use Rattle.cell_types.specs.After.{Snapshot, after, is_plate, left_by, opening, step}
use Rattle.cell_types.specs.Entries.{command_of}
use Rattle.cell_types.specs.Same.{same_colour, station_number}
use Rattle.cell_types.proofs.Left.{after_snoc}
use Rattle.cell_rules.specs.declared.limits.BookLimits.{BookLimits}
use Rattle.cell_rules.specs.declared.refusal.Refusal.{Refusal}
use Rattle.cell_rules.specs.First.{lamp_tests}
use Rattle.cell_rules.specs.Legal.{allowed, first_of}
use Rattle.cell_rules.specs.Situations.{situation_of}
use Rattle.cell_rules.specs.SituationIn.{situation_in}
use Rattle.cell_rules.specs.Views.{expected_of, expects, going_of, is_admitted, is_failed, is_occupied, lamp_of}
use Rattle.cell_rules.specs.Views.{place_of, plate_of, rests, sends}
use Rattle.cell_rules.proofs.Safe.Bridge.{Good, good_passed}
use Rattle.cell_rules.proofs.Safe.Facts.{Passed, colour_same, is_plate_tells}
use Rattle.cell_rules.proofs.Safe.Safety.{safe_state}
use Rattle.cell_rules.proofs.Safe.Views.{count_snoc}
use Rattle.cell_machines.specs.Lights.{deposit_light, feed_light, green_where}
use Rattle.cell_machines.specs.Useful.{wants}
use Rattle.cell_ports.specs.declared.plan.Plan.{Plan}
use Rattle.cell_turns.specs.Following.{Following}
use Rattle.cell_turns.specs.Minds.{Mind}
use Rattle.cell_turns.specs.Turns.{ends_motion}
use Rattle.cell_sim.specs.declared.axis.AxisInWorld.{AxisInWorld}
use Rattle.cell_sim.specs.Commands.{after_command, fails, feed_lit, lit}
use Rattle.cell_sim.specs.Parts.{plate_at}
use Rattle.cell_sim.specs.Readings.{after_reading}
use Rattle.cell_sim.specs.Simulated.{Simulated}
use Rattle.cell_world.specs.Belts.{BeltRests, Conveying, EndsAsBefore, belt_of, machine_of, to_deposit_end, to_feed_end}
use Rattle.cell_world.specs.Belts.{to_table}
use Rattle.cell_world.specs.BeltTurning.{IsBeltTied}
use Rattle.cell_world.specs.BeltTurning.{StationsAsBooked, way_of}
use Rattle.cell_world.specs.Going.{IsPlain}
use Rattle.cell_world.specs.Handing.{HasBooked}
use Rattle.cell_world.specs.Laying.{NoneIsLaid, OneIsLaid, OneIsTaken, admitted_in}
use Rattle.cell_world.specs.Starting.{after_entry, after_order, one_more}
use Rattle.cell_world.proofs.BeltReads.{IsRead}
use Rattle.cell_world.proofs.BeltReads.{rests_alike, way_back}
use Rattle.cell_world.proofs.Entries.{at_before, going_before}
use Rattle.cell_world.proofs.Laying.{admitted_before, apart_back}
use Rattle.cell_world.proofs.Laying.{apart_edges, apart_in, apart_out}
use Rattle.cell_world.proofs.Laying.{less_of}
use Rattle.cell_world.proofs.Laying.{expected_before, lamp_before, lamp_now, lays_before}
use Rattle.cell_world.proofs.Laying.{takes_before}
use Rattle.cell_world.proofs.Plates.{Left, not_elsewhere, put_none, put_to}
use Rattle.cell_world.proofs.Plates.{same_number, told_left}
use Rattle.cell_world.proofs.Spared.{lit_leaves}
use Rattle.cell_world.proofs.Steps.{not_true, unless, unlooked}
use Rattle.cell_world.proofs.Turns.{IsCalm, Noted, and_false, plates_as}
use Rattle.cell_world.proofs.BeltWays.{AtBelt, LeftBy, deposit_lit_so, entry_leaves, feed_lit_so}
use Rattle.cell_world.proofs.BeltWays.{green_rests, lamp_at, occupied_by, rests_then}
use Rattle.cell_world.proofs.BeltWays.{still_told}

-- A LIGHT IS TURNED

lit_watch : (b : Belt) (c : Colour) (w : Simulated) → (lit b c w).watch.is_on ≡ w.watch.is_on
unfolding feed_lit
lit_watch belt.Feed c w = refl
lit_watch belt.Deposit c w = refl

pub lamp_does : (b : Belt) (c : Colour) (w : Simulated) → IsPlain w → after_command [] w (Lit b c) ≡ lit b c w
unfolding after_command fails
lamp_does b c w t = unlooked (Some (Lit b c)) (lit b c w) (lit_watch b c w ∙ t.unwatched)

pub lit_counts : (b : Belt) (c : Colour) (w : Simulated) → (lit b c w).collisions ≡ w.collisions
unfolding feed_lit
lit_counts belt.Feed c w = refl
lit_counts belt.Deposit c w = refl

pub lit_rests : (J : List Entry) (c : Conveying) (b : Belt) (to : Colour) (x : Entry) (f : Option Following)
    (v : Simulated)
    → rests (belt_of c) x ≡ None → sends (belt_of c) x ≡ None → BeltRests J c f v
    → BeltRests (one_more J x) c f (lit b to v)
lit_rests J c b to x f v rs sd t =
    let h = lit_leaves b to (belt_of c) v t.plain in
    record {
      plain = h.plain;
      booked = going_before J x (belt_of c) sd ∙ t.booked;
      home = at_before J x (belt_of c) rs ∙ t.home;
      still = ap (λ (y : AxisInWorld). y.motion) h.axis ∙ t.still;
      unnoted = t.unnoted;
    }

-- that leaves the other belt
lit_ends : (c d : Conveying) (to : Colour) (v : Simulated) → machine_of d ≢ machine_of c
    → EndsAsBefore d v (lit (lamp_at c) to v)
unfolding feed_lit
lit_ends to_feed_end to_deposit_end to v h = record { light = refl; from_end = refl; dest_end = refl }
lit_ends to_table to_deposit_end to v h = record { light = refl; from_end = refl; dest_end = refl }
lit_ends to_deposit_end to_feed_end to v h = record { light = refl; from_end = refl; dest_end = refl }
lit_ends to_deposit_end to_table to v h = record { light = refl; from_end = refl; dest_end = refl }
lit_ends to_feed_end to_feed_end to v h = absurd (h refl)
lit_ends to_feed_end to_table to v h = absurd (h refl)
lit_ends to_table to_feed_end to v h = absurd (h refl)
lit_ends to_table to_table to v h = absurd (h refl)
lit_ends to_deposit_end to_deposit_end to v h = absurd (h refl)

-- an entry by which the light is turned, and nothing else is done
light_leaves : (l : BookLimits) (J : List Entry) (p : Plan) (c : Conveying) (s : Mind) (w : Simulated) (x : Entry)
    (to : Colour) → AtBelt l J p (machine_of c) s w → IsCalm (machine_of c) x
    → command_of x ≡ Some (Lit (lamp_at c) to) → ends_motion (Some x) ≡ false → rests (belt_of c) x ≡ None
    → sends (belt_of c) x ≡ None → BeltRests J c (Noted J p (machine_of c) s w) (after_reading w (machine_of c))
    → StationsAsBooked (one_more J x) p (lit (lamp_at c) to (after_reading w (machine_of c)))
    → LeftBy J p (machine_of c) s w x
light_leaves l J p c s w x to t calm o e rs sd rest st =
    let m = machine_of c in let v = after_reading w m in let f = Noted J p m s w in let b = lamp_at c in
    let so = ap (λ (y : Option Command). after_order v y) o ∙ lamp_does b to v rest.plain in
    let tie = rests_alike (one_more J x) c (way_of m) f (lit b to v) (way_back c)
    (lit_rests J c b to x f v rs sd rest) in
    entry_leaves l J p m s w x t calm
    (subst (λ (y : Bool). IsBeltTied (one_more J x) p m (if y then None else f) (after_entry v x)) (sym e)
    (subst (λ (y : Simulated). IsBeltTied (one_more J x) p m f y) (sym so) (inl tie)))
    (subst (λ (y : Simulated). StationsAsBooked (one_more J x) p y) (sym so) st)
    (ap (λ (y : Simulated). y.collisions) so ∙ lit_counts b to v)
    (λ d i. subst (λ (y : Simulated). EndsAsBefore d v y) (sym so) (lit_ends c d to v i))

-- where no plate is laid in that isn't booked, the stations are as booked with the light as it is booked
record FeedBooked (J : List Entry) (p : Plan) (x : Entry) (to : Colour) (v : Simulated) : Type 0 where
  wanted : to ≡ colour.Green → admitted_in (one_more J x) < p.plates
  lamp : lamp_of (one_more J x) belt.Feed ≡ to
  other : lamp_of (one_more J x) belt.Deposit ≡ lamp_of J belt.Deposit
  expected : expects x ≡ None
  plate : HasBooked (one_more J x) v station.FeedIn
  count : v.laid ≡ admitted_in (one_more J x)
  booked : (t : Station) → station_number t ≢ station_number station.FeedIn → HasBooked J v t
      → HasBooked (one_more J x) v t

feed_stations : (J : List Entry) (p : Plan) (x : Entry) (to : Colour) (v : Simulated) → IsPlain v
    → FeedBooked J p x to v → StationsAsBooked J p v → StationsAsBooked (one_more J x) p (lit belt.Feed to v)
unfolding feed_lit
feed_stations J p x to v t b st =
    let y = st.laying in
    record {
      laying = record {
        light = sym b.lamp;
        laid = inl (record { plate = b.plate; count = b.count });
        planned = y.planned;
        sparing = inr (λ g. b.wanted (sym b.lamp ∙ g));
        untrusting = unless (not (same_colour v.feed_light to) && v.watch.is_on) (same_colour to colour.Green)
            v.is_trusting (ap (λ (i : Bool). not (same_colour v.feed_light to) && i) t.unwatched
            ∙ and_false (not (same_colour v.feed_light to)))
            ∙ y.untrusting;
        unexpected = expected_before J x b.expected ∙ y.unexpected;
      };
      taking = takes_before J (one_more J x) v (feed_lit to v)
          (record {
            lamp = b.other;
            light = refl;
            there = λ g. refl;
            booked = b.booked station.DepEnd apart_edges;
          }) st.taking;
      within = λ u h. b.booked u (apart_in u h) (st.within u h);
    }

record DepositBooked (J : List Entry) (x : Entry) (to : Colour) (v : Simulated) : Type 0 where
  lamp : lamp_of (one_more J x) belt.Deposit ≡ to
  other : lamp_of (one_more J x) belt.Feed ≡ lamp_of J belt.Feed
  admitted : is_admitted x ≡ false
  expected : expects x ≡ None
  plate : HasBooked (one_more J x) v station.DepEnd
  booked : (t : Station) → station_number t ≢ station_number station.DepEnd → HasBooked J v t
      → HasBooked (one_more J x) v t

deposit_stations : (J : List Entry) (p : Plan) (x : Entry) (to : Colour) (v : Simulated) → DepositBooked J x to v
    → StationsAsBooked J p v → StationsAsBooked (one_more J x) p (lit belt.Deposit to v)
deposit_stations J p x to v b st =
    record {
      laying = lays_before J (one_more J x) p v (lit belt.Deposit to v)
          (record {
            lamp = b.other;
            admitted = admitted_before J x b.admitted;
            expected = expected_before J x b.expected;
            part = refl;
            there = λ g. refl;
            booked = b.booked station.FeedIn apart_back;
          }) st.laying;
      taking = record { light = sym b.lamp; taken = inl b.plate };
      within = λ u h. b.booked u (apart_out u h) (st.within u h);
    }

-- Lamp: the light is turned where the belt rests, and no plate is laid in or taken that isn't booked
record Turns (J : List Entry) (p : Plan) (c : Conveying) (to : Colour) (f : Option Following) (v : Simulated) : Type 0
  where
    rest : BeltRests J c f v
    other : lamp_of J (lamp_at c) ≢ to

same_colours : (c : Colour) → same_colour c c ≡ true
same_colours colour.Red = refl
same_colours colour.Green = refl

not_already : (J : List Entry) (b : Belt) (to : Colour) → Good J → same_colour ((after J).lamp b) to ≡ false
    → lamp_of J b ≢ to
not_already J b to g h e =
    let k : same_colour ((after J).lamp b) to ≡ same_colour to to =
    ap (λ (x : Colour). same_colour x to) (sym (g.agrees.lamp b) ∙ e) in
    let c : true ≡ false = sym (same_colours to) ∙ (sym k ∙ h) in cc c

green_else : (c : Colour) → c ≢ colour.Red → c ≡ colour.Green
green_else colour.Green h = refl
green_else colour.Red h = absurd (h refl)

feed_turns : (J : List Entry) (p : Plan) (to : Colour) (f : Option Following) (v : Simulated) → Good J
    → IsBeltTied J p machine.Feed f v → StationsAsBooked J p v
    → Passed (lamp_tests (situation_in (after J)) belt.Feed to) → Turns J p to_feed_end to f v
feed_turns J p colour.Green f v g i st h =
    record {
      rest = rests_then J p to_feed_end f v i (still_told J axis.FeedBelt g h.0);
      other = not_already J belt.Feed colour.Green g h.1.1.1.0;
    }
feed_turns J p colour.Red f v g i st h =
    let n = not_already J belt.Feed colour.Red g h.0 in
    record { rest = green_rests J p to_feed_end f v i st (green_else (lamp_of J belt.Feed) n); other = n }

deposit_turns : (J : List Entry) (p : Plan) (to : Colour) (f : Option Following) (v : Simulated) → Good J
    → IsBeltTied J p machine.Deposit f v → StationsAsBooked J p v
    → Passed (lamp_tests (situation_in (after J)) belt.Deposit to) → Turns J p to_deposit_end to f v
deposit_turns J p colour.Green f v g i st h =
    record {
      rest = rests_then J p to_deposit_end f v i (still_told J axis.DepositBelt g h.0);
      other = not_already J belt.Deposit colour.Green g h.1.1.0;
    }
deposit_turns J p colour.Red f v g i st h =
    let n = not_already J belt.Deposit colour.Red g h.0 in
    record { rest = green_rests J p to_deposit_end f v i st (green_else (lamp_of J belt.Deposit) n); other = n }

pub all_green : (f g a b n x : Bool) → f ≡ false → g ≡ true → a ≡ false → b ≡ false → n ≡ true
    → green_where (not f && (g && (not a && (not b && (n || x))))) ≡ colour.Green
all_green f g a b n x h i j k q = rw (h, i, j, k, q) refl

three_green : (f g a : Bool) → f ≡ false → g ≡ true → a ≡ true → green_where (not f && (g && a)) ≡ colour.Green
three_green f g a h i j = rw (h, i, j) refl

pub less_test : (a b : ℕ) → a < b → nat_lt a b ≡ true
less_test a b h = grind (arith, nat_tests)

-- while a plate is laid in that isn't booked, the book wants the light green
feed_green : (J : List Entry) (p : Plan) (v : Simulated) → Good J → is_failed J machine.Feed ≡ false
    → going_of J axis.FeedBelt ≡ None → OneIsLaid J p v → feed_light (situation_of J) p.plates ≡ colour.Green
unfolding feed_light
feed_green J p v g ok still z =
    let o = feed_lit_so J g z.green in
    all_green (is_failed J machine.Feed) (is_none (going_of J axis.FeedBelt)) (is_occupied J station.FeedIn)
    (is_occupied J station.FeedEnd) (nat_lt (admitted_in J) p.plates) (is_some (expected_of J)) ok
    (ap (λ (q : Option Pose). is_none q) still)
    (occupied_by J station.FeedIn false g (ap (λ (q : Option ℕ). is_some q) o.front))
    (occupied_by J station.FeedEnd false g (ap (λ (q : Option ℕ). is_some q) o.back))
    (less_test (admitted_in J) p.plates z.planned)

-- and it is wanted green only while plates of the plan aren't admitted yet
wanted_by : (a b c d e x : Bool) → green_where (a && (b && (c && (d && (e || x))))) ≡ colour.Green → x ≡ false
    → e ≡ true
wanted_by false b c d e x h k = cc h
wanted_by true false c d e x h k = cc h
wanted_by true true false d e x h k = cc h
wanted_by true true true false e x h k = cc h
wanted_by true true true true true x h k = refl
wanted_by true true true true false x h k =
    let c : colour.Red ≡ colour.Green = sym (ap green_where k) ∙ h in cc c

pub green_wanted : (J : List Entry) (p : Plan) → expected_of J ≡ None
    → feed_light (situation_of J) p.plates ≡ colour.Green → admitted_in J < p.plates
unfolding feed_light
green_wanted J p none h =
    less_of (admitted_in J) p.plates
    (wanted_by (not (is_failed J machine.Feed)) (is_none (going_of J axis.FeedBelt))
    (not (is_occupied J station.FeedIn)) (not (is_occupied J station.FeedEnd)) (nat_lt (admitted_in J) p.plates)
    (is_some (expected_of J)) h (ap (λ (o : Option ℕ). is_some o) none))

lamp_wanted : (J : List Entry) (p : Plan) (x : Entry) (to : Colour) → admitted_in (one_more J x) ≡ admitted_in J
    → expected_of J ≡ None → same_colour to (feed_light (situation_of J) p.plates) ≡ true → to ≡ colour.Green
    → admitted_in (one_more J x) < p.plates
lamp_wanted J p x to same none h e =
    subst (λ (n : ℕ). n < p.plates) (sym same)
    (green_wanted J p none (sym (colour_same to (feed_light (situation_of J) p.plates) h) ∙ e))

feed_none : (J : List Entry) (p : Plan) (v : Simulated) (to : Colour) → Good J → is_failed J machine.Feed ≡ false
    → going_of J axis.FeedBelt ≡ None → same_colour to (feed_light (situation_of J) p.plates) ≡ true
    → lamp_of J belt.Feed ≢ to → NoneIsLaid J v ⊎ OneIsLaid J p v → NoneIsLaid J v
feed_none J p v to g ok still h n (inl z) = z
feed_none J p v to g ok still h n (inr z) =
    let e = colour_same to (feed_light (situation_of J) p.plates) h ∙ feed_green J p v g ok still z in
    absurd (n (z.green ∙ sym e))

pub feed_lamp_leaves : (l : BookLimits) (J : List Entry) (p : Plan) (s : Mind) (w : Simulated) (to : Colour)
    → AtBelt l J p machine.Feed s w
    → IsRead J p machine.Feed (Noted J p machine.Feed s w) (after_reading w machine.Feed)
    → Good J → Good (one_more J (Lamp belt.Feed to)) → first_of l J (Lamp belt.Feed to) ≡ None
    → wants l (situation_of J) p.plates machine.Feed (Lamp belt.Feed to) ≡ true
    → LeftBy J p machine.Feed s w (Lamp belt.Feed to)
feed_lamp_leaves l J p s w to t r g k allow h =
    let x = Lamp belt.Feed to in let v = after_reading w machine.Feed in let f = Noted J p machine.Feed s w in
    let ok : allowed l J x ≡ true = ap (λ (o : Option Refusal). is_none o) allow in
    let y = feed_turns J p to f v g r.tied r.stations (good_passed l J x g ok).1.1 in
    let z = feed_none J p v to g t.begins.as_booked.healthy y.rest.booked h y.other r.stations.laying.laid in
    light_leaves l J p to_feed_end s w x to t (record { unfailed = refl; unasked = refl }) refl refl refl refl y.rest
    (feed_stations J p x to v y.rest.plain
    (record {
      wanted = λ e. lamp_wanted J p x to (admitted_before J x refl) r.stations.laying.unexpected h e;
      lamp = lamp_now J x belt.Feed to refl;
      other = lamp_before J x belt.Deposit refl;
      expected = refl;
      plate = plates_as J x v v station.FeedIn g k refl refl z.plate;
      count = z.count ∙ sym (admitted_before J x refl);
      booked = λ u d i. plates_as J x v v u g k refl refl i;
    }) r.stations)

deposit_green : (J : List Entry) → Good J → is_failed J machine.Deposit ≡ false → going_of J axis.DepositBelt ≡ None
    → lamp_of J belt.Deposit ≡ colour.Green → deposit_light (situation_of J) ≡ colour.Green
unfolding deposit_light
deposit_green J g ok still i =
    let o = deposit_lit_so J g i in
    three_green (is_failed J machine.Deposit) (is_none (going_of J axis.DepositBelt)) (is_occupied J station.DepEnd) ok
    (ap (λ (q : Option Pose). is_none q) still)
    (occupied_by J station.DepEnd true g (ap (λ (q : Option ℕ). is_some q) o.there))

deposit_none : (J : List Entry) (v : Simulated) (to : Colour) → Good J → is_failed J machine.Deposit ≡ false
    → going_of J axis.DepositBelt ≡ None → same_colour to (deposit_light (situation_of J)) ≡ true
    → lamp_of J belt.Deposit ≢ to → HasBooked J v station.DepEnd ⊎ OneIsTaken J v → HasBooked J v station.DepEnd
deposit_none J v to g ok still h n (inl z) = z
deposit_none J v to g ok still h n (inr z) =
    let e = colour_same to (deposit_light (situation_of J)) h ∙ deposit_green J g ok still z.green in
    absurd (n (z.green ∙ sym e))

pub deposit_lamp_leaves : (l : BookLimits) (J : List Entry) (p : Plan) (s : Mind) (w : Simulated) (to : Colour)
    → AtBelt l J p machine.Deposit s w
    → IsRead J p machine.Deposit (Noted J p machine.Deposit s w) (after_reading w machine.Deposit)
    → Good J → Good (one_more J (Lamp belt.Deposit to)) → first_of l J (Lamp belt.Deposit to) ≡ None
    → wants l (situation_of J) p.plates machine.Deposit (Lamp belt.Deposit to) ≡ true
    → LeftBy J p machine.Deposit s w (Lamp belt.Deposit to)
deposit_lamp_leaves l J p s w to t r g k allow h =
    let x = Lamp belt.Deposit to in let v = after_reading w machine.Deposit in
    let f = Noted J p machine.Deposit s w in
    let ok : allowed l J x ≡ true = ap (λ (o : Option Refusal). is_none o) allow in
    let y = deposit_turns J p to f v g r.tied r.stations (good_passed l J x g ok).1.1 in
    let z = deposit_none J v to g t.begins.as_booked.healthy y.rest.booked h y.other r.stations.taking.taken in
    light_leaves l J p to_deposit_end s w x to t (record { unfailed = refl; unasked = refl }) refl refl refl refl y.rest
    (deposit_stations J p x to v
    (record {
      lamp = lamp_now J x belt.Deposit to refl;
      other = lamp_before J x belt.Feed refl;
      admitted = refl;
      expected = refl;
      plate = plates_as J x v v station.DepEnd g k refl refl z;
      booked = λ u d i. plates_as J x v v u g k refl refl i;
    }) r.stations)

-- A PLATE THAT WAS LAID IN IS ADMITTED, AND ONE THAT WAS TAKEN OUT IS DELIVERED

at_least : (n : ℕ) → n ≤ n
at_least n = omega arith

pub nowhere_yet : (J : List Entry) (t : Station) → Good J → is_plate (admitted_in J + 1) (Left J t) ≡ false
nowhere_yet J t g =
    let k = admitted_in J + 1 in
    not_true (is_plate k (Left J t)) (λ y.
    let there : place_of J k ≡ Place.At t = g.safe.plates.there t k (is_plate_tells k (Left J t) y) in
    let none : place_of J k ≡ Place.Nowhere = (safe_state J g).nowhere_outside k (inr (at_least (admitted_in J + 1))) in
    let c : Place.At t ≡ Place.Nowhere = sym there ∙ none in cc c)

-- what the book has at a station after one entry more
pub told_then : (J : List Entry) (x : Entry) (t : Station) → Good (one_more J x)
    → plate_of (one_more J x) t ≡ (step x (after J)).plate t
told_then J x t k =
    told_left (one_more J x) t k ∙ ap (λ (y : Snapshot). y.plate t) (after_snoc opening J x)

pub admitted_leaves : (l : BookLimits) (J : List Entry) (p : Plan) (s : Mind) (w : Simulated)
    → AtBelt l J p machine.Feed s w → StationsAsBooked J p (after_reading w machine.Feed) → Good J
    → Good (one_more J (Admitted (admitted_in J + 1)))
    → BeltRests J to_feed_end (Noted J p machine.Feed s w) (after_reading w machine.Feed)
    → OneIsLaid J p (after_reading w machine.Feed) → LeftBy J p machine.Feed s w (Admitted (admitted_in J + 1))
admitted_leaves l J p s w t st g k rest z =
    let n = admitted_in J + 1 in let x = Admitted n in let v = after_reading w machine.Feed in
    light_leaves l J p to_feed_end s w x colour.Red t (record { unfailed = refl; unasked = refl }) refl refl refl refl
    rest
    (feed_stations J p x colour.Red v rest.plain
    (record {
      wanted = λ e. let c : colour.Red ≡ colour.Green = e in cc c;
      lamp = lamp_now J x belt.Feed colour.Red refl;
      other = lamp_before J x belt.Deposit refl;
      expected = refl;
      plate = z.plate ∙ sym (told_then J x station.FeedIn k ∙ put_to n station.FeedIn (after J).plate);
      count = z.count ∙ sym (count_snoc is_admitted J x);
      booked = λ u d i. i ∙ (told_left J u g ∙ sym (told_then J x u k
          ∙ put_none n station.FeedIn u (after J).plate d (nowhere_yet J u g)));
    }) st)

pub left_none : (j : ℕ) (o : Option ℕ) → o ≡ Some j → left_by j o ≡ None
left_none j o h = let e = same_number j j refl in ap (λ (y : Option ℕ). left_by j y) h ∙ rw e refl

pub delivered_leaves : (l : BookLimits) (J : List Entry) (p : Plan) (s : Mind) (w : Simulated) (j : ℕ)
    → AtBelt l J p machine.Deposit s w → StationsAsBooked J p (after_reading w machine.Deposit) → Good J
    → Good (one_more J (Delivered j))
    → BeltRests J to_deposit_end (Noted J p machine.Deposit s w) (after_reading w machine.Deposit)
    → Left J station.DepEnd ≡ Some j → plate_at (after_reading w machine.Deposit) station.DepEnd ≡ None
    → LeftBy J p machine.Deposit s w (Delivered j)
delivered_leaves l J p s w j t st g k rest there gone =
    let x = Delivered j in let v = after_reading w machine.Deposit in
    light_leaves l J p to_deposit_end s w x colour.Red t (record { unfailed = refl; unasked = refl }) refl refl refl
    refl rest
    (deposit_stations J p x colour.Red v
    (record {
      lamp = lamp_now J x belt.Deposit colour.Red refl;
      other = lamp_before J x belt.Feed refl;
      admitted = refl;
      expected = refl;
      plate = gone ∙ sym (told_then J x station.DepEnd k ∙ left_none j (Left J station.DepEnd) there);
      booked = λ u d i. i ∙ (told_left J u g ∙ sym (told_then J x u k
          ∙ unless (is_plate j (Left J u)) None (Left J u) (not_elsewhere J j station.DepEnd u g there d)));
    }) st)
