-- The feed machine's first turn after a repair that left a plate where plates are laid in
use Rattle.std.proofs.Common.{◌≡◌, ◌≢◌, inl, inr, ℕ, ◌+◌, ◌<◌, Bool, true, false, not, ◌&&◌, Option, Some}
use Rattle.std.proofs.Common.{None, List, [], ◌∷◌, ◌++◌, is_some, is_none, refl, sym, ap, ◌∙◌, subst}
use Rattle.std.specs.Prelude.{nat_lt, option_to_list}
use Rattle.cell_types.specs.declared.words.Axis.{Axis}
use Rattle.cell_types.specs.declared.words.Axis.TheVariants as axis
use Rattle.cell_types.specs.declared.words.Belt.{Belt}
use Rattle.cell_types.specs.declared.words.Belt.TheVariants as belt
use Rattle.cell_types.specs.declared.words.Colour.{Colour}
use Rattle.cell_types.specs.declared.words.Colour.TheVariants as colour
use Rattle.cell_types.specs.declared.words.Entry.{Entry}
use Rattle.cell_types.specs.declared.words.Entry.TheVariants.{Claimed, Lamp, Started, Yielded}
use Rattle.cell_types.specs.declared.words.Machine.{Machine}
use Rattle.cell_types.specs.declared.words.Machine.TheVariants as machine
use Rattle.cell_types.specs.declared.words.Pose.{Pose}
use Rattle.cell_types.specs.declared.words.Pose.TheVariants as pose
use Rattle.cell_types.specs.declared.words.Station.{Station}
use Rattle.cell_types.specs.declared.words.Station.TheVariants as station
use Rattle.cell_types.specs.declared.words.Zone.{Zone}
use Rattle.cell_types.specs.declared.words.Zone.TheVariants as zone
use Rattle.cell_types.specs.After.{after, is_machine}
use Rattle.cell_types.specs.Cell.{machine_of_belt}
use Rattle.cell_types.specs.Same.{same_colour}
use Rattle.cell_rules.specs.declared.limits.BookLimits.{BookLimits}
use Rattle.cell_rules.specs.declared.refusal.Refusal.{Refusal}
use Rattle.cell_rules.specs.First.{first_true}
use Rattle.cell_rules.specs.Legal.{allowed, first_of}
use Rattle.cell_rules.specs.Situations.{situation_of}
use Rattle.cell_rules.specs.Views.{expected_of, fails, going_of, holder_of, is_failed, is_occupied, lamp_of, plate_of}
use Rattle.cell_rules.proofs.Safe.Bridge.{Good, good_passed, good_when_legal}
use Rattle.cell_rules.proofs.Safe.Facts.{and_both, colour_same, machine_same, not_false}
use Rattle.cell_rules.proofs.Safe.Views.{view_snoc}
use Rattle.cell_machines.specs.Lights.{feed_light}
use Rattle.cell_machines.specs.Room.{is_bookable, is_none_or_full}
use Rattle.cell_machines.specs.Useful.{is_useful, is_useful_now, wants}
use Rattle.cell_machines.proofs.Proposed.{none_proposed}
use Rattle.cell_ports.specs.declared.plan.Plan.{Plan}
use Rattle.cell_turns.specs.declared.turns.decide.Ruling.{Ruling}
use Rattle.cell_turns.specs.Following.{Following}
use Rattle.cell_turns.specs.Minds.{Mind}
use Rattle.cell_turns.specs.Turns.{IsProposed, IsRuled, mind_after}
use Rattle.cell_sim.specs.Commands.{feed_lit, lit}
use Rattle.cell_sim.specs.Parts.{plate_here}
use Rattle.cell_sim.specs.Readings.{after_reading, shown}
use Rattle.cell_sim.specs.Simulated.{Simulated}
use Rattle.cell_world.specs.Belts.{Conveying, belt_of, machine_of, name_of, to_deposit_end}
use Rattle.cell_world.specs.Belts.{to_feed_end, to_table}
use Rattle.cell_world.specs.BeltStopping.{BeltAnewLeaves, FeedAnewBegins, FeedBeginsAnew}
use Rattle.cell_world.specs.BeltTurning.{IsBeltTied, StationsAsBooked}
use Rattle.cell_world.specs.Going.{IsPlain}
use Rattle.cell_world.specs.Handing.{HasBooked}
use Rattle.cell_world.specs.Laying.{admitted_in}
use Rattle.cell_world.specs.Starting.{after_entry, one_more}
use Rattle.cell_world.specs.Turning.{after_turn}
use Rattle.cell_world.proofs.BeltLamps.{all_green, lamp_does, less_test, lit_counts, lit_rests}
use Rattle.cell_world.proofs.BeltReads.{after_still}
use Rattle.cell_world.proofs.BeltRepairs.{belt_anew, ruled_belt}
use Rattle.cell_world.proofs.BeltTurns.{BeltKind, begins_by, belt_kind}
use Rattle.cell_world.proofs.BeltWays.{occupied_by}
use Rattle.cell_world.proofs.Belts.{none_by_hand}
use Rattle.cell_world.proofs.Laying.{admitted_before, expected_before, lamp_before, lamp_now, takes_before}
use Rattle.cell_world.proofs.Plates.{Left, number_of, some_none, told_left}
use Rattle.cell_world.proofs.Steps.{unless}
use Rattle.cell_world.proofs.Stopping.{anew_axis, anew_rest, failed_after, obeyed_after}
use Rattle.cell_world.proofs.Turns.{Free, and_false, good_then, plates_as, proposed_wants}

-- THE LIGHT IS WANTED, AND CAN BE TURNED

empty_told : (J : List Entry) (s : Station) → Good J → plate_of J s ≡ None → is_occupied J s ≡ false
empty_told J s g h = occupied_by J s false g (ap (λ (o : Option ℕ). is_some o) (sym (told_left J s g) ∙ h))

green_wanted_now : (l : BookLimits) (J : List Entry) (p : Plan) (s : Mind) (w : Simulated) → Good J
    → FeedAnewBegins l J p s w → feed_light (situation_of J) p.plates ≡ colour.Green
unfolding feed_light
green_wanted_now l J p s w g t =
    all_green (is_failed J machine.Feed) (is_none (going_of J axis.FeedBelt)) (is_occupied J station.FeedIn)
    (is_occupied J station.FeedEnd) (nat_lt (admitted_in J) p.plates) (is_some (expected_of J)) t.repaired.healthy
    (ap (λ (q : Option Pose). is_none q) t.repaired.rests.booked) (empty_told J station.FeedIn g t.front)
    (empty_told J station.FeedEnd g t.back) (less_test (admitted_in J) p.plates t.left.planned)

bookable_by : (full f r a b lit : Bool) (x y z u v q : Refusal) → is_none_or_full (Some x) ≡ true → f ≡ false
    → r ≡ false → a ≡ false → b ≡ false → lit ≡ false
    → is_none_or_full (first_true ((full, x) ∷ (f, y) ∷ (r, z) ∷ (a, u) ∷ (b, v) ∷ (lit, q) ∷ [])) ≡ true
unfolding first_true
bookable_by true f r a b lit x y z u v q i hf hr ha hb hl = i
bookable_by false f r a b lit x y z u v q i hf hr ha hb hl = rw (hf, hr, ha, hb, hl) refl

green_bookable : (l : BookLimits) (J : List Entry) (p : Plan) (s : Mind) (w : Simulated) → Good J
    → FeedAnewBegins l J p s w → is_bookable l (situation_of J) (Lamp belt.Feed colour.Green) ≡ true
unfolding is_bookable
green_bookable l J p s w g t =
    bookable_by _ (is_failed J machine.Feed) (is_some (going_of J axis.FeedBelt)) (is_occupied J station.FeedIn)
    (is_occupied J station.FeedEnd) (same_colour (lamp_of J belt.Feed) colour.Green) _ _ _ _ _ _ refl
    t.repaired.healthy (ap (λ (q : Option Pose). is_some q) t.repaired.rests.booked)
    (empty_told J station.FeedIn g t.front) (empty_told J station.FeedEnd g t.back)
    (ap (λ (c : Colour). same_colour c colour.Green) t.stations.laying.red)

green_useful : (l : BookLimits) (J : List Entry) (p : Plan) (s : Mind) (w : Simulated) → Good J
    → FeedAnewBegins l J p s w → is_useful l J p.plates machine.Feed (Lamp belt.Feed colour.Green) ≡ true
unfolding is_useful_now
green_useful l J p s w g t =
    let a = ap (λ (c : Colour). same_colour colour.Green c) (green_wanted_now l J p s w g t) in
    let b = green_bookable l J p s w g t in rw (a, b) refl

-- NOTHING ELSE IS PROPOSED

-- no plate can be carried
not_begun : (l : BookLimits) (J : List Entry) (p : Plan) (s : Mind) (w : Simulated) (c : Conveying) → Good J
    → FeedAnewBegins l J p s w → machine_of c ≡ machine.Feed
    → first_of l J (Started (belt_of c) (name_of c)) ≡ None → ⊥
not_begun l J p s w to_feed_end g t e free =
    let ok : allowed l J (Started axis.FeedBelt pose.ToEnd) ≡ true = ap (λ (o : Option Refusal). is_none o) free in
    let b = begins_by J to_feed_end g (good_passed l J (Started axis.FeedBelt pose.ToEnd) g ok).1.1 in
    some_none (Left J station.FeedIn) b.plate b.full (sym (told_left J station.FeedIn g) ∙ t.front)
not_begun l J p s w to_table g t e free =
    let ok : allowed l J (Started axis.FeedBelt pose.ToTable) ≡ true = ap (λ (o : Option Refusal). is_none o) free in
    let b = begins_by J to_table g (good_passed l J (Started axis.FeedBelt pose.ToTable) g ok).1.1 in
    some_none (Left J station.FeedEnd) b.plate b.full (sym (told_left J station.FeedEnd g) ∙ t.back)
not_begun l J p s w to_deposit_end g t e free = cc e

abbrev IsGreen : Entry → Type 0
IsGreen x = x ≡ Lamp belt.Feed colour.Green

lamp_only : (l : BookLimits) (J : List Entry) (p : Plan) (b : Belt) (to : Colour)
    → feed_light (situation_of J) p.plates ≡ colour.Green → machine_of_belt b ≡ machine.Feed
    → wants l (situation_of J) p.plates machine.Feed (Lamp b to) ≡ true → IsGreen (Lamp b to)
lamp_only l J p belt.Feed to green e h =
    ap (λ (c : Colour). Lamp belt.Feed c) (colour_same to (feed_light (situation_of J) p.plates) h ∙ green)
lamp_only l J p belt.Deposit to green e h = cc e

-- the table isn't waiting
claim_none : (l : BookLimits) (J : List Entry) (p : Plan) (n : Machine) (z : Zone)
    → is_occupied J station.FeedEnd ≡ false
    → wants l (situation_of J) p.plates machine.Feed (Claimed n z) ≡ true → ⊥
claim_none l J p machine.Feed zone.Z1 o h =
    let a = and_both _ _ h in let b = and_both _ _ a.1 in
    let c : true ≡ false = sym b.0 ∙ o in cc c
claim_none l J p n z o h = cc h

is_holder : (o : Option Machine) → is_machine machine.Feed o ≡ true → o ≡ Some machine.Feed
unfolding is_machine
is_holder None h = cc h
is_holder (Some m) h = ap (λ (n : Machine). Some n) (machine_same m machine.Feed h)

yield_none : (l : BookLimits) (J : List Entry) (p : Plan) (n : Machine) (z : Zone) → Good J
    → holder_of J zone.Z1 ≢ Some machine.Feed → first_of l J (Yielded n z) ≡ None
    → wants l (situation_of J) p.plates machine.Feed (Yielded n z) ≡ true → ⊥
yield_none l J p machine.Feed zone.Z1 g d free h =
    let x = Yielded machine.Feed zone.Z1 in
    let ok : allowed l J x ≡ true = ap (λ (o : Option Refusal). is_none o) free in
    let held = not_false (is_machine machine.Feed ((after J).holder zone.Z1)) (good_passed l J x g ok).1.1.1.0 in
    d (g.agrees.holder zone.Z1 ∙ is_holder ((after J).holder zone.Z1) held)
yield_none l J p n z g d free h = cc h

kind_green : (l : BookLimits) (J : List Entry) (p : Plan) (s : Mind) (w : Simulated) (x : Entry) → Good J
    → FeedAnewBegins l J p s w → first_of l J x ≡ None
    → wants l (situation_of J) p.plates machine.Feed x ≡ true → BeltKind machine.Feed x → IsGreen x
kind_green l J p s w (Lamp b to) g t free h i = lamp_only l J p b to (green_wanted_now l J p s w g t) i h
kind_green l J p s w (Started a to) g t free h (c, e, i, j) =
    let same : Started a to ≡ Started (belt_of c) (name_of c) =
    ap (λ (y : Axis). Started y to) i ∙ ap (λ (q : Pose). Started (belt_of c) q) j in
    absurd (not_begun l J p s w c g t e (subst (λ (y : Entry). first_of l J y ≡ None) same free))
kind_green l J p s w (Claimed n z) g t free h i =
    absurd (claim_none l J p n z (empty_told J station.FeedEnd g t.back) h)
kind_green l J p s w (Yielded n z) g t free h i = absurd (yield_none l J p n z g t.unheld free h)
kind_green l J p s w x g t free h i = absurd i

proposed_green : (l : BookLimits) (J : List Entry) (p : Plan) (s : Mind) (w : Simulated) (e : Option Entry) → Good J
    → FeedAnewBegins l J p s w → IsProposed l J machine.Feed p.plates e → Free l J e
    → e ≡ Some (Lamp belt.Feed colour.Green)
proposed_green l J p s w None g t d free =
    let n = none_proposed l J p.plates machine.Feed None d (Lamp belt.Feed colour.Green) in
    let c : true ≡ false = sym (green_useful l J p s w g t) ∙ n in cc c
proposed_green l J p s w (Some x) g t d free =
    let h = proposed_wants l J p.plates machine.Feed x d in
    ap (λ (y : Entry). Some y) (kind_green l J p s w x g t free h
    (belt_kind l (situation_of J) p.plates machine.Feed x refl h))

-- WHAT THE TURN LEAVES

abbrev green_more : List Entry → List Entry
green_more J = one_more J (Lamp belt.Feed colour.Green)

trusts_green : (w : Simulated) → IsPlain w → (feed_lit colour.Green w).is_trusting ≡ w.is_trusting
unfolding feed_lit
trusts_green w t =
    let same = not (same_colour w.feed_light colour.Green) in
    unless (same && w.watch.is_on) (same_colour colour.Green colour.Green) w.is_trusting
    (ap (λ (i : Bool). same && i) t.unwatched ∙ and_false same)

-- the light is green, and no plate moved
record IsLit (w v : Simulated) : Type 0 where
  light : v.feed_light ≡ colour.Green
  trusting : v.is_trusting ≡ w.is_trusting
  planned : v.planned ≡ w.planned
  laid : v.laid ≡ w.laid
  other : v.deposit_light ≡ w.deposit_light
  here : (u : Station) → plate_here v u ≡ plate_here w u

is_lit : (w : Simulated) → IsPlain w → IsLit w (feed_lit colour.Green w)
unfolding feed_lit
is_lit w t =
    record {
      light = refl;
      trusting = trusts_green w t;
      planned = refl;
      laid = refl;
      other = refl;
      here = λ u. refl;
    }

green_stations : (l : BookLimits) (J : List Entry) (p : Plan) (s : Mind) (w v : Simulated) → Good J
    → Good (green_more J) → FeedAnewBegins l J p s w → IsLit w v → StationsAsBooked (green_more J) p v
green_stations l J p s w v g k t h =
    let x = Lamp belt.Feed colour.Green in let K = one_more J x in let st = t.stations in
    let a = admitted_before J x refl in let lamp = lamp_now J x belt.Feed colour.Green refl in
    let planned : admitted_in K < p.plates = subst (λ (n : ℕ). n < p.plates) (sym a) t.left.planned in
    let booked : (u : Station) → HasBooked J w u → HasBooked K v u =
    λ u i. plates_as J x w v u g k refl (ap number_of (h.here u)) i in
    record {
      laying = record {
        light = h.light ∙ sym lamp;
        laid = inr (record {
          green = lamp;
          plate = ap number_of (h.here station.FeedIn) ∙ (t.left.plate ∙ ap (λ (n : ℕ). Some (n + 1)) (sym a));
          count = h.laid ∙ (t.left.count ∙ ap (λ (n : ℕ). n + 1) (sym a));
          planned = planned;
        });
        planned = h.planned ∙ st.laying.planned;
        sparing = inr (λ i. planned);
        untrusting = h.trusting ∙ st.laying.untrusting;
        unexpected = expected_before J x refl ∙ st.laying.unexpected;
      };
      taking = takes_before J K w v
          (record {
            lamp = lamp_before J x belt.Deposit refl;
            light = h.other;
            there = λ i. ap number_of (h.here station.DepEnd);
            booked = booked station.DepEnd;
          }) st.taking;
      within = λ u i. booked u (st.within u i);
    }

green_leaves : (l : BookLimits) (J : List Entry) (p : Plan) (s : Mind) (w : Simulated) → Good J → Good (green_more J)
    → FeedAnewBegins l J p s w
    → BeltAnewLeaves (green_more J) p machine.Feed
    (mind_after J machine.Feed p s (shown w machine.Feed) (Some (Lamp belt.Feed colour.Green))) w
    (after_entry (after_reading w machine.Feed) (Lamp belt.Feed colour.Green))
green_leaves l J p s w g k t =
    let m = machine.Feed in let x = Lamp belt.Feed colour.Green in let K = one_more J x in
    let rests = t.repaired.rests in let plain = rests.plain in let v = lit belt.Feed colour.Green w in
    let s' = mind_after J m p s (shown w m) (Some x) in
    let read : after_reading w m ≡ w =
    after_still J to_feed_end None w rests ∙ none_by_hand to_feed_end w t.stations.laying.light in
    let so : after_entry (after_reading w m) x ≡ v =
    ap (λ (y : Simulated). after_entry y x) read ∙ lamp_does belt.Feed colour.Green w plain in
    let healthy : is_failed K m ≡ false = view_snoc (fails m) false J x ∙ t.repaired.healthy in
    let new = belt_anew J m s w t.repaired t.unasked in
    let tie : IsBeltTied K p m None v =
    inl (lit_rests J to_feed_end belt.Feed colour.Green x None w refl refl rests) in
    record {
      works = record {
        healthy = healthy;
        was_healthy = failed_after J p m s (shown w m) (Some x) ∙ healthy;
        was_obeyed = obeyed_after J p m s (shown w m) (Some x) t.repaired.was_obeyed;
        tied = subst (λ (o : Option Following). IsBeltTied K p m o (after_entry (after_reading w m) x))
            (sym (anew_axis J p m s (shown w m) (Some x) new))
            (subst (λ (y : Simulated). IsBeltTied K p m None y) (sym so) tie);
        agreed = anew_rest J p m s (shown w m) (Some x) new;
      };
      stations = subst (λ (y : Simulated). StationsAsBooked K p y) (sym so)
          (green_stations l J p s w v g k t (is_lit w plain));
      collisions = ap (λ (y : Simulated). y.collisions) so ∙ lit_counts belt.Feed colour.Green w;
    }

pub feed_begins_anew : FeedBeginsAnew
feed_begins_anew l J p s w e t d free =
    let m = machine.Feed in let x = Lamp belt.Feed colour.Green in let g = good_when_legal l J t.legal in
    let proposes : IsProposed l J m p.plates e =
    subst (λ (k : Ruling). IsRuled l J m p.plates k e) (ruled_belt J p m s w (shown w m) t.repaired t.unasked) d in
    let is = proposed_green l J p s w e g t proposes free in
    let k = good_then l J x g (subst (λ (o : Option Entry). Free l J o) is free) in (
      is,
      subst (λ (o : Option Entry). BeltAnewLeaves (J ++ option_to_list o) p m (mind_after J m p s (shown w m) o) w
          (after_turn w m o)) (sym is) (green_leaves l J p s w g k t),
    )
