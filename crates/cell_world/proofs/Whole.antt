-- The whole cell, through the turns of each machine
use Rattle.std.proofs.Common.{◌≡◌, ◌≢◌, ℕ, Bool, true, false, inl, inr, Option, Some, None, List, [], ◌++◌, is_some}
use Rattle.std.proofs.Common.{refl, sym, ap, ◌∙◌, subst, IfSome}
use Rattle.std.proofs.lemmas.List.{append-nil}
use Rattle.std.specs.Prelude.{option_to_list}
use Rattle.cell_types.specs.declared.words.Axis.{Axis}
use Rattle.cell_types.specs.declared.words.Axis.TheVariants as axis
use Rattle.cell_types.specs.declared.words.Belt.{Belt}
use Rattle.cell_types.specs.declared.words.Belt.TheVariants as belt
use Rattle.cell_types.specs.declared.words.Colour.TheVariants as colour
use Rattle.cell_types.specs.declared.words.Entry.{Entry}
use Rattle.cell_types.specs.declared.words.Entry.TheVariants.{Admitted, Declared, Delivered, Expected, Lamp, Reinstated}
use Rattle.cell_types.specs.declared.words.Machine.{Machine}
use Rattle.cell_types.specs.declared.words.Machine.TheVariants as machine
use Rattle.cell_types.specs.declared.words.Station.TheVariants as station
use Rattle.cell_types.specs.Cell.{machine_of_axis, machine_of_belt}
use Rattle.cell_types.specs.Entries.{machine_of_entry}
use Rattle.cell_types.specs.Same.{same_machine}
use Rattle.cell_rules.specs.declared.limits.BookLimits.{BookLimits}
use Rattle.cell_rules.specs.Last.{when}
use Rattle.cell_rules.specs.Views.{expected_of, expects, going_of, is_admitted, lamp_of, shows}
use Rattle.cell_rules.proofs.Safe.Facts.{machine_same}
use Rattle.cell_ports.specs.declared.plan.Plan.{Plan}
use Rattle.cell_turns.specs.Following.{Following}
use Rattle.cell_turns.specs.Minds.{Mind, first_mind}
use Rattle.cell_turns.specs.Turns.{mind_after}
use Rattle.cell_sim.specs.declared.world.Plate.{Plate}
use Rattle.cell_sim.specs.Looks.{is_belt}
use Rattle.cell_sim.specs.Parts.{axis_at, plate_here}
use Rattle.cell_sim.specs.Readings.{shown}
use Rattle.cell_sim.specs.Simulated.{Simulated}
use Rattle.cell_world.specs.Agreeing.{has_belt}
use Rattle.cell_world.specs.Belts.{Conveying, belt_of, dest_of, from_of, light_of}
use Rattle.cell_world.specs.Belts.{machine_of, name_of, path_with, to_deposit_end, to_feed_end, to_table}
use Rattle.cell_world.specs.BeltTurning.{BeltAsBooked, BeltTurnBegins, IsBeltTied, StationsAsBooked, way_of}
use Rattle.cell_world.specs.Going.{IsPlain}
use Rattle.cell_world.specs.Laying.{admitted_in}
use Rattle.cell_world.specs.Starting.{RobotMayStand}
use Rattle.cell_world.specs.Switched.{with_mind}
use Rattle.cell_world.specs.Tied.{Given, under_way}
use Rattle.cell_world.proofs.Long.{fair_then, turn_clears, turn_long}
use Rattle.cell_world.specs.Turning.{IsAsBooked, TurnBegins, TurnLeaves, after_turn}
use Rattle.cell_world.specs.Whole.{BeltsKept, CellAsBooked, CellIsWorld, CellKept, CellOpening, IsTurnOf, WayAsBooked}
use Rattle.cell_world.specs.Whole.{opening_for}
use Rattle.cell_measures.specs.declared.durations.Durations.{Durations}
use Rattle.cell_world.proofs.BeltAgrees.{its_belt}
use Rattle.cell_world.proofs.BeltOther.{SparesOther}
use Rattle.cell_world.proofs.BeltReads.{rests_alike, way_back}
use Rattle.cell_world.proofs.BeltTurns.{belt_turn_does}
use Rattle.cell_world.proofs.BeltWays.{EndsStay, belt_stays, one_belt}
use Rattle.cell_world.proofs.Ends.{CannotHand, SparesEnds}
use Rattle.cell_world.proofs.Four.{book_is_world, each_mind, kept_as, legal_then, others_kept, some_one, turn_healthy}
use Rattle.cell_world.proofs.Four.{turn_spared, turn_unasked}
use Rattle.cell_world.proofs.Laying.{LayingPart, WorldAsBefore, stations_after, stations_before}
use Rattle.cell_world.proofs.Machines.{tied_stands}
use Rattle.cell_world.proofs.Opening.{machine_opening, no_plate, none_noted}
use Rattle.cell_world.proofs.Plates.{number_of, some_none}
use Rattle.cell_world.proofs.Spared.{some_same}
use Rattle.cell_world.proofs.Steps.{not_true}
use Rattle.cell_world.proofs.Turns.{tied_plain, turn_does}

-- WHAT A TURN BEGINS WITH

robot_stands : (l : BookLimits) (J : List Entry) (p : Plan) (minds : Machine → Mind) (w : Simulated)
    → CellAsBooked l J p minds w → RobotMayStand J w
robot_stands l J p minds w t a e =
    inl (tied_stands J p machine.Robot (minds machine.Robot).axis w (t.switches machine.Robot refl).tied a e)

pub cell_plain : (l : BookLimits) (J : List Entry) (p : Plan) (minds : Machine → Mind) (w : Simulated)
    → CellAsBooked l J p minds w → IsPlain w
cell_plain l J p minds w t =
    tied_plain J p machine.Robot (minds machine.Robot).axis w (t.switches machine.Robot refl).tied

switch_begins : (l : BookLimits) (J : List Entry) (p : Plan) (minds : Machine → Mind) (w : Simulated) (m : Machine)
    → has_belt m ≡ false → CellAsBooked l J p minds w → TurnBegins l J p m (minds m) w
switch_begins l J p minds w m b t =
    record {
      legal = t.legal;
      fair = t.fair;
      as_booked = t.switches m b;
      plates = λ u h f. t.stations.within u h;
      robot = robot_stands l J p minds w t;
    }

belt_begins : (l : BookLimits) (J : List Entry) (p : Plan) (minds : Machine → Mind) (w : Simulated) (m : Machine)
    → has_belt m ≡ true → CellAsBooked l J p minds w → BeltTurnBegins l J p m (minds m) w
belt_begins l J p minds w m b t =
    record {
      legal = t.legal;
      fair = t.fair;
      as_booked = t.belts m b;
      stations = t.stations;
      robot = robot_stands l J p minds w t;
    }

-- WHAT IT LEAVES OF ANOTHER MACHINE'S BELT

-- a belt that goes has ends from which no arm takes and to which none brings
cannot_from : (J : List Entry) (p : Plan) (c : Conveying) (k : Plate) (w : Simulated) → StationsAsBooked J p w
    → plate_here w (from_of c) ≡ Some k → CannotHand J (from_of c)
cannot_from J p to_feed_end k w t h = tt
cannot_from J p to_table k w t h = tt
cannot_from J p to_deposit_end k w t h =
    ap (λ (o : Option ℕ). is_some o) (sym (t.within station.DepIn refl))
    ∙ ap (λ (o : Option Plate). is_some (number_of o)) h

cannot_dest : (J : List Entry) (p : Plan) (c : Conveying) (w : Simulated) → StationsAsBooked J p w
    → plate_here w (dest_of c) ≡ None → CannotHand J (dest_of c)
cannot_dest J p to_feed_end w t h = tt
cannot_dest J p to_table w t h = sym (t.within station.Table refl) ∙ ap number_of h
cannot_dest J p to_deposit_end w t h = tt

light_kept : (J : List Entry) (c : Conveying) (w v : Simulated) → SparesEnds J w v → light_of c v ≡ light_of c w
light_kept J to_feed_end w v s = ap (λ (x : LayingPart). x.light) s.part
light_kept J to_table w v s = ap (λ (x : LayingPart). x.light) s.part
light_kept J to_deposit_end w v s = s.light

pub ends_stay : (J : List Entry) (p : Plan) (n : Machine) (f : Option Following) (w v : Simulated)
    → StationsAsBooked J p w → SparesEnds J w v → EndsStay J p n f w v
ends_stay J p n f w v t s c k g i o =
    record {
      light = light_kept J c w v s;
      from_end = s.here (from_of c) (cannot_from J p c k w t o.here);
      dest_end = s.here (dest_of c) (cannot_dest J p c w t o.empty);
    }

pub other_stay : (J : List Entry) (p : Plan) (m n : Machine) (f : Option Following) (w v : Simulated) → m ≢ n
    → SparesOther m w v → EndsStay J p n f w v
other_stay J p m n f w v d s c k g i o = s c (λ j. d (sym j ∙ i))

stay_by : (l : BookLimits) (J : List Entry) (p : Plan) (minds : Machine → Mind) (w : Simulated) (m n : Machine)
    (e : Option Entry) (b : Bool) → has_belt m ≡ b → m ≢ n → CellAsBooked l J p minds w
    → IsTurnOf l J p m (minds m) w e → EndsStay J p n (minds n).axis w (after_turn w m e)
stay_by l J p minds w m n e false b d t o =
    ends_stay J p n (minds n).axis w (after_turn w m e) t.stations
    (turn_does l J p m (minds m) w e b (switch_begins l J p minds w m b t) o.decided o.allowed).1
stay_by l J p minds w m n e true b d t o =
    other_stay J p m n (minds n).axis w (after_turn w m e) d
    (belt_turn_does l J p m (minds m) w e b (belt_begins l J p minds w m b t) o.decided o.allowed).1

pub belts_kept : BeltsKept
belts_kept l J p minds w m n e d b t o =
    let K = J ++ option_to_list e in let v = after_turn w m e in let f = (minds n).axis in
    kept_as J K n (minds n) (turn_healthy J m n e d o.own) (turn_unasked J m n e d o.own)
    (λ i. belt_stays J K p n f w v b (turn_spared J w m n e (cell_plain l J p minds w t) d o.own)
    (stay_by l J p minds w m n e (has_belt m) refl d t o) i) (t.belts n b)

-- WHAT IT LEAVES OF THE STATIONS

-- the machine of a belt isn't one with switches
belt_machine : (b : Belt) → has_belt (machine_of_belt b) ≡ true
belt_machine belt.Feed = refl
belt_machine belt.Deposit = refl

has_no_belt : (k m : Machine) → Some k ≡ Some m → has_belt m ≡ false → has_belt k ≡ true → ⊥
has_no_belt k m h b i =
    let c : true ≡ false = sym i ∙ (ap has_belt (some_same k m h) ∙ b) in cc c

no_lamp : (x : Entry) (m : Machine) (b : Belt) → has_belt m ≡ false → machine_of_entry x ≡ Some m → shows b x ≡ None
no_lamp (Lamp c to) m b i h = absurd (has_no_belt (machine_of_belt c) m h i (belt_machine c))
no_lamp (Admitted j) m b i h = absurd (has_no_belt machine.Feed m h i refl)
no_lamp (Reinstated j) m b i h = absurd (has_no_belt machine.Feed m h i refl)
no_lamp (Delivered j) m b i h = absurd (has_no_belt machine.Deposit m h i refl)
no_lamp (Declared k why) m b i h =
    let n = not_true (same_machine k (machine_of_belt b)) (λ e.
    has_no_belt k m h i (ap has_belt (machine_same k (machine_of_belt b) e) ∙ belt_machine b)) in
    ap (λ (y : Bool). when y colour.Red) n
no_lamp x m b i h = refl

none_admitted : (x : Entry) (m : Machine) → has_belt m ≡ false → machine_of_entry x ≡ Some m → is_admitted x ≡ false
none_admitted (Admitted j) m i h = absurd (has_no_belt machine.Feed m h i refl)
none_admitted x m i h = refl

none_expected : (x : Entry) (m : Machine) → has_belt m ≡ false → machine_of_entry x ≡ Some m → expects x ≡ None
none_expected (Reinstated j) m i h = absurd (has_no_belt machine.Feed m h i refl)
none_expected (Expected j) m i h = cc h
none_expected x m i h = refl

pub stations_kept : (J : List Entry) (p : Plan) (m : Machine) (e : Option Entry) (w v : Simulated) → has_belt m ≡ false
    → IfSome e (λ x. machine_of_entry x ≡ Some m) → WorldAsBefore J (J ++ option_to_list e) w v
    → StationsAsBooked J p w → StationsAsBooked (J ++ option_to_list e) p v
stations_kept J p m None w v b h k t =
    let same = append-nil J in
    stations_before J (J ++ []) p w v (λ c. ap (λ (K : List Entry). lamp_of K c) same) (ap admitted_in same)
    (ap expected_of same) k t
stations_kept J p m (Some x) w v b h k t =
    stations_after J p x w v
    (record {
      lamps = λ c. no_lamp x m c b h;
      admitted = none_admitted x m b h;
      expected = none_expected x m b h;
    }) k t

pub world_before : (J K : List Entry) (p : Plan) (m : Machine) (s : Mind) (w v : Simulated)
    → TurnLeaves J K p m s w v → SparesEnds J w v → WorldAsBefore J K w v
world_before J K p m s w v t i =
    record {
      part = i.part;
      light = i.light;
      laid = λ g. ap number_of (i.here station.FeedIn tt);
      taken = λ g. ap number_of (i.here station.DepEnd tt);
      booked = t.plates;
    }

-- A TURN

pub other_kind : (m n : Machine) → has_belt m ≡ true → has_belt n ≡ false → m ≡ n → ⊥
other_kind m n b c e = let x : true ≡ false = sym b ∙ (ap has_belt e ∙ c) in cc x

abbrev Left : BookLimits → List Entry → Plan → (Machine → Mind) → Simulated → Machine → Option Entry → Type 0
Left l J p minds w m e =
    CellAsBooked l (J ++ option_to_list e) p (with_mind m (mind_after J m p (minds m) (shown w m) e) minds)
    (after_turn w m e)
    × ((after_turn w m e).collisions ≡ w.collisions)

cell_by : (l : BookLimits) (J : List Entry) (p : Plan) (minds : Machine → Mind) (w : Simulated) (m : Machine)
    (e : Option Entry) (b : Bool) → has_belt m ≡ b → CellAsBooked l J p minds w → IsTurnOf l J p m (minds m) w e
    → Left l J p minds w m e
cell_by l J p minds w m e false b t o =
    let K = J ++ option_to_list e in let v = after_turn w m e in let s = mind_after J m p (minds m) (shown w m) e in
    let plain = cell_plain l J p minds w t in
    let left = turn_does l J p m (minds m) w e b (switch_begins l J p minds w m b t) o.decided o.allowed in (
      record {
        legal = legal_then l J e t.legal o.allowed;
        fair = fair_then p w v (turn_long w m e) t.fair;
        uncleared = turn_clears w m e ∙ t.uncleared;
        switches = λ n c. each_mind (λ x y. IsAsBooked K p x y v) m n s minds (same_machine m n) refl
            (λ i. subst (λ (x : Machine). IsAsBooked K p x s v) i left.0.as_booked)
            (λ d. others_kept J p m n (minds n) w e plain d o.own (t.switches n c));
        belts = λ n c. each_mind (λ x y. BeltAsBooked K p x y v) m n s minds (same_machine m n) refl
            (λ i. absurd (other_kind n m c b (sym i)))
            (λ d. belts_kept l J p minds w m n e d c t o);
        stations = stations_kept J p m e w v b o.own (world_before J K p m s w v left.0 left.1) t.stations;
      },
      left.0.collisions,
    )
cell_by l J p minds w m e true b t o =
    let K = J ++ option_to_list e in let v = after_turn w m e in let s = mind_after J m p (minds m) (shown w m) e in
    let plain = cell_plain l J p minds w t in
    let left = belt_turn_does l J p m (minds m) w e b (belt_begins l J p minds w m b t) o.decided o.allowed in (
      record {
        legal = legal_then l J e t.legal o.allowed;
        fair = fair_then p w v (turn_long w m e) t.fair;
        uncleared = turn_clears w m e ∙ t.uncleared;
        switches = λ n c. each_mind (λ x y. IsAsBooked K p x y v) m n s minds (same_machine m n) refl
            (λ i. absurd (other_kind m n b c i))
            (λ d. others_kept J p m n (minds n) w e plain d o.own (t.switches n c));
        belts = λ n c. each_mind (λ x y. BeltAsBooked K p x y v) m n s minds (same_machine m n) refl
            (λ i. subst (λ (x : Machine). BeltAsBooked K p x s v) i left.0.as_booked)
            (λ d. belts_kept l J p minds w m n e d c t o);
        stations = left.0.stations;
      },
      left.0.collisions,
    )

pub cell_kept : CellKept
cell_kept l J p minds w m e t o = cell_by l J p minds w m e (has_belt m) refl t o

-- THE OPENING

belt_opening : (p : Plan) (m : Machine) (ds : Durations) → has_belt m ≡ true
    → BeltAsBooked [] p m (first_mind [] m) (opening_for p ds)
belt_opening p machine.Feed ds b =
    record {
      healthy = refl;
      unasked = refl;
      was_healthy = refl;
      was_obeyed = refl;
      tied = inl (record {
        plain = record { unwatched = refl; axes = refl; stations = refl };
        booked = refl;
        home = refl;
        still = refl;
        unnoted = refl;
      });
      agreed = none_noted;
    }
belt_opening p machine.Deposit ds b =
    record {
      healthy = refl;
      unasked = refl;
      was_healthy = refl;
      was_obeyed = refl;
      tied = inl (record {
        plain = record { unwatched = refl; axes = refl; stations = refl };
        booked = refl;
        home = refl;
        still = refl;
        unnoted = refl;
      });
      agreed = none_noted;
    }
belt_opening p machine.Table ds b = let x : false ≡ true = b in cc x
belt_opening p machine.Robot ds b = let x : false ≡ true = b in cc x
belt_opening p machine.Press1 ds b = let x : false ≡ true = b in cc x
belt_opening p machine.Press2 ds b = let x : false ≡ true = b in cc x

pub cell_opening : CellOpening
cell_opening l p ds fair =
    record {
      legal = refl;
      fair = fair;
      uncleared = refl;
      switches = λ m b. machine_opening p m ds;
      belts = λ m b. belt_opening p m ds b;
      stations = record {
        laying = record {
          light = refl;
          laid = inl (record { plate = no_plate station.FeedIn p ds; count = refl });
          planned = refl;
          sparing = inl refl;
          untrusting = refl;
          unexpected = refl;
        };
        taking = record { light = refl; taken = inl (no_plate station.DepEnd p ds) };
        within = λ t h. no_plate t p ds;
      };
    }

-- THE BOOK IS THE WORLD

pub switch_axis : (a : Axis) → is_belt a ≡ false → has_belt (machine_of_axis a) ≡ false
switch_axis axis.FeedBelt h = let x : true ≡ false = h in cc x
switch_axis axis.DepositBelt h = let x : true ≡ false = h in cc x
switch_axis a h = refl

same_way : (c d : Conveying) → machine_of c ≡ machine_of d → name_of c ≡ name_of d → c ≡ d
same_way to_feed_end to_feed_end h k = refl
same_way to_table to_table h k = refl
same_way to_deposit_end to_deposit_end h k = refl
same_way to_feed_end to_table h k = cc k
same_way to_table to_feed_end h k = cc k
same_way to_feed_end to_deposit_end h k = cc h
same_way to_table to_deposit_end h k = cc h
same_way to_deposit_end to_feed_end h k = cc h
same_way to_deposit_end to_table h k = cc h

abbrev OnWay : Simulated → Conveying → Type 0
OnWay w c =
    (k : Plate) × (g : Given) × ((axis_at w (belt_of c)).motion ≡ Some (under_way (path_with c k) g))

pub way_as_booked : (J : List Entry) (p : Plan) (c : Conveying) (f : Option Following) (w : Simulated)
    → IsBeltTied J p (machine_of c) f w → WayAsBooked J w c
way_as_booked J p c f w (inl t) =
    let r = rests_alike J (way_of (machine_of c)) c f w (sym (way_back c)) t in
    record {
      rests = λ h. r.still;
      goes = λ h. absurd (some_none (going_of J (belt_of c)) (name_of c) h r.booked);
    }
way_as_booked J p c f w (inr t) =
    let a = one_belt t.way c t.of in
    let goes = subst (λ (x : Axis). going_of J x ≡ Some (name_of t.way)) a t.goes.booked in
    record {
      rests = λ h. absurd (some_none (going_of J (belt_of c)) (name_of t.way) goes h);
      goes = λ h. subst (λ (d : Conveying). OnWay w d)
          (same_way t.way c t.of (some_one (going_of J (belt_of c)) (name_of t.way) (name_of c) goes h))
          (t.plate, t.given, t.goes.goes);
    }

pub cell_is_world : CellIsWorld
cell_is_world l J p minds w t = (
  λ a b. book_is_world J p (machine_of_axis a) (minds (machine_of_axis a)) w
      (t.switches (machine_of_axis a) (switch_axis a b)) a refl,
  λ c. way_as_booked J p c (minds (machine_of c)).axis w (t.belts (machine_of c) (its_belt c)).tied,
)
