-- What a reading of a belt's machine leaves
use Rattle.std.proofs.Common.{◌≡◌, ◌≢◌, ℕ, Bool, true, false, not, ◌&&◌, ◌||◌, ◌==◌, ◌⊎◌, inl, inr, Option, Some, None}
use Rattle.std.proofs.Common.{zero, suc, ◌+◌, List, is_some, refl, sym, ap, ◌∙◌, subst}
use Rattle.std.specs.Option.{option_map}
use Rattle.std.specs.Prelude.{◌+◌}
use Rattle.cell_types.specs.declared.words.Axis.{Axis}
use Rattle.cell_types.specs.declared.words.Axis.TheVariants as axis
use Rattle.cell_types.specs.declared.words.Belt.TheVariants as belt
use Rattle.cell_types.specs.declared.words.Colour.{Colour}
use Rattle.cell_types.specs.declared.words.Colour.TheVariants as colour
use Rattle.cell_types.specs.declared.words.Entry.{Entry}
use Rattle.cell_types.specs.declared.words.Machine.{Machine}
use Rattle.cell_types.specs.declared.words.Machine.TheVariants as machine
use Rattle.cell_types.specs.declared.words.Pose.{Pose}
use Rattle.cell_types.specs.declared.words.Pose.TheVariants as pose
use Rattle.cell_types.specs.declared.words.Station.{Station}
use Rattle.cell_types.specs.declared.words.Station.TheVariants as station
use Rattle.cell_types.specs.Same.{same_colour}
use Rattle.cell_rules.specs.Views.{at_of, going_of, lamp_of, plate_of}
use Rattle.cell_rules.proofs.Safe.Facts.{and_both, not_true as not_so}
use Rattle.cell_diagnosis.specs.Readings.{place_in_axis}
use Rattle.cell_diagnosis.specs.declared.motion.Motion.{Motion}
use Rattle.cell_diagnosis.specs.declared.reading.Reading.{Reading}
use Rattle.cell_diagnosis.specs.declared.verdict.Verdict.TheVariants.{Pending}
use Rattle.cell_ports.specs.declared.plan.Plan.{Plan}
use Rattle.cell_rules.specs.declared.limits.BookLimits.{BookLimits}
use Rattle.cell_turns.specs.Following.{Following}
use Rattle.cell_turns.specs.Minds.{Mind}
use Rattle.cell_turns.specs.Moving.{motion_of_machine}
use Rattle.cell_turns.specs.Observed.{axis_noted, axis_verdict, followed, with_reading}
use Rattle.cell_turns.specs.Visits.{is_unvisited}
use Rattle.cell_sim.specs.declared.axis.AxisInWorld.{AxisInWorld}
use Rattle.cell_sim.specs.declared.motion.Moving.{Moving}
use Rattle.cell_sim.specs.declared.world.Plate.{Plate}
use Rattle.cell_sim.specs.Parts.{axis_at, broke, counted, has_plate, with_plate}
use Rattle.cell_sim.specs.Readings.{after_reading, by_the_hands, full_belt_broke, is_feed_empty, is_plate_left}
use Rattle.cell_sim.specs.Readings.{laid_in, new_plate, next_laid, plate_laid, plate_taken, put_down, senses}
use Rattle.cell_sim.specs.Readings.{senses_by, shown}
use Rattle.cell_sim.specs.Simulated.{Simulated}
use Rattle.cell_world.specs.Agreeing.{has_belt}
use Rattle.cell_world.specs.Belts.{BeltCame, BeltGoes, BeltRests, BeltStays, Conveying, belt_of, machine_of, name_of}
use Rattle.cell_world.specs.Belts.{to_deposit_end, to_feed_end, to_table}
use Rattle.cell_world.specs.BeltTurning.{BeltTurnBegins, IsBeltTied, StationsAsBooked, way_of}
use Rattle.cell_world.specs.Laying.{NoneIsLaid, OneIsLaid, OneIsTaken}
use Rattle.cell_world.specs.Handing.{HasBooked}
use Rattle.cell_world.specs.Sensing.{ReadingAgreesAt, is_looked_at}
use Rattle.cell_world.specs.Starting.{RobotMayStand, further_in}
use Rattle.cell_world.specs.Tie.{IsFairPlan}
use Rattle.cell_world.specs.Tied.{Given, none, one, more, IsFair, further_of, motion_by, next_given}
use Rattle.cell_world.specs.Going.{IsPlain}
use Rattle.cell_world.proofs.BeltAgrees.{agrees_at, belt_agrees, its_axis, read_still, shown_still}
use Rattle.cell_world.proofs.Belts.{after_belt, belt_goes_on, gone_to}
use Rattle.cell_world.proofs.Laying.{hands_booked, stations_before}
use Rattle.cell_world.proofs.Read.{hands_leave}
use Rattle.cell_world.proofs.RestPending.{agrees_pending}
use Rattle.cell_world.proofs.Long.{further_then, reading_long}
use Rattle.cell_world.proofs.Steps.{either, fair_more, further_more}
use Rattle.cell_world.proofs.Turns.{Agreed, Noted, Verdicts, not_robot, stands_by}

-- a belt has one axis, whichever its motion
pub rests_alike : (J : List Entry) (c d : Conveying) (f : Option Following) (w : Simulated) → belt_of c ≡ belt_of d
    → BeltRests J c f w → BeltRests J d f w
rests_alike J c d f w e t =
    record {
      plain = t.plain;
      booked = subst (λ (a : Axis). going_of J a ≡ None) e t.booked;
      home = subst (λ (a : Axis). at_of J a ≡ pose.Rest) e t.home;
      still = subst (λ (a : Axis). (axis_at w a).motion ≡ None) e t.still;
      unnoted = t.unnoted;
    }

pub way_is : (m : Machine) → has_belt m ≡ true → machine_of (way_of m) ≡ m
way_is machine.Feed b = refl
way_is machine.Deposit b = refl
way_is machine.Table b = cc b
way_is machine.Robot b = cc b
way_is machine.Press1 b = cc b
way_is machine.Press2 b = cc b

pub way_back : (c : Conveying) → belt_of c ≡ belt_of (way_of (machine_of c))
way_back to_feed_end = refl
way_back to_table = refl
way_back to_deposit_end = refl

pub tied_plain : (J : List Entry) (p : Plan) (m : Machine) (f : Option Following) (w : Simulated)
    → IsBeltTied J p m f w → IsPlain w
tied_plain J p m f w (inl t) = t.plain
tied_plain J p m f w (inr t) = t.goes.plain

not_the_robot : (c : Conveying) → machine_of c ≢ machine.Robot
not_the_robot to_feed_end = not_robot machine.Feed refl
not_the_robot to_table = not_robot machine.Feed refl
not_the_robot to_deposit_end = not_robot machine.Deposit refl

-- what is left by a reading that finds no end of a motion
pub record IsRead (J : List Entry) (p : Plan) (m : Machine) (f : Option Following) (w : Simulated) : Type 0 where
  pub tied : IsBeltTied J p m f w
  pub stations : StationsAsBooked J p w
  pub robot : RobotMayStand J w

-- and what one finds that finds it
pub record HasCome (J : List Entry) (p : Plan) (m : Machine) (s : Mind) (w : Simulated) : Type 0 where
  pub way : Conveying
  pub plate : Plate
  pub of : machine_of way ≡ m
  pub further : ℕ
  pub goes : BeltGoes J p way plate (more further 0) s.axis w
  pub came : BeltCame J way plate (Noted J p m s w) (after_reading w m)

abbrev pub Went : List Entry → Plan → Machine → Mind → Simulated → Type 0
Went J p m s w =
    ((Verdicts J p m s (shown w m) ≡ Pending) × IsRead J p m (Noted J p m s w) (after_reading w m))
    ⊎ HasCome J p m s w

-- A BELT THAT RESTS

pub rests_by_hand : (J : List Entry) (c : Conveying) (f : Option Following) (w : Simulated) → BeltRests J c f w
    → BeltRests J c f (by_the_hands w (machine_of c))
rests_by_hand J c f w t =
    let h = hands_leave (machine_of c) (belt_of c) w t.plain in
    record {
      plain = h.plain;
      booked = t.booked;
      home = t.home;
      still = ap (λ (x : AxisInWorld). x.motion) h.axis ∙ t.still;
      unnoted = t.unnoted;
    }

pub after_still : (J : List Entry) (c : Conveying) (f : Option Following) (w : Simulated) → BeltRests J c f w
    → after_reading w (machine_of c) ≡ by_the_hands w (machine_of c)
unfolding after_reading
after_still J c f w t = read_still c (by_the_hands w (machine_of c)) (rests_by_hand J c f w t).still

pub no_motion : (J : List Entry) (p : Plan) (c : Conveying) → going_of J (belt_of c) ≡ None
    → motion_of_machine J p (machine_of c) ≡ None
no_motion J p to_feed_end h = rw h refl
no_motion J p to_table h = rw h refl
no_motion J p to_deposit_end h = rw h refl

pub nothing_noted : (J : List Entry) (p : Plan) (c : Conveying) (f : Option Following) (w : Simulated)
    (r : Option Reading) → BeltRests J c f w → axis_noted J (machine_of c) p f r ≡ None
nothing_noted J p c f w r t =
    let m = machine_of c in
    ap (λ (x : Option Following). option_map (with_reading r) (followed x (motion_of_machine J p m))) t.unnoted
    ∙ ap (λ (o : Option Motion). option_map (with_reading r) (followed None o)) (no_motion J p c t.booked)

still_reads : (J : List Entry) (p : Plan) (c : Conveying) (s : Mind) (w : Simulated) → RobotMayStand J w
    → StationsAsBooked J p w → BeltRests J c s.axis w → Went J p (machine_of c) s w
still_reads J p c s w r st t =
    let m = machine_of c in let u = by_the_hands w m in
    let so = after_still J c s.axis w t in
    let n = nothing_noted J p c s.axis w (shown w m) t in
    let h = rests_by_hand J c s.axis w t in
    let now : BeltRests J c (Noted J p m s w) u = record {
      plain = h.plain;
      booked = h.booked;
      home = h.home;
      still = h.still;
      unnoted = n;
    } in
    inl (
      ap axis_verdict n,
      record {
        tied = subst (λ (v : Simulated). IsBeltTied J p m (Noted J p m s w) v) (sym so)
            (inl (rests_alike J c (way_of m) (Noted J p m s w) u (way_back c) now));
        stations = subst (λ (v : Simulated). StationsAsBooked J p v) (sym so) (hands_booked J p m w t.plain st);
        robot = stands_by J w m t.plain (not_the_robot c) r;
      },
    )

-- A BELT THAT CARRIES A PLATE

name_apart : (c : Conveying) → (place_in_axis (name_of c) == place_in_axis pose.Rest) ≡ false
name_apart to_feed_end = refl
name_apart to_table = refl
name_apart to_deposit_end = refl

pub fair_of : (J : List Entry) (p : Plan) (c : Conveying) (w : Simulated) → IsFairPlan p w
    → at_of J (belt_of c) ≡ pose.Rest
    → IsFair (motion_by J p (belt_of c) (name_of c)) (further_in w (belt_of c) (name_of c))
fair_of J p c w fair h =
    record {
      elsewhere = ap (λ (q : Pose). place_in_axis (name_of c) == place_in_axis q) h ∙ name_apart c;
      leave = (fair (belt_of c) (name_of c)).0;
      limit = (fair (belt_of c) (name_of c)).1;
    }

pub goes_stations : (J : List Entry) (p : Plan) (c : Conveying) (k : Plate) (g h : Given) (w : Simulated)
    → next_given g ≡ Some h → StationsAsBooked J p w → StationsAsBooked J p (gone_to c k g w)
goes_stations J p c k (none n) h w e t =
    stations_before J J p w (gone_to c k (none n) w) (λ b. refl) refl refl
    (record { part = refl; light = refl; laid = λ g. refl; taken = λ g. refl; booked = λ u i. i }) t
goes_stations J p c k (one n) h w e t =
    stations_before J J p w (gone_to c k (one n) w) (λ b. refl) refl refl
    (record { part = refl; light = refl; laid = λ g. refl; taken = λ g. refl; booked = λ u i. i }) t
goes_stations J p c k (more n (suc j)) h w e t =
    stations_before J J p w (gone_to c k (more n (suc j)) w) (λ b. refl) refl refl
    (record { part = refl; light = refl; laid = λ g. refl; taken = λ g. refl; booked = λ u i. i }) t
goes_stations J p c k (more n zero) h w e t = cc e

stays_read : (J : List Entry) (p : Plan) (c : Conveying) (k : Plate) (g h : Given) (s : Mind) (w : Simulated)
    → next_given g ≡ Some h → IsFair (motion_by J p (belt_of c) (name_of c)) (further_of g)
    → further_of g ≡ further_in w (belt_of c) (name_of c) → RobotMayStand J w → StationsAsBooked J p w
    → BeltGoes J p c k g s.axis w
    → BeltStays J p c k h (Noted J p (machine_of c) s w) (after_reading w (machine_of c))
    → Went J p (machine_of c) s w
stays_read J p c k g h s w e fair long r st t x =
    inl (
      x.pending,
      record {
        tied = inr (record {
          way = c;
          plate = k;
          given = h;
          of = refl;
          long = sym (further_more g h e)
              ∙ (long ∙ sym (further_then w (after_reading w (machine_of c)) (belt_of c) (name_of c)
              (reading_long w (machine_of c))));
          fair = fair_more (motion_by J p (belt_of c) (name_of c)) g h e fair;
          goes = x.goes;
        });
        stations = subst (λ (v : Simulated). StationsAsBooked J p v) (sym (after_belt J p c k g s.axis w t))
            (goes_stations J p c k g h w e st);
        robot = stands_by J w (machine_of c) t.plain (not_the_robot c) r;
      },
    )

carries_reads : (J : List Entry) (p : Plan) (c : Conveying) (k : Plate) (g : Given) (s : Mind) (w : Simulated)
    → IsFair (motion_by J p (belt_of c) (name_of c)) (further_of g)
    → further_of g ≡ further_in w (belt_of c) (name_of c) → RobotMayStand J w → StationsAsBooked J p w
    → BeltGoes J p c k g s.axis w → Went J p (machine_of c) s w
carries_reads J p c k (none n) s w fair long r st t =
    stays_read J p c k (none n) (one n) s w refl fair long r st t (belt_goes_on J p c k (none n) s.axis w fair t)
carries_reads J p c k (one n) s w fair long r st t =
    stays_read J p c k (one n) (more 0 n) s w refl fair long r st t (belt_goes_on J p c k (one n) s.axis w fair t)
carries_reads J p c k (more n (suc j)) s w fair long r st t =
    stays_read J p c k (more n (suc j)) (more (suc n) j) s w refl fair long r st t
    (belt_goes_on J p c k (more n (suc j)) s.axis w fair t)
carries_reads J p c k (more n zero) s w fair long r st t =
    inr (record {
      way = c;
      plate = k;
      of = refl;
      further = n;
      goes = t;
      came = belt_goes_on J p c k (more n zero) s.axis w fair t;
    })

pub belt_reads : (J : List Entry) (p : Plan) (m : Machine) (s : Mind) (w : Simulated) → has_belt m ≡ true
    → RobotMayStand J w → StationsAsBooked J p w → IsBeltTied J p m s.axis w → Went J p m s w
belt_reads J p m s w b r st (inl t) =
    subst (λ (x : Machine). Went J p x s w) (way_is m b) (still_reads J p (way_of m) s w r st t)
belt_reads J p m s w b r st (inr t) =
    subst (λ (x : Machine). Went J p x s w) t.of (carries_reads J p t.way t.plate t.given s w t.fair t.long r st t.goes)

-- ITS READING AGREES WITH WHAT IS EXPECTED

feed_there : (J : List Entry) (p : Plan) (v : Simulated) → NoneIsLaid J v ⊎ OneIsLaid J p v
    → same_colour (lamp_of J belt.Feed) colour.Green ≡ false
    → has_plate v station.FeedIn ≡ is_some (plate_of J station.FeedIn)
feed_there J p v (inl z) h = ap (λ (o : Option ℕ). is_some o) z.plate
feed_there J p v (inr z) h =
    let c : true ≡ false = sym (ap (λ (x : Colour). same_colour x colour.Green) z.green) ∙ h in cc c

deposit_there : (J : List Entry) (v : Simulated) → HasBooked J v station.DepEnd ⊎ OneIsTaken J v
    → same_colour (lamp_of J belt.Deposit) colour.Green ≡ false
    → has_plate v station.DepEnd ≡ is_some (plate_of J station.DepEnd)
deposit_there J v (inl z) h = ap (λ (o : Option ℕ). is_some o) z
deposit_there J v (inr z) h =
    let c : true ≡ false = sym (ap (λ (x : Colour). same_colour x colour.Green) z.green) ∙ h in cc c

looked_there : (J : List Entry) (p : Plan) (v : Simulated) (s : Station) → StationsAsBooked J p v
    → is_looked_at J s ≡ true → has_plate v s ≡ is_some (plate_of J s)
looked_there J p v station.FeedIn t l =
    let lit = same_colour (lamp_of J belt.Feed) colour.Green in
    feed_there J p v t.laying.laid
    (not_so lit (and_both (not (is_some (going_of J axis.FeedBelt))) (not lit) l).1)
looked_there J p v station.DepEnd t l =
    let lit = same_colour (lamp_of J belt.Deposit) colour.Green in
    deposit_there J v t.taking.taken
    (not_so lit (and_both (not (is_some (going_of J axis.DepositBelt))) (not lit) l).1)
looked_there J p v station.FeedEnd t l = ap (λ (o : Option ℕ). is_some o) (t.within station.FeedEnd refl)
looked_there J p v station.DepIn t l = ap (λ (o : Option ℕ). is_some o) (t.within station.DepIn refl)
looked_there J p v s t l = cc l

still_agrees : (J : List Entry) (p : Plan) (c : Conveying) (f : Option Following) (w : Simulated) (u : Bool)
    → StationsAsBooked J p w → BeltRests J c f w → ReadingAgreesAt J (machine_of c) u w
still_agrees J p c f w u st t =
    let m = machine_of c in let v = by_the_hands w m in
    let h = rests_by_hand J c f w t in
    let booked = hands_booked J p m w t.plain st in
    agrees_at J c u w v (shown_still c w h.still)
    (λ s e l. ap (λ (a : Axis). senses v a s) (its_axis c)
    ∙ (ap (λ (o : Option Moving). senses_by v o s) h.still ∙ looked_there J p v s booked l))

pub tied_agrees : (J : List Entry) (p : Plan) (m : Machine) (f : Option Following) (w : Simulated) (u : Bool)
    → has_belt m ≡ true → StationsAsBooked J p w → IsBeltTied J p m f w → ReadingAgreesAt J m u w
tied_agrees J p m f w u b st (inl t) =
    subst (λ (x : Machine). ReadingAgreesAt J x u w) (way_is m b) (still_agrees J p (way_of m) f w u st t)
tied_agrees J p m f w u b st (inr t) =
    subst (λ (x : Machine). ReadingAgreesAt J x u w) t.of
    ((belt_agrees J p t.way f w u).0 t.plate t.given t.goes)

pub belt_agreed : (l : BookLimits) (J : List Entry) (p : Plan) (m : Machine) (s : Mind) (w : Simulated)
    → has_belt m ≡ true → BeltTurnBegins l J p m s w → Agreed J m s (shown w m)
belt_agreed l J p m s w b t =
    let c = t.as_booked in
    agrees_pending s.rest _ c.agreed
    (tied_agrees J p m s.axis w (is_unvisited J m s.memory) b t.stations c.tied)

-- IT COUNTS NO COLLISION

put_counts : (k : ℕ) (w : Simulated) → (put_down k w).collisions ≡ w.collisions
put_counts k w =
    either (λ (v : Simulated). v.collisions) (has_plate w station.FeedIn) (record w { lost = counted w.lost })
    (with_plate station.FeedIn (Some (new_plate k)) w) w.collisions refl refl

full_counts : (b : Bool) (w : Simulated) → (full_belt_broke b w).collisions ≡ w.collisions
unfolding broke
full_counts true w = refl
full_counts false w = refl

laid_counts : (k : ℕ) (b : Bool) (w : Simulated) → (laid_in k b w).collisions ≡ w.collisions
unfolding laid_in
laid_counts k b w = put_counts k (full_belt_broke b w) ∙ full_counts b w

pub hands_counts : (m : Machine) (w : Simulated) → (by_the_hands w m).collisions ≡ w.collisions
unfolding plate_laid plate_taken
hands_counts machine.Feed w =
    either (λ (v : Simulated). v.collisions)
    (same_colour w.feed_light colour.Green && (is_plate_left w && (is_feed_empty w || w.is_trusting)))
    (laid_in (w.laid + 1) (is_feed_empty w) (next_laid w)) w w.collisions
    (laid_counts (w.laid + 1) (is_feed_empty w) (next_laid w)) refl
hands_counts machine.Deposit w =
    either (λ (v : Simulated). v.collisions)
    (same_colour w.deposit_light colour.Green && has_plate w station.DepEnd) _ w w.collisions refl refl
hands_counts m w = refl

pub gone_counts : (c : Conveying) (k : Plate) (g : Given) (w : Simulated) → (gone_to c k g w).collisions ≡ w.collisions
gone_counts c k (none n) w = refl
gone_counts c k (one n) w = refl
gone_counts c k (more n zero) w = refl
gone_counts c k (more n (suc j)) w = refl

pub read_counts : (J : List Entry) (p : Plan) (m : Machine) (f : Option Following) (w : Simulated) → has_belt m ≡ true
    → IsBeltTied J p m f w → (after_reading w m).collisions ≡ w.collisions
read_counts J p m f w b (inl t) =
    subst (λ (x : Machine). (after_reading w x).collisions ≡ w.collisions) (way_is m b)
    (ap (λ (v : Simulated). v.collisions) (after_still J (way_of m) f w t)
    ∙ hands_counts (machine_of (way_of m)) w)
read_counts J p m f w b (inr t) =
    subst (λ (x : Machine). (after_reading w x).collisions ≡ w.collisions) t.of
    (ap (λ (v : Simulated). v.collisions) (after_belt J p t.way t.plate t.given f w t.goes)
    ∙ gone_counts t.way t.plate t.given w)
