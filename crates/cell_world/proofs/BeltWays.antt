-- What lights, belts and stations tell of each other, and what a turn of a belt's machine leaves
use Rattle.std.proofs.Common.{◌≡◌, Bool, true, false, ◌⊎◌, inl, inr, Option, Some}
use Rattle.std.proofs.Common.{None, List, [], ◌++◌, is_some, refl, sym, ap, ◌∙◌, subst}
use Rattle.std.proofs.Common.{if◌then◌else◌}
use Rattle.std.proofs.lemmas.List.{append-nil}
use Rattle.cell_types.specs.declared.words.Axis.{Axis}
use Rattle.cell_types.specs.declared.words.Belt.{Belt}
use Rattle.cell_types.specs.declared.words.Belt.TheVariants as belt
use Rattle.cell_types.specs.declared.words.Colour.{Colour}
use Rattle.cell_types.specs.declared.words.Colour.TheVariants as colour
use Rattle.cell_types.specs.declared.words.Entry.{Entry}
use Rattle.cell_types.specs.declared.words.Machine.{Machine}
use Rattle.cell_types.specs.declared.words.Station.{Station}
use Rattle.cell_types.specs.declared.words.Station.TheVariants as station
use Rattle.cell_types.specs.After.{after}
use Rattle.cell_types.specs.Same.{same_colour}
use Rattle.cell_rules.specs.declared.limits.BookLimits.{BookLimits}
use Rattle.cell_rules.specs.Situations.{Situation}
use Rattle.cell_rules.specs.Views.{going_of, is_occupied, lamp_of}
use Rattle.cell_rules.proofs.Safe.Bridge.{Good, good_cell}
use Rattle.cell_rules.proofs.Safe.Facts.{axes_of, not_some_tells}
use Rattle.cell_rules.proofs.Safe.Lights.{DepositLit, FeedLit}
use Rattle.cell_ports.specs.declared.plan.Plan.{Plan}
use Rattle.cell_turns.specs.Following.{Following}
use Rattle.cell_turns.specs.Minds.{Mind}
use Rattle.cell_turns.specs.Turns.{ends_motion, mind_after}
use Rattle.cell_sim.specs.declared.world.Plate.{Plate}
use Rattle.cell_sim.specs.Readings.{after_reading, shown}
use Rattle.cell_sim.specs.Simulated.{Simulated}
use Rattle.cell_world.specs.Agreeing.{has_belt}
use Rattle.cell_world.specs.Belts.{BeltGoes, BeltRests, Conveying, EndsAsBefore, belt_of, dest_of, from_of}
use Rattle.cell_types.specs.declared.words.Pose.{Pose}
use Rattle.cell_types.specs.Cell.{machine_of_axis}
use Rattle.cell_turns.specs.Moving.{limits_of}
use Rattle.cell_world.specs.Belts.{light_of, machine_of, name_of, to_deposit_end, to_feed_end, to_table}
use Rattle.cell_world.specs.BeltTurning.{BeltTurnBegins, BeltTurnLeaves, IsBeltTied}
use Rattle.cell_world.specs.BeltTurning.{StationsAsBooked, way_of}
use Rattle.cell_world.specs.Handing.{HasBooked}
use Rattle.cell_world.specs.Laying.{NoneIsLaid, OneIsLaid, OneIsTaken}
use Rattle.cell_world.specs.Sparing.{IsSpared}
use Rattle.cell_world.specs.Starting.{after_entry, one_more}
use Rattle.cell_world.specs.Tied.{Given, IsFair, further_of}
use Rattle.cell_world.proofs.Long.{further_then}
use Rattle.cell_world.proofs.BeltReads.{IsRead, read_counts}
use Rattle.cell_world.proofs.BeltReads.{rests_alike, way_back, way_is}
use Rattle.cell_world.proofs.BeltOther.{SparesOther, ends_then, read_spares_other}
use Rattle.cell_world.proofs.BeltSpares.{belt_spared}
use Rattle.cell_world.proofs.Plates.{Left}
use Rattle.cell_world.proofs.Plates.{some_none}
use Rattle.cell_world.proofs.Turns.{Agreed, IsCalm, Noted, as_booked_then}
use Rattle.cell_world.proofs.Turns.{still_healthy}
use Rattle.cell_world.proofs.Turns.{still_unasked}

-- WHAT THE BOOK TELLS OF LIGHTS

pub occupied_by : (J : List Entry) (s : Station) (b : Bool) → Good J → is_some (Left J s) ≡ b → is_occupied J s ≡ b
occupied_by J s b g h = ap (λ (c : Situation). c.occupied s) (good_cell J g) ∙ h

pub feed_lit_so : (J : List Entry) → Good J → lamp_of J belt.Feed ≡ colour.Green
    → FeedLit (axes_of (after J)) (after J).plate
feed_lit_so J g h = g.safe.lights.feed (sym (g.agrees.lamp belt.Feed) ∙ h)

pub deposit_lit_so : (J : List Entry) → Good J → lamp_of J belt.Deposit ≡ colour.Green
    → DepositLit (after J).plate (after J).failed
deposit_lit_so J g h = g.safe.lights.deposit (sym (g.agrees.lamp belt.Deposit) ∙ h)

pub still_told : (J : List Entry) (a : Axis) → Good J → is_some ((after J).going a) ≡ false → going_of J a ≡ None
still_told J a g h = g.agrees.going a ∙ not_some_tells ((after J).going a) h

pub red_unless : (c : Colour) → (c ≡ colour.Green → ⊥) → c ≡ colour.Red
red_unless colour.Red h = refl
red_unless colour.Green h = absurd (h refl)

pub red_green : (c : Colour) → c ≡ colour.Red → c ≡ colour.Green → ⊥
red_green c h k =
    let e : false ≡ true = ap (λ (x : Colour). same_colour x colour.Green) (sym h ∙ k) in cc e

-- the light of a motion's belt
abbrev pub lamp_at : Conveying → Belt
lamp_at to_feed_end = belt.Feed
lamp_at to_table = belt.Feed
lamp_at to_deposit_end = belt.Deposit

pub lit_as : (J : List Entry) (p : Plan) (c : Conveying) (v : Simulated) → StationsAsBooked J p v
    → light_of c v ≡ lamp_of J (lamp_at c)
lit_as J p to_feed_end v t = t.laying.light
lit_as J p to_table v t = t.laying.light
lit_as J p to_deposit_end v t = t.taking.light

pub one_belt : (c d : Conveying) → machine_of c ≡ machine_of d → belt_of c ≡ belt_of d
one_belt to_feed_end to_feed_end e = refl
one_belt to_feed_end to_table e = refl
one_belt to_table to_feed_end e = refl
one_belt to_table to_table e = refl
one_belt to_deposit_end to_deposit_end e = refl
one_belt to_feed_end to_deposit_end e = cc e
one_belt to_table to_deposit_end e = cc e
one_belt to_deposit_end to_feed_end e = cc e
one_belt to_deposit_end to_table e = cc e

pub one_lamp : (c d : Conveying) → machine_of c ≡ machine_of d → lamp_at c ≡ lamp_at d
one_lamp to_feed_end to_feed_end e = refl
one_lamp to_feed_end to_table e = refl
one_lamp to_table to_feed_end e = refl
one_lamp to_table to_table e = refl
one_lamp to_deposit_end to_deposit_end e = refl
one_lamp to_feed_end to_deposit_end e = cc e
one_lamp to_table to_deposit_end e = cc e
one_lamp to_deposit_end to_feed_end e = cc e
one_lamp to_deposit_end to_table e = cc e

-- a belt that the book has at rest rests
pub rests_then : (J : List Entry) (p : Plan) (c : Conveying) (f : Option Following) (v : Simulated)
    → IsBeltTied J p (machine_of c) f v → going_of J (belt_of c) ≡ None → BeltRests J c f v
rests_then J p c f v (inl t) h = rests_alike J (way_of (machine_of c)) c f v (sym (way_back c)) t
rests_then J p c f v (inr t) h =
    let a = subst (λ (x : Axis). going_of J x ≡ Some (name_of t.way)) (one_belt t.way c t.of) t.goes.booked in
    absurd (some_none (going_of J (belt_of c)) (name_of t.way) a h)

-- so does one whose light is green
pub green_rests : (J : List Entry) (p : Plan) (c : Conveying) (f : Option Following) (v : Simulated)
    → IsBeltTied J p (machine_of c) f v → StationsAsBooked J p v → lamp_of J (lamp_at c) ≡ colour.Green
    → BeltRests J c f v
green_rests J p c f v (inl t) st h = rests_alike J (way_of (machine_of c)) c f v (sym (way_back c)) t
green_rests J p c f v (inr t) st h =
    let k = lit_as J p t.way v st ∙ (ap (λ (b : Belt). lamp_of J b) (one_lamp t.way c t.of) ∙ h) in
    absurd (red_green (light_of t.way v) t.goes.red k)

-- under the red light the ends of the belt are as booked
first_booked : (J : List Entry) (p : Plan) (v : Simulated) → NoneIsLaid J v ⊎ OneIsLaid J p v
    → lamp_of J belt.Feed ≡ colour.Red → NoneIsLaid J v
first_booked J p v (inl z) h = z
first_booked J p v (inr z) h = absurd (red_green (lamp_of J belt.Feed) h z.green)

last_booked : (J : List Entry) (v : Simulated) → HasBooked J v station.DepEnd ⊎ OneIsTaken J v
    → lamp_of J belt.Deposit ≡ colour.Red → HasBooked J v station.DepEnd
last_booked J v (inl z) h = z
last_booked J v (inr z) h = absurd (red_green (lamp_of J belt.Deposit) h z.green)

pub ends_booked : (J : List Entry) (p : Plan) (c : Conveying) (v : Simulated) → StationsAsBooked J p v
    → lamp_of J (lamp_at c) ≡ colour.Red → HasBooked J v (from_of c) × HasBooked J v (dest_of c)
ends_booked J p to_feed_end v t h = ((first_booked J p v t.laying.laid h).plate, t.within station.FeedEnd refl)
ends_booked J p to_table v t h = (t.within station.FeedEnd refl, t.within station.Table refl)
ends_booked J p to_deposit_end v t h = (t.within station.DepIn refl, last_booked J v t.taking.taken h)

-- WHAT A TURN LEAVES

-- what the machine, and what is told of a plate, is in the world before the entry
pub record AtBelt (l : BookLimits) (J : List Entry) (p : Plan) (m : Machine) (s : Mind) (w : Simulated) : Type 0 where
  pub belt : has_belt m ≡ true
  pub begins : BeltTurnBegins l J p m s w
  pub agreed : Agreed J m s (shown w m)

abbrev pub LeftBy : List Entry → Plan → Machine → Mind → Simulated → Entry → Type 0
LeftBy J p m s w x =
    BeltTurnLeaves (one_more J x) p m (mind_after J m p s (shown w m) (Some x)) w (after_entry (after_reading w m) x)
    × SparesOther m w (after_entry (after_reading w m) x)

pub none_leaves : (l : BookLimits) (J : List Entry) (p : Plan) (m : Machine) (s : Mind) (w : Simulated)
    → AtBelt l J p m s w → IsRead J p m (Noted J p m s w) (after_reading w m)
    → BeltTurnLeaves (J ++ []) p m (mind_after J m p s (shown w m) None) w (after_reading w m)
    × SparesOther m w (after_reading w m)
none_leaves l J p m s w t r =
    let c = t.begins.as_booked in (
      subst (λ (K : List Entry). BeltTurnLeaves K p m (mind_after J m p s (shown w m) None) w (after_reading w m))
          (sym (append-nil J))
          (record {
            as_booked = as_booked_then J J p m s (shown w m) None (λ f. IsBeltTied J p m f (after_reading w m)) c
                t.agreed (sym (append-nil J)) c.healthy c.unasked r.tied;
            stations = r.stations;
            collisions = read_counts J p m s.axis w t.belt c.tied;
          }),
      read_spares_other J p m s.axis w t.belt c.tied,
    )

pub entry_leaves : (l : BookLimits) (J : List Entry) (p : Plan) (m : Machine) (s : Mind) (w : Simulated) (x : Entry)
    → AtBelt l J p m s w → IsCalm m x
    → IsBeltTied (one_more J x) p m (if ends_motion (Some x) then None else Noted J p m s w)
    (after_entry (after_reading w m) x)
    → StationsAsBooked (one_more J x) p (after_entry (after_reading w m) x)
    → (after_entry (after_reading w m) x).collisions ≡ (after_reading w m).collisions
    → SparesOther m (after_reading w m) (after_entry (after_reading w m) x) → LeftBy J p m s w x
entry_leaves l J p m s w x t calm tie st n spares =
    let c = t.begins.as_booked in let v = after_entry (after_reading w m) x in (
      record {
        as_booked = as_booked_then J (one_more J x) p m s (shown w m) (Some x)
            (λ f. IsBeltTied (one_more J x) p m f v) c t.agreed refl (still_healthy J m s x c calm)
            (still_unasked J m s x c calm) tie;
        stations = st;
        collisions = n ∙ read_counts J p m s.axis w t.belt c.tied;
      },
      λ d i. ends_then d w (after_reading w m) v (read_spares_other J p m s.axis w t.belt c.tied d i) (spares d i),
    )

-- THE TIE OF A MACHINE THAT IS SPARED

abbrev pub EndsStay : List Entry → Plan → Machine → Option Following → Simulated → Simulated → Type 0
EndsStay J p m f w v =
    (c : Conveying) (k : Plate) (g : Given) → machine_of c ≡ m → BeltGoes J p c k g f w → EndsAsBefore c w v

pub belt_owned : (c : Conveying) → machine_of_axis (belt_of c) ≡ machine_of c
belt_owned to_feed_end = refl
belt_owned to_table = refl
belt_owned to_deposit_end = refl

pub belt_stays : (J K : List Entry) (p : Plan) (m : Machine) (f : Option Following) (w v : Simulated)
    → has_belt m ≡ true → IsSpared m J K w v → EndsStay J p m f w v → IsBeltTied J p m f w → IsBeltTied K p m f v
belt_stays J K p m f w v b s ends (inl t) =
    inl ((belt_spared J K p (way_of m) f w v
    (subst (λ (x : Machine). IsSpared x J K w v) (sym (way_is m b)) s)).1 t)
belt_stays J K p m f w v b s ends (inr t) =
    let kept = belt_spared J K p t.way f w v (subst (λ (x : Machine). IsSpared x J K w v) (sym t.of) s) in
    inr (record {
      way = t.way;
      plate = t.plate;
      given = t.given;
      of = t.of;
      long = t.long ∙ sym (further_then w v (belt_of t.way) (name_of t.way) s.long);
      fair = subst (λ (q : Pose). IsFair (record {
        axis = belt_of t.way;
        from = q;
        to = name_of t.way;
        limits = limits_of p (belt_of t.way);
      }) (further_of t.given)) (sym (s.at (belt_of t.way) (belt_owned t.way ∙ t.of))) t.fair;
      goes = kept.0 t.plate t.given (ends t.way t.plate t.given t.of t.goes) t.goes;
    })
