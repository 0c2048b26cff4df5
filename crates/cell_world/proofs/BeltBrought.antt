-- A plate that a stopped machine's belt brought to its end is cleared from where it is booked
use Rattle.std.proofs.Common.{◌≡◌, ◌≢◌, inl, inr, ℕ, ◌+◌, ◌⊎◌, Bool, true, false, Option, Some, None, List, []}
use Rattle.std.proofs.Common.{◌∷◌, is_some, arith, refl, sym, ap, ◌∙◌, subst, length-set, if◌then◌else◌}
use Rattle.std.proofs.lemmas.List.Folds.{list_any_at}
use Rattle.std.specs.Option.{option_or}
use Rattle.std.specs.Prelude.{◌&&◌, slice_index_or}
use Rattle.cell_types.specs.declared.words.Axis.TheVariants as axis
use Rattle.cell_types.specs.declared.words.Entry.{Entry}
use Rattle.cell_types.specs.declared.words.Entry.TheVariants.{Quarantined}
use Rattle.cell_types.specs.declared.words.Machine.{Machine}
use Rattle.cell_types.specs.declared.words.Machine.TheVariants as machine
use Rattle.cell_types.specs.declared.words.Station.{Station}
use Rattle.cell_types.specs.declared.words.Station.TheVariants as station
use Rattle.cell_types.specs.After.{is_plate}
use Rattle.cell_types.specs.Cell.{is_before_press}
use Rattle.cell_types.specs.Same.{axis_number, station_number}
use Rattle.cell_types.specs.Texts.{all_station}
use Rattle.cell_rules.proofs.Safe.Bridge.{Good, good_when_legal}
use Rattle.cell_rules.proofs.Safe.Facts.{is_plate_tells}
use Rattle.cell_ports.specs.declared.plan.Plan.{Plan}
use Rattle.cell_turns.specs.Minds.{Mind}
use Rattle.cell_sim.specs.declared.motion.Moving.{Moving}
use Rattle.cell_sim.specs.declared.world.Plate.{Plate}
use Rattle.cell_sim.specs.Hands.{after_remove, carried, carried_by, count_removed, is_anywhere, is_plate_at, taken_out}
use Rattle.cell_sim.specs.Hands.{taken_where}
use Rattle.cell_sim.specs.Moves.{same_number}
use Rattle.cell_sim.specs.Parts.{axis_at, counted, has_plate, in_turn, plate_at, plate_here, with_plate}
use Rattle.cell_sim.specs.declared.axis.AxisInWorld.{AxisInWorld}
use Rattle.cell_sim.specs.Simulated.{Simulated, at_home}
use Rattle.cell_sim.specs.declared.motion.Phase.TheVariants.{Arrived}
use Rattle.cell_world.specs.Belts.{Conveying, belt_of, dest_of, from_of, machine_of, path_with, to_deposit_end}
use Rattle.cell_world.specs.Belts.{light_of, to_feed_end, to_table}
use Rattle.cell_world.specs.BeltTurning.{way_of}
use Rattle.cell_world.specs.BeltStopping.{BroughtClears, HasBrought, OneIsLeft, PathsBegin}
use Rattle.cell_world.specs.BeltStopping.{BeltHasStopped, StationsBut, put_back}
use Rattle.cell_world.specs.Going.{IsPlain}
use Rattle.cell_world.specs.Handing.{HasBooked}
use Rattle.cell_world.specs.Laying.{NoneIsLaid, OneIsLaid, OneIsTaken, TakingAsBooked, admitted_in}
use Rattle.cell_world.specs.Starting.{one_more}
use Rattle.cell_world.specs.Tied.{motion_along}
use Rattle.cell_world.proofs.Laying.{LayingPart, by_test, laying_of, lays_before, takes_before}
use Rattle.cell_world.proofs.BeltClears.{Clears, deposit_cleared, feed_cleared, still_stopped}
use Rattle.cell_world.proofs.BeltLamps.{nowhere_yet}
use Rattle.cell_world.proofs.Belts.{ends_apart}
use Rattle.cell_world.proofs.Clearing.{cleared}
use Rattle.cell_world.proofs.Plates.{Left, each_station, here_before, here_now, not_elsewhere, number_of, told_left}
use Rattle.cell_world.proofs.Plates.{same_number as equal_number}
use Rattle.cell_world.proofs.Turns.{good_then}
use Rattle.cell_world.proofs.Steps.{not_true, unless}

-- WHERE ONE STATION ALONE HAS A PLATE OF THE NUMBER, ALL THAT IS TAKEN OUT IS THERE

-- no other station than d has it
abbrev Alone : Option ℕ → Station → Simulated → Type 0
Alone k d w = (t : Station) → station_number t ≢ station_number d → is_plate_at w k t ≡ false

pub record Swept (d : Station) (w v : Simulated) : Type 0 where
  pub plain : IsPlain v
  pub here : (t : Station) → station_number t ≢ station_number d → plate_here v t ≡ plate_here w t
  pub axes : v.axes ≡ w.axes
  pub part : laying_of v ≡ laying_of w
  pub light : v.deposit_light ≡ w.deposit_light

swept_none : (d : Station) (w : Simulated) → IsPlain w → Swept d w w
swept_none d w t = record { plain = t; here = λ u n. refl; axes = refl; part = refl; light = refl }

swept_then : (d : Station) (w v u : Simulated) → Swept d w v → Swept d v u → Swept d w u
swept_then d w v u s t =
    record {
      plain = t.plain;
      here = λ x n. t.here x n ∙ s.here x n;
      axes = t.axes ∙ s.axes;
      part = t.part ∙ s.part;
      light = t.light ∙ s.light;
    }

clash : (b : Bool) → b ≡ true → b ≡ false → ⊥
clash b h k = let c : true ≡ false = sym h ∙ k in cc c

swept_it : (k : Option ℕ) (d s : Station) (w : Simulated) → IsPlain w → Alone k d w → is_plate_at w k s ≡ true
    → Swept d w (with_plate s None w)
swept_it k d s w t only h =
    record {
      plain = record { unwatched = t.unwatched; axes = t.axes; stations = length-set _ _ _ ∙ t.stations };
      here = λ u n. each_station (λ (x : Station). station_number x ≢ station_number d
          → plate_here (with_plate s None w) x ≡ plate_here w x) s u
          (λ i. absurd (clash (is_plate_at w k s) h (only s i))) (λ i j. here_before s u None w i) n;
      axes = refl;
      part = refl;
      light = refl;
    }

swept_one : (k : Option ℕ) (d s : Station) (w : Simulated) → IsPlain w → Alone k d w → Swept d w (taken_where k s w)
swept_one k d s w t only =
    by_test (λ (v : Simulated). Swept d w v) (is_plate_at w k s) (with_plate s None w) w
    (λ h. swept_it k d s w t only h) (λ h. swept_none d w t)

alone_then : (k : Option ℕ) (d : Station) (w v : Simulated) → Swept d w v → Alone k d w → Alone k d v
alone_then k d w v s only t n =
    ap (λ (o : Option Plate). is_some k && same_number (number_of o) k) (s.here t n) ∙ only t n

swept_all : (k : Option ℕ) (d : Station) (xs : List Station) (w : Simulated) → IsPlain w → Alone k d w
    → Swept d w (in_turn (taken_where k) xs w)
swept_all k d [] w t only = swept_none d w t
swept_all k d (s ∷ xs) w t only =
    let v = taken_where k s w in let a = swept_one k d s w t only in
    swept_then d w v (in_turn (taken_where k) xs v) a (swept_all k d xs v a.plain (alone_then k d w v a only))

-- it is gone there
gone_one : (k : Option ℕ) (d s : Station) (w : Simulated) → IsPlain w → plate_here w d ≡ None
    → plate_here (taken_where k s w) d ≡ None
gone_one k d s w t h =
    by_test (λ (v : Simulated). plate_here v d ≡ None) (is_plate_at w k s) (with_plate s None w) w
    (λ i. each_station (λ (x : Station). plate_here w x ≡ None → plate_here (with_plate s None w) x ≡ None) s d
    (λ j. here_now s None w t.stations) (λ n j. here_before s d None w n ∙ j) h) (λ i. h)

gone_all : (k : Option ℕ) (d : Station) (xs : List Station) (w : Simulated) → IsPlain w → Alone k d w
    → plate_here w d ≡ None → plate_here (in_turn (taken_where k) xs w) d ≡ None
gone_all k d [] w t only h = h
gone_all k d (s ∷ xs) w t only h =
    let v = taken_where k s w in let a = swept_one k d s w t only in
    gone_all k d xs v a.plain (alone_then k d w v a only) (gone_one k d s w t h)

if_true : {X : Type 0} (b : Bool) (x y : X) → b ≡ true → (if b then x else y) ≡ x
if_true true x y h = refl
if_true false x y h = cc h

gone_here : (k : Option ℕ) (d : Station) (w : Simulated) → IsPlain w → is_plate_at w k d ≡ true
    → plate_here (taken_where k d w) d ≡ None
gone_here k d w t h =
    ap (λ (v : Simulated). plate_here v d) (if_true (is_plate_at w k d) (with_plate d None w) w h)
    ∙ here_now d None w t.stations

-- the three stations where belts end, of all in their order
gone_first : (k : Option ℕ) (d : Station) (xs : List Station) (w : Simulated) → IsPlain w → Alone k d w
    → is_plate_at w k d ≡ true → plate_here (in_turn (taken_where k) (d ∷ xs) w) d ≡ None
gone_first k d xs w t only h =
    let v = taken_where k d w in let a = swept_one k d d w t only in
    gone_all k d xs v a.plain (alone_then k d w v a only) (gone_here k d w t h)

-- a station that hasn't the plate is passed over
passed_by : (k : Option ℕ) (s : Station) (xs : List Station) (w : Simulated) → is_plate_at w k s ≡ false
    → in_turn (taken_where k) (s ∷ xs) w ≡ in_turn (taken_where k) xs w
passed_by k s xs w h =
    ap (λ (v : Simulated). in_turn (taken_where k) xs v)
    (unless (is_plate_at w k s) (with_plate s None w) w h)

-- the stations from the second one on, in their order
abbrev from_end : List Station
from_end = station.FeedEnd ∷ station.Table ∷ station.Arm1 ∷ station.Arm2 ∷ station.Press1
    ∷ station.Press2 ∷ station.DepIn ∷ station.DepEnd ∷ []

abbrev from_table : List Station
from_table = station.Table ∷ station.Arm1 ∷ station.Arm2 ∷ station.Press1 ∷ station.Press2 ∷ station.DepIn
    ∷ station.DepEnd ∷ []

abbrev after_table : List Station
after_table = station.Arm1 ∷ station.Arm2 ∷ station.Press1 ∷ station.Press2 ∷ station.DepIn ∷ station.DepEnd ∷ []

abbrev from_arm : List Station
from_arm = station.Arm2 ∷ station.Press1 ∷ station.Press2 ∷ station.DepIn ∷ station.DepEnd ∷ []

abbrev from_press : List Station
from_press = station.Press1 ∷ station.Press2 ∷ station.DepIn ∷ station.DepEnd ∷ []

abbrev from_other : List Station
from_other = station.Press2 ∷ station.DepIn ∷ station.DepEnd ∷ []

abbrev from_in : List Station
from_in = station.DepIn ∷ station.DepEnd ∷ []

abbrev from_last : List Station
from_last = station.DepEnd ∷ []

skipped_to : (c : Conveying) (k : Option ℕ) (w : Simulated) → Alone k (dest_of c) w
    → (xs : List Station)
    × (in_turn (taken_where k) all_station w ≡ in_turn (taken_where k) (dest_of c ∷ xs) w)
skipped_to to_feed_end k w only =
    (from_table, passed_by k station.FeedIn from_end w (only station.FeedIn (omega arith)))
skipped_to to_table k w only = (
  after_table,
  passed_by k station.FeedIn from_end w (only station.FeedIn (omega arith))
      ∙ passed_by k station.FeedEnd from_table w (only station.FeedEnd (omega arith)),
)
skipped_to to_deposit_end k w only = (
  [],
  passed_by k station.FeedIn from_end w (only station.FeedIn (omega arith))
      ∙ (passed_by k station.FeedEnd from_table w (only station.FeedEnd (omega arith))
      ∙ (passed_by k station.Table after_table w (only station.Table (omega arith))
      ∙ (passed_by k station.Arm1 from_arm w (only station.Arm1 (omega arith))
      ∙ (passed_by k station.Arm2 from_press w (only station.Arm2 (omega arith))
      ∙ (passed_by k station.Press1 from_other w (only station.Press1 (omega arith))
      ∙ (passed_by k station.Press2 from_in w (only station.Press2 (omega arith))
      ∙ passed_by k station.DepIn from_last w (only station.DepIn (omega arith)))))))),
)

swept_gone : (c : Conveying) (k : Option ℕ) (w : Simulated) → IsPlain w → Alone k (dest_of c) w
    → is_plate_at w k (dest_of c) ≡ true → plate_here (in_turn (taken_where k) all_station w) (dest_of c) ≡ None
swept_gone c k w t only h =
    let s = skipped_to c k w only in
    ap (λ (v : Simulated). plate_here v (dest_of c)) s.1 ∙ gone_first k (dest_of c) s.0 w t only h

-- WHAT THE OPERATOR'S HAND DOES

abbrev taken : Station → Option ℕ → Simulated → Simulated
taken s k w = count_removed s (in_turn (taken_where k) all_station w)

somewhere : (c : Conveying) (w : Simulated) (k : Option ℕ) → is_plate_at w k (dest_of c) ≡ true
    → is_anywhere w k ≡ true
unfolding is_anywhere
somewhere to_feed_end w k h = list_any_at (is_plate_at w k) all_station 1 station.FeedIn (omega arith) h
somewhere to_table w k h = list_any_at (is_plate_at w k) all_station 2 station.FeedIn (omega arith) h
somewhere to_deposit_end w k h = list_any_at (is_plate_at w k) all_station 8 station.FeedIn (omega arith) h

removed_so : (c : Conveying) (s : Station) (k : Option ℕ) (w : Simulated) → has_plate w s ≡ false → carried w s ≡ k
    → is_plate_at w k (dest_of c) ≡ true → after_remove s w ≡ taken s k w
unfolding after_remove taken_out
removed_so c s k w h e i =
    unless (has_plate w s) (count_removed s (with_plate s None w)) _ h
    ∙ (ap (λ (o : Option ℕ). if is_anywhere w o then taken s o w else w) e
    ∙ if_true (is_anywhere w k) (taken s k w) w (somewhere c w k i))

carried_by_way : (c : Conveying) (k : Plate) (n : ℕ) (w : Simulated) → PathsBegin w
    → (axis_at w (belt_of c)).motion ≡ Some (record (motion_along (path_with c k) n Arrived) { stopped = true })
    → carried w (from_of c) ≡ Some k.number
carried_by_way to_feed_end k n w t h =
    ap (λ (o : Option Moving). option_or (carried_by o station.FeedIn)
    (carried_by (axis_at w axis.DepositBelt).motion station.FeedIn)) h
carried_by_way to_table k n w t h =
    ap (λ (o : Option Moving). option_or (carried_by o station.FeedEnd)
    (carried_by (axis_at w axis.DepositBelt).motion station.FeedEnd)) h
carried_by_way to_deposit_end k n w t h =
    let a = t.feed station.DepIn (λ e. let c : machine.Deposit ≡ machine.Feed = e in cc c) in
    ap (λ (o : Option ℕ). option_or o (carried_by (axis_at w axis.DepositBelt).motion station.DepIn)) a
    ∙ ap (λ (o : Option Moving). carried_by o station.DepIn) h

brought_carried : (J : List Entry) (m : Machine) (w : Simulated) (b : HasBrought J m w) → PathsBegin w
    → carried w (from_of b.way) ≡ Some b.plate.number
brought_carried J m w b t = carried_by_way b.way b.plate b.further w t b.carried

-- THE STATIONS THEN

-- what is told of stations stays where plates and lights are the same
same_laid : (K : List Entry) (p : Plan) (x v : Simulated) → plate_here v station.FeedIn ≡ plate_here x station.FeedIn
    → v.laid ≡ x.laid → NoneIsLaid K x ⊎ OneIsLeft K p x → NoneIsLaid K v ⊎ OneIsLeft K p v
same_laid K p x v here laid (inl z) = inl (record { plate = ap number_of here ∙ z.plate; count = laid ∙ z.count })
same_laid K p x v here laid (inr z) =
    inr (record {
      plate = ap number_of here ∙ z.plate;
      count = laid ∙ z.count;
      planned = z.planned;
      unbooked = z.unbooked;
    })

record Same (x v : Simulated) : Type 0 where
  here : (u : Station) → plate_here v u ≡ plate_here x u
  part : laying_of v ≡ laying_of x
  light : v.deposit_light ≡ x.deposit_light

same_taking : (K : List Entry) (x v : Simulated) → Same x v → TakingAsBooked K x → TakingAsBooked K v
same_taking K x v s t =
    takes_before K K x v
    (record {
      lamp = refl;
      light = s.light;
      there = λ i. ap number_of (s.here station.DepEnd);
      booked = λ h. ap number_of (s.here station.DepEnd) ∙ h;
    }) t

same_end : (K : List Entry) (x v : Simulated) → Same x v
    → HasBooked K x station.DepEnd ⊎ (plate_at x station.DepEnd ≡ None)
    → HasBooked K v station.DepEnd ⊎ (plate_at v station.DepEnd ≡ None)
same_end K x v s (inl z) = inl (ap number_of (s.here station.DepEnd) ∙ z)
same_end K x v s (inr z) = inr (ap number_of (s.here station.DepEnd) ∙ z)

same_feed : (K : List Entry) (p : Plan) (x v : Simulated) → Same x v → StationsBut K p machine.Feed x
    → StationsBut K p machine.Feed v
same_feed K p x v s t =
    record {
      laying = record {
        red = t.laying.red;
        light = ap (λ (y : LayingPart). y.light) s.part ∙ t.laying.light;
        laid = same_laid K p x v (s.here station.FeedIn) (ap (λ (y : LayingPart). y.laid) s.part) t.laying.laid;
        planned = ap (λ (y : LayingPart). y.planned) s.part ∙ t.laying.planned;
        untrusting = ap (λ (y : LayingPart). y.trusting) s.part ∙ t.laying.untrusting;
        unexpected = t.laying.unexpected;
      };
      taking = same_taking K x v s t.taking;
      within = λ u h. ap number_of (s.here u) ∙ t.within u h;
    }

same_stations : (K : List Entry) (p : Plan) (c : Conveying) (x v : Simulated) → Same x v
    → StationsBut K p (machine_of c) x → StationsBut K p (machine_of c) v
same_stations K p to_feed_end x v s t = same_feed K p x v s t
same_stations K p to_table x v s t = same_feed K p x v s t
same_stations K p to_deposit_end x v s t =
    record {
      laying = lays_before K K p x v
          (record {
            lamp = refl;
            admitted = refl;
            expected = refl;
            part = s.part;
            there = λ i. ap number_of (s.here station.FeedIn);
            booked = λ h. ap number_of (s.here station.FeedIn) ∙ h;
          }) t.laying;
      taking = record {
        red = t.taking.red;
        light = s.light ∙ t.taking.light;
        taken = same_end K x v s t.taking.taken;
      };
      within = λ u h. ap number_of (s.here u) ∙ t.within u h;
    }

-- NO OTHER STATION HAS A PLATE OF THE NUMBER

same_is : (o : Option ℕ) (k : ℕ) → same_number o (Some k) ≡ is_plate k o
same_is None k = refl
same_is (Some j) k = refl

not_at : (J : List Entry) (k : ℕ) (s t : Station) (w : Simulated) → Good J → Left J s ≡ Some k
    → station_number t ≢ station_number s → HasBooked J w t → is_plate_at w (Some k) t ≡ false
not_at J k s t w g there n h =
    same_is (plate_at w t) k
    ∙ (ap (λ (o : Option ℕ). is_plate k o) (h ∙ told_left J t g) ∙ not_elsewhere J k s t g there n)

none_at : (k : ℕ) (t : Station) (w : Simulated) → plate_at w t ≡ None → is_plate_at w (Some k) t ≡ false
none_at k t w h = ap (λ (o : Option ℕ). same_number o (Some k)) h

-- nor one that was laid in and isn't booked
laid_apart : (J : List Entry) (k : ℕ) (s t : Station) (w : Simulated) → Good J → Left J s ≡ Some k
    → plate_at w t ≡ Some (admitted_in J + 1) → is_plate_at w (Some k) t ≡ false
laid_apart J k s t w g there h =
    let n = admitted_in J + 1 in
    same_is (plate_at w t) k ∙ (ap (λ (o : Option ℕ). is_plate k o) h
    ∙ not_true (is_plate k (Some n)) (λ y.
    let e : Left J s ≡ Some n = there ∙ sym (is_plate_tells k (Some n) y) in
    let i : is_plate n (Left J s) ≡ true = ap (λ (o : Option ℕ). is_plate n o) e ∙ equal_number n n refl in
    clash (is_plate n (Left J s)) i (nowhere_yet J s g)))

front_alone : (J : List Entry) (p : Plan) (k : ℕ) (s : Station) (w : Simulated) → Good J → Left J s ≡ Some k
    → station_number station.FeedIn ≢ station_number s → NoneIsLaid J w ⊎ OneIsLeft J p w
    → is_plate_at w (Some k) station.FeedIn ≡ false
front_alone J p k s w g there n (inl z) = not_at J k s station.FeedIn w g there n z.plate
front_alone J p k s w g there n (inr z) = laid_apart J k s station.FeedIn w g there z.plate

laid_alone : (J : List Entry) (p : Plan) (k : ℕ) (s : Station) (w : Simulated) → Good J → Left J s ≡ Some k
    → station_number station.FeedIn ≢ station_number s → NoneIsLaid J w ⊎ OneIsLaid J p w
    → is_plate_at w (Some k) station.FeedIn ≡ false
laid_alone J p k s w g there n (inl z) = not_at J k s station.FeedIn w g there n z.plate
laid_alone J p k s w g there n (inr z) = laid_apart J k s station.FeedIn w g there z.plate

end_alone : (J : List Entry) (k : ℕ) (s : Station) (w : Simulated) → Good J → Left J s ≡ Some k
    → station_number station.DepEnd ≢ station_number s → HasBooked J w station.DepEnd ⊎ OneIsTaken J w
    → is_plate_at w (Some k) station.DepEnd ≡ false
end_alone J k s w g there n (inl z) = not_at J k s station.DepEnd w g there n z
end_alone J k s w g there n (inr z) = none_at k station.DepEnd w z.gone

back_alone : (J : List Entry) (p : Plan) (c : Conveying) (k : ℕ) (v : Simulated) (t : Station) → Good J
    → Left J (from_of c) ≡ Some k → StationsBut J p (machine_of c) v → station_number t ≢ station_number (from_of c)
    → station_number t ≢ station_number (dest_of c) → is_plate_at v (Some k) t ≡ false
back_alone J p to_feed_end k v station.FeedIn g there st n d = absurd (n refl)
back_alone J p to_table k v station.FeedIn g there st n d =
    front_alone J p k station.FeedEnd v g there n st.laying.laid
back_alone J p to_deposit_end k v station.FeedIn g there st n d =
    laid_alone J p k station.DepIn v g there n st.laying.laid
back_alone J p to_feed_end k v station.DepEnd g there st n d =
    end_alone J k station.FeedIn v g there n st.taking.taken
back_alone J p to_table k v station.DepEnd g there st n d = end_alone J k station.FeedEnd v g there n st.taking.taken
back_alone J p to_deposit_end k v station.DepEnd g there st n d = absurd (d refl)
back_alone J p c k v t g there st n d = not_at J k (from_of c) t v g there n (st.within t refl)

-- where a plate is put back the other stations are as they are
put_elsewhere : (c : Conveying) (k : Plate) (w : Simulated) (t : Station)
    → station_number t ≢ station_number (from_of c) → station_number t ≢ station_number (dest_of c)
    → plate_here (put_back c k w) t ≡ plate_here w t
put_elsewhere c k w t n d =
    here_before (from_of c) t (Some k) (with_plate (dest_of c) None w) n ∙ here_before (dest_of c) t None w d

alone : (J : List Entry) (p : Plan) (c : Conveying) (k : Plate) (w : Simulated) → Good J
    → Left J (from_of c) ≡ Some k.number → plate_here w (from_of c) ≡ None
    → StationsBut J p (machine_of c) (put_back c k w) → Alone (Some k.number) (dest_of c) w
alone J p c k w g there gone st t d =
    each_station (λ (x : Station). station_number x ≢ station_number (dest_of c)
    → is_plate_at w (Some k.number) x ≡ false) (from_of c) t
    (λ i. none_at k.number (from_of c) w (ap number_of gone))
    (λ n i. ap (λ (o : Option Plate). same_number (number_of o) (Some k.number)) (sym (put_elsewhere c k w t n i))
    ∙ back_alone J p c k.number (put_back c k w) t g there st n i) d

-- THE STATION IS CLEARED

put_here : (c : Conveying) (k : Plate) (w : Simulated) → IsPlain w
    → plate_here (put_back c k w) (from_of c) ≡ Some k
put_here c k w t = here_now (from_of c) (Some k) (with_plate (dest_of c) None w) (length-set _ _ _ ∙ t.stations)

put_plain : (c : Conveying) (k : Plate) (w : Simulated) → IsPlain w → IsPlain (put_back c k w)
put_plain c k w t =
    record {
      unwatched = t.unwatched;
      axes = t.axes;
      stations = length-set _ _ _ ∙ (length-set _ _ _ ∙ t.stations);
    }

cleared_back : (J : List Entry) (p : Plan) (c : Conveying) (k : Plate) (w : Simulated)
    → Clears J p k.number (from_of c) (put_back c k w) → IsPlain w → StationsBut J p (machine_of c) (put_back c k w)
    → StationsBut (one_more J (Quarantined k.number (from_of c))) p (machine_of c)
    (cleared (from_of c) (put_back c k w))
cleared_back J p to_feed_end k w t plain st =
    feed_cleared J p k.number station.FeedIn (put_back to_feed_end k w) t refl st
cleared_back J p to_table k w t plain st =
    feed_cleared J p k.number station.FeedEnd (put_back to_table k w) t refl st
cleared_back J p to_deposit_end k w t plain st =
    deposit_cleared J p k.number station.DepIn (put_back to_deposit_end k w) t refl
    (ap number_of (put_here to_deposit_end k w plain)) st

-- the world is then as one in which the plate was put back and cleared
taken_as : (c : Conveying) (k : Plate) (w : Simulated) → IsPlain w → plate_here w (from_of c) ≡ None
    → Alone (Some k.number) (dest_of c) w → is_plate_at w (Some k.number) (dest_of c) ≡ true
    → Same (cleared (from_of c) (put_back c k w)) (taken (from_of c) (Some k.number) w)
taken_as c k w t gone only h =
    let s = from_of c in let d = dest_of c in let o = Some k.number in
    let pb = put_back c k w in let v = in_turn (taken_where o) all_station w in
    let a = swept_all o d all_station w t only in let plain = put_plain c k w t in
    record {
      here = λ u. each_station (λ (x : Station). plate_here v x ≡ plate_here (with_plate s None pb) x) s u
          (a.here s (ends_apart c) ∙ (gone ∙ sym (here_now s None pb plain.stations)))
          (λ n. each_station (λ (x : Station). station_number x ≢ station_number s
          → plate_here v x ≡ plate_here (with_plate s None pb) x) d u
          (λ i. swept_gone c o w t only h
          ∙ sym (here_before s d None pb i ∙ (here_before s d (Some k) (with_plate d None w) i
          ∙ here_now d None w t.stations)))
          (λ e i. a.here u e ∙ sym (here_before s u None pb i ∙ put_elsewhere c k w u i e)) n);
      part = ap (λ (y : LayingPart). record y {
        cleared = if is_before_press s then counted y.cleared else y.cleared;
      }) a.part;
      light = a.light;
    }

swept_light : (c : Conveying) (w v : Simulated) → Swept (dest_of c) w v
    → light_of (way_of (machine_of c)) v ≡ light_of (way_of (machine_of c)) w
swept_light to_feed_end w v t = ap (λ (y : LayingPart). y.light) t.part
swept_light to_table w v t = ap (λ (y : LayingPart). y.light) t.part
swept_light to_deposit_end w v t = t.light

counted_light : (c : Conveying) (s : Station) (w : Simulated)
    → light_of (way_of (machine_of c)) (count_removed s w) ≡ light_of (way_of (machine_of c)) w
counted_light to_feed_end s w = refl
counted_light to_table s w = refl
counted_light to_deposit_end s w = refl

abbrev Goal : List Entry → Plan → Conveying → Plate → Mind → Simulated → Type 0
Goal J p c k i v =
    BeltHasStopped (one_more J (Quarantined k.number (from_of c))) (machine_of c) i v
    × StationsBut (one_more J (Quarantined k.number (from_of c))) p (machine_of c) v

way_clears : (J : List Entry) (p : Plan) (c : Conveying) (k : Plate) (i : Mind) (w : Simulated)
    → Clears J p k.number (from_of c) (put_back c k w) → plate_here w (from_of c) ≡ None
    → plate_here w (dest_of c) ≡ Some k → carried w (from_of c) ≡ Some k.number
    → BeltHasStopped J (machine_of c) i w → StationsBut J p (machine_of c) (put_back c k w)
    → Goal J p c k i (after_remove (from_of c) w)
way_clears J p c k i w t gone there carries h st =
    let s = from_of c in let d = dest_of c in let o = Some k.number in
    let only = alone J p c k w t.good t.there gone st in
    let at : is_plate_at w o d ≡ true =
    ap (λ (q : Option Plate). same_number (number_of q) o) there ∙ equal_number k.number k.number refl in
    let u = in_turn (taken_where o) all_station w in let a = swept_all o d all_station w h.plain only in
    subst (λ (v : Simulated). Goal J p c k i v)
    (sym (removed_so c s o w (ap (λ (q : Option Plate). is_some (number_of q)) gone) carries at)) (
      still_stopped J (machine_of c) k.number s i w (taken s o w)
          (record { unwatched = a.plain.unwatched; axes = a.plain.axes; stations = a.plain.stations })
          (λ x. ap (λ (xs : List AxisInWorld). slice_index_or xs (axis_number x) (at_home x)) a.axes)
          (counted_light c s u ∙ swept_light c w u a) h,
      same_stations (one_more J (Quarantined k.number s)) p c (cleared s (put_back c k w)) (taken s o w)
          (taken_as c k w h.plain gone only at) (cleared_back J p c k w t h.plain st),
    )

pub brought_clears : BroughtClears
brought_clears l J p m i w b t =
    let c = b.way in let k = b.plate in let g = good_when_legal l J t.legal in
    let x = Quarantined k.number (from_of c) in
    let ready : Clears J p k.number (from_of c) (put_back c k w) = record {
      good = g;
      next = good_then l J x g t.allowed;
      plain = put_plain c k w t.stopped.plain;
      there = sym (told_left J (from_of c) g) ∙ b.booked;
      wanted = t.wanted;
    } in
    subst (λ (n : Machine). BeltHasStopped J n i w → StationsBut J p n (put_back c k w)
    → BeltHasStopped (one_more J x) n i (after_remove (from_of c) w)
    × StationsBut (one_more J x) p n (after_remove (from_of c) w)) b.of
    (λ h st. way_clears J p c k i w ready b.gone b.there (brought_carried J m w b t.paths) h st) t.stopped t.stations
