-- Where plates are laid in and taken out: what an entry, a command and the hands change there
use Rattle.std.proofs.Common.{◌≡◌, ◌≢◌, ℕ, ◌+◌, ◌-◌, ◌^◌, ◌<◌, Bool, true, false, not, ◌&&◌, ◌||◌, ◌⊎◌, inl, inr}
use Rattle.std.proofs.Common.{Option, Some, None, List, is_some, refl, sym, ap, ◌∙◌, subst, arith, if◌then◌else◌}
use Rattle.std.proofs.lemmas.Bool.Decides.{nat_tests}
use Rattle.std.specs.Prelude.{min, nat_lt, unwrap_or}
use Rattle.cell_types.specs.declared.words.Belt.{Belt}
use Rattle.cell_types.specs.declared.words.Belt.TheVariants as belt
use Rattle.cell_types.specs.declared.words.Colour.{Colour}
use Rattle.cell_types.specs.declared.words.Colour.TheVariants as colour
use Rattle.cell_types.specs.declared.words.Entry.{Entry}
use Rattle.cell_types.specs.declared.words.Machine.{Machine}
use Rattle.cell_types.specs.declared.words.Machine.TheVariants as machine
use Rattle.cell_types.specs.declared.words.Station.{Station}
use Rattle.cell_types.specs.declared.words.Station.TheVariants as station
use Rattle.cell_types.specs.Same.{same_colour, station_number}
use Rattle.cell_rules.specs.Views.{expected_of, expects, is_admitted, lamp_of, shows}
use Rattle.cell_rules.proofs.Safe.Facts.{and_both, colour_same, not_true as not_so}
use Rattle.cell_rules.proofs.Safe.Views.{count_snoc, view_snoc}
use Rattle.cell_ports.specs.declared.plan.Plan.{Plan}
use Rattle.cell_sim.specs.Parts.{counted, has_plate, plate_at, with_plate}
use Rattle.cell_sim.specs.Readings.{by_the_hands, is_feed_empty, is_plate_left, laid_in, new_plate, next_laid}
use Rattle.cell_sim.specs.Readings.{plate_laid, plate_taken}
use Rattle.cell_sim.specs.Simulated.{Simulated}
use Rattle.cell_world.specs.BeltTurning.{StationsAsBooked}
use Rattle.cell_world.specs.Going.{IsPlain}
use Rattle.cell_world.specs.Handing.{HasBooked}
use Rattle.cell_world.specs.Laying.{GreenIsWanted}
use Rattle.cell_world.specs.Laying.{LayingAsBooked, NoneIsLaid, OneIsLaid, OneIsTaken, TakingAsBooked, admitted_in}
use Rattle.cell_world.specs.Starting.{one_more}
use Rattle.cell_world.specs.Turning.{is_within}
use Rattle.cell_world.proofs.Plates.{here_before, here_now, number_of}
use Rattle.cell_world.proofs.Steps.{unless}

-- WHAT IS AS BEFORE

-- what of the world is looked at where plates are laid in, but for the plates
pub record LayingPart : Type 0 where
  pub light : Colour
  pub laid : ℕ
  pub planned : ℕ
  pub cleared : ℕ
  pub trusting : Bool

abbrev pub laying_of : Simulated → LayingPart
laying_of w =
    record {
      light = w.feed_light;
      laid = w.laid;
      planned = w.planned;
      cleared = w.cleared;
      trusting = w.is_trusting;
    }

pub record LaysAsBefore (J K : List Entry) (w v : Simulated) : Type 0 where
  pub lamp : lamp_of K belt.Feed ≡ lamp_of J belt.Feed
  pub admitted : admitted_in K ≡ admitted_in J
  pub expected : expected_of K ≡ expected_of J
  pub part : laying_of v ≡ laying_of w
  pub there : lamp_of J belt.Feed ≡ colour.Green → plate_at v station.FeedIn ≡ plate_at w station.FeedIn
  pub booked : HasBooked J w station.FeedIn → HasBooked K v station.FeedIn

laid_before : (J K : List Entry) (p : Plan) (w v : Simulated) → LaysAsBefore J K w v
    → NoneIsLaid J w ⊎ OneIsLaid J p w → NoneIsLaid K v ⊎ OneIsLaid K p v
laid_before J K p w v b (inl t) =
    inl (record {
      plate = b.booked t.plate;
      count = ap (λ (x : LayingPart). x.laid) b.part ∙ (t.count ∙ sym b.admitted);
    })
laid_before J K p w v b (inr t) =
    let more = sym b.admitted in
    inr (record {
      green = b.lamp ∙ t.green;
      plate = b.there t.green ∙ (t.plate ∙ ap (λ (n : ℕ). Some (n + 1)) more);
      count = ap (λ (x : LayingPart). x.laid) b.part ∙ (t.count ∙ ap (λ (n : ℕ). n + 1) more);
      planned = subst (λ (n : ℕ). n < p.plates) more t.planned;
    })

sparing_before : (J K : List Entry) (p : Plan) (w v : Simulated) → LaysAsBefore J K w v
    → (w.cleared ≡ 0) ⊎ GreenIsWanted J p → (v.cleared ≡ 0) ⊎ GreenIsWanted K p
sparing_before J K p w v b (inl h) = inl (ap (λ (x : LayingPart). x.cleared) b.part ∙ h)
sparing_before J K p w v b (inr h) =
    inr (λ g. subst (λ (n : ℕ). n < p.plates) (sym b.admitted) (h (sym b.lamp ∙ g)))

pub lays_before : (J K : List Entry) (p : Plan) (w v : Simulated) → LaysAsBefore J K w v → LayingAsBooked J p w
    → LayingAsBooked K p v
lays_before J K p w v b t =
    record {
      light = ap (λ (x : LayingPart). x.light) b.part ∙ (t.light ∙ sym b.lamp);
      laid = laid_before J K p w v b t.laid;
      planned = ap (λ (x : LayingPart). x.planned) b.part ∙ t.planned;
      sparing = sparing_before J K p w v b t.sparing;
      untrusting = ap (λ (x : LayingPart). x.trusting) b.part ∙ t.untrusting;
      unexpected = b.expected ∙ t.unexpected;
    }

pub record TakesAsBefore (J K : List Entry) (w v : Simulated) : Type 0 where
  pub lamp : lamp_of K belt.Deposit ≡ lamp_of J belt.Deposit
  pub light : v.deposit_light ≡ w.deposit_light
  pub there : lamp_of J belt.Deposit ≡ colour.Green → plate_at v station.DepEnd ≡ plate_at w station.DepEnd
  pub booked : HasBooked J w station.DepEnd → HasBooked K v station.DepEnd

taken_before : (J K : List Entry) (w v : Simulated) → TakesAsBefore J K w v
    → HasBooked J w station.DepEnd ⊎ OneIsTaken J w → HasBooked K v station.DepEnd ⊎ OneIsTaken K v
taken_before J K w v b (inl t) = inl (b.booked t)
taken_before J K w v b (inr t) = inr (record { green = b.lamp ∙ t.green; gone = b.there t.green ∙ t.gone })

pub takes_before : (J K : List Entry) (w v : Simulated) → TakesAsBefore J K w v → TakingAsBooked J w
    → TakingAsBooked K v
takes_before J K w v b t =
    record { light = b.light ∙ (t.light ∙ sym b.lamp); taken = taken_before J K w v b t.taken }

-- the lights and the counts of the world are as before, and so are the plates
pub record WorldAsBefore (J K : List Entry) (w v : Simulated) : Type 0 where
  pub part : laying_of v ≡ laying_of w
  pub light : v.deposit_light ≡ w.deposit_light
  pub laid : lamp_of J belt.Feed ≡ colour.Green → plate_at v station.FeedIn ≡ plate_at w station.FeedIn
  pub taken : lamp_of J belt.Deposit ≡ colour.Green → plate_at v station.DepEnd ≡ plate_at w station.DepEnd
  pub booked : (t : Station) → HasBooked J w t → HasBooked K v t

pub stations_before : (J K : List Entry) (p : Plan) (w v : Simulated) → ((b : Belt) → lamp_of K b ≡ lamp_of J b)
    → admitted_in K ≡ admitted_in J → expected_of K ≡ expected_of J → WorldAsBefore J K w v → StationsAsBooked J p w
    → StationsAsBooked K p v
stations_before J K p w v lamps a e b t =
    record {
      laying = lays_before J K p w v
          (record {
            lamp = lamps belt.Feed;
            admitted = a;
            expected = e;
            part = b.part;
            there = b.laid;
            booked = b.booked station.FeedIn;
          }) t.laying;
      taking = takes_before J K w v
          (record {
            lamp = lamps belt.Deposit;
            light = b.light;
            there = b.taken;
            booked = b.booked station.DepEnd;
          }) t.taking;
      within = λ u h. b.booked u (t.within u h);
    }

-- ONE ENTRY MORE

pub lamp_now : (J : List Entry) (x : Entry) (b : Belt) (c : Colour) → shows b x ≡ Some c
    → lamp_of (one_more J x) b ≡ c
lamp_now J x b c h =
    view_snoc (shows b) colour.Red J x ∙ ap (λ (o : Option Colour). unwrap_or o (lamp_of J b)) h

pub lamp_before : (J : List Entry) (x : Entry) (b : Belt) → shows b x ≡ None
    → lamp_of (one_more J x) b ≡ lamp_of J b
lamp_before J x b h =
    view_snoc (shows b) colour.Red J x ∙ ap (λ (o : Option Colour). unwrap_or o (lamp_of J b)) h

pub admitted_before : (J : List Entry) (x : Entry) → is_admitted x ≡ false
    → admitted_in (one_more J x) ≡ admitted_in J
admitted_before J x h = count_snoc is_admitted J x ∙ unless (is_admitted x) (admitted_in J + 1) (admitted_in J) h

pub expected_before : (J : List Entry) (x : Entry) → expects x ≡ None → expected_of (one_more J x) ≡ expected_of J
expected_before J x h =
    view_snoc expects None J x ∙ ap (λ (o : Option (Option ℕ)). unwrap_or o (expected_of J)) h

-- an entry that says nothing of lights, and admits and expects no plate
pub record SaysNothing (x : Entry) : Type 0 where
  pub lamps : (b : Belt) → shows b x ≡ None
  pub admitted : is_admitted x ≡ false
  pub expected : expects x ≡ None

pub stations_after : (J : List Entry) (p : Plan) (x : Entry) (w v : Simulated) → SaysNothing x
    → WorldAsBefore J (one_more J x) w v → StationsAsBooked J p w → StationsAsBooked (one_more J x) p v
stations_after J p x w v n b t =
    stations_before J (one_more J x) p w v (λ c. lamp_before J x c (n.lamps c)) (admitted_before J x n.admitted)
    (expected_before J x n.expected) b t

-- THE HANDS

pub by_test : {A : Type 0} (P : A → Type 0) (b : Bool) (x y : A) → (b ≡ true → P x) → (b ≡ false → P y)
    → P (if b then x else y)
by_test P true x y h k = h refl
by_test P false x y h k = k refl

or_first : (x y : Bool) → (x || y) ≡ true → y ≡ false → x ≡ true
or_first true y h k = refl
or_first false y h k = let c : true ≡ false = sym h ∙ k in cc c

pub less_of : (a b : ℕ) → nat_lt a b ≡ true → a < b
less_of a b h = grind (arith, nat_tests)

left_below : (a b c : ℕ) → nat_lt a (min (b + c) (2 ^ 32 - 1)) ≡ true → c ≡ 0 → a < b
left_below a b c h k = let l = less_of a (min (b + c) (2 ^ 32 - 1)) h in omega (arith, l, k)

clash : true ≡ false → ⊥
clash h = cc h

-- the stations within aren't those two
pub apart_in : (t : Station) → is_within t ≡ true → station_number t ≢ station_number station.FeedIn
apart_in station.FeedIn h = absurd (clash (sym h))
apart_in station.DepEnd h = absurd (clash (sym h))
apart_in station.FeedEnd h = omega arith
apart_in station.Table h = omega arith
apart_in station.Arm1 h = omega arith
apart_in station.Arm2 h = omega arith
apart_in station.Press1 h = omega arith
apart_in station.Press2 h = omega arith
apart_in station.DepIn h = omega arith

pub apart_out : (t : Station) → is_within t ≡ true → station_number t ≢ station_number station.DepEnd
apart_out station.FeedIn h = absurd (clash (sym h))
apart_out station.DepEnd h = absurd (clash (sym h))
apart_out station.FeedEnd h = omega arith
apart_out station.Table h = omega arith
apart_out station.Arm1 h = omega arith
apart_out station.Arm2 h = omega arith
apart_out station.Press1 h = omega arith
apart_out station.Press2 h = omega arith
apart_out station.DepIn h = omega arith

pub apart_edges : station_number station.DepEnd ≢ station_number station.FeedIn
apart_edges = omega arith

pub apart_back : station_number station.FeedIn ≢ station_number station.DepEnd
apart_back = omega arith

-- one plate more lies at the beginning of the feed belt
abbrev with_new : Simulated → Simulated
with_new w = with_plate station.FeedIn (Some (new_plate (w.laid + 1))) (next_laid w)

laid_so : (w : Simulated) → is_feed_empty w ≡ true → has_plate w station.FeedIn ≡ false
    → laid_in (w.laid + 1) (is_feed_empty w) (next_laid w) ≡ with_new w
unfolding laid_in
laid_so w e h =
    ap (λ (b : Bool). laid_in (w.laid + 1) b (next_laid w)) e
    ∙ unless (has_plate w station.FeedIn) (record (next_laid w) { lost = counted w.lost }) (with_new w) h

-- so a plate that is laid in is one of the plan
still_planned : (J : List Entry) (p : Plan) (w : Simulated) → is_plate_left w ≡ true → w.laid ≡ admitted_in J
    → w.planned ≡ p.plates → lamp_of J belt.Feed ≡ colour.Green → (w.cleared ≡ 0) ⊎ GreenIsWanted J p
    → admitted_in J < p.plates
still_planned J p w l count planned g (inl h) =
    subst (λ (n : ℕ). n < p.plates) count
    (subst (λ (n : ℕ). w.laid < n) planned (left_below w.laid w.planned w.cleared l h))
still_planned J p w l count planned g (inr h) = h g

new_laid : (J : List Entry) (p : Plan) (w : Simulated) → IsPlain w → w.feed_light ≡ colour.Green
    → is_plate_left w ≡ true → has_plate w station.FeedIn ≡ false → LayingAsBooked J p w
    → NoneIsLaid J w ⊎ OneIsLaid J p w → OneIsLaid J p (with_new w)
new_laid J p w t g l n y (inr z) =
    let c : true ≡ false = sym (ap (λ (o : Option ℕ). is_some o) z.plate) ∙ n in cc c
new_laid J p w t g l n y (inl z) =
    record {
      green = sym y.light ∙ g;
      plate = ap number_of (here_now station.FeedIn (Some (new_plate (w.laid + 1))) (next_laid w) t.stations)
          ∙ ap (λ (k : ℕ). Some (k + 1)) z.count;
      count = ap (λ (k : ℕ). k + 1) z.count;
      planned = still_planned J p w l z.count y.planned (sym y.light ∙ g) y.sparing;
    }

new_elsewhere : (w : Simulated) (t : Station) → station_number t ≢ station_number station.FeedIn
    → plate_at (with_new w) t ≡ plate_at w t
new_elsewhere w t d =
    ap number_of (here_before station.FeedIn t (Some (new_plate (w.laid + 1))) (next_laid w) d)

laid_more : (J : List Entry) (p : Plan) (w : Simulated) → IsPlain w → StationsAsBooked J p w
    → (same_colour w.feed_light colour.Green && (is_plate_left w && (is_feed_empty w || w.is_trusting))) ≡ true
    → StationsAsBooked J p (laid_in (w.laid + 1) (is_feed_empty w) (next_laid w))
laid_more J p w t s h =
    let a = and_both (same_colour w.feed_light colour.Green) (is_plate_left w && (is_feed_empty w || w.is_trusting))
    h in
    let b = and_both (is_plate_left w) (is_feed_empty w || w.is_trusting) a.1 in
    let empty = or_first (is_feed_empty w) w.is_trusting b.1 s.laying.untrusting in
    let c = and_both (not (has_plate w station.FeedIn)) (not (has_plate w station.FeedEnd)) empty in
    let none = not_so (has_plate w station.FeedIn) c.0 in
    let green = colour_same w.feed_light colour.Green a.0 in
    subst (λ (v : Simulated). StationsAsBooked J p v) (sym (laid_so w empty none))
    (record {
      laying = record {
        light = s.laying.light;
        laid = inr (new_laid J p w t green b.0 none s.laying s.laying.laid);
        planned = s.laying.planned;
        sparing = s.laying.sparing;
        untrusting = refl;
        unexpected = s.laying.unexpected;
      };
      taking = takes_before J J w (with_new w)
          (record {
            lamp = refl;
            light = refl;
            there = λ g. new_elsewhere w station.DepEnd apart_edges;
            booked = λ k. new_elsewhere w station.DepEnd apart_edges ∙ k;
          }) s.taking;
      within = λ u k. new_elsewhere w u (apart_in u k) ∙ s.within u k;
    })

feed_hands : (J : List Entry) (p : Plan) (w : Simulated) → IsPlain w → StationsAsBooked J p w
    → StationsAsBooked J p (plate_laid w)
unfolding plate_laid
feed_hands J p w t s =
    by_test (λ (v : Simulated). StationsAsBooked J p v)
    (same_colour w.feed_light colour.Green && (is_plate_left w && (is_feed_empty w || w.is_trusting)))
    (laid_in (w.laid + 1) (is_feed_empty w) (next_laid w)) w (λ h. laid_more J p w t s h) (λ h. s)

-- the plate at the end of the deposit belt is taken out
abbrev with_taken : Simulated → Simulated
with_taken w =
    record (with_plate station.DepEnd None w) {
      taken_out = counted w.taken_out;
      last_taken_out = plate_at w station.DepEnd;
    }

taken_elsewhere : (w : Simulated) (t : Station) → station_number t ≢ station_number station.DepEnd
    → plate_at (with_taken w) t ≡ plate_at w t
taken_elsewhere w t d = ap number_of (here_before station.DepEnd t None w d)

taken_more : (J : List Entry) (p : Plan) (w : Simulated) → IsPlain w → StationsAsBooked J p w
    → (same_colour w.deposit_light colour.Green && has_plate w station.DepEnd) ≡ true
    → StationsAsBooked J p (with_taken w)
taken_more J p w t s h =
    let a = and_both (same_colour w.deposit_light colour.Green) (has_plate w station.DepEnd) h in
    record {
      laying = lays_before J J p w (with_taken w)
          (record {
            lamp = refl;
            admitted = refl;
            expected = refl;
            part = refl;
            there = λ g. taken_elsewhere w station.FeedIn apart_back;
            booked = λ k. taken_elsewhere w station.FeedIn apart_back ∙ k;
          }) s.laying;
      taking = record {
        light = s.taking.light;
        taken = inr (record {
          green = sym s.taking.light ∙ colour_same w.deposit_light colour.Green a.0;
          gone = ap number_of (here_now station.DepEnd None w t.stations);
        });
      };
      within = λ u k. taken_elsewhere w u (apart_out u k) ∙ s.within u k;
    }

deposit_hands : (J : List Entry) (p : Plan) (w : Simulated) → IsPlain w → StationsAsBooked J p w
    → StationsAsBooked J p (plate_taken w)
unfolding plate_taken
deposit_hands J p w t s =
    by_test (λ (v : Simulated). StationsAsBooked J p v)
    (same_colour w.deposit_light colour.Green && has_plate w station.DepEnd) (with_taken w) w
    (λ h. taken_more J p w t s h) (λ h. s)

-- what the operator lays in and takes leaves all stations as booked
pub hands_booked : (J : List Entry) (p : Plan) (m : Machine) (w : Simulated) → IsPlain w → StationsAsBooked J p w
    → StationsAsBooked J p (by_the_hands w m)
hands_booked J p machine.Feed w t s = feed_hands J p w t s
hands_booked J p machine.Deposit w t s = deposit_hands J p w t s
hands_booked J p m w t s = s
