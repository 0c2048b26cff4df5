-- Under its green light a belt's machine that books nothing sees the first of a sign's two readings
use Rattle.std.proofs.Common.{◌≡◌, ◌≤◌, ◌<◌, ◌+◌, ◌⊎◌, inl, inr, ℕ, Bool, true, false, ◌&&◌, ◌||◌, not, Option, Some}
use Rattle.std.proofs.Common.{None, List, length, refl, sym, ap, ◌∙◌, subst, arith}
use Rattle.std.specs.Prelude.{is_some, nat_le, nat_lt, min, ◌^◌, ◌-◌, if◌then◌else◌}
use Rattle.std.specs.Option.{option_map}
use Rattle.std.specs.List.{count_by}
use Rattle.std.proofs.lemmas.Bool.Decides.{nat_tests}
use Rattle.cell_types.specs.declared.words.Axis.TheVariants as axis
use Rattle.cell_types.specs.declared.words.Belt.{Belt}
use Rattle.cell_types.specs.declared.words.Belt.TheVariants as belt
use Rattle.cell_types.specs.declared.words.Colour.{Colour}
use Rattle.cell_types.specs.declared.words.Colour.TheVariants as colour
use Rattle.cell_types.specs.declared.words.Entry.{Entry}
use Rattle.cell_types.specs.declared.words.Entry.TheVariants.{Admitted, Delivered, Lamp}
use Rattle.cell_types.specs.declared.words.Machine.{Machine}
use Rattle.cell_types.specs.declared.words.Machine.TheVariants as machine
use Rattle.cell_types.specs.declared.words.Station.TheVariants as station
use Rattle.cell_types.specs.After.{Snapshot, after}
use Rattle.cell_types.specs.Cell.{machine_of_belt}
use Rattle.cell_types.specs.Limits.{max_plates}
use Rattle.cell_types.specs.Same.{same_colour}
use Rattle.cell_rules.specs.First.{first_true}
use Rattle.cell_rules.specs.Situations.{Situation}
use Rattle.cell_rules.specs.Views.{expected_of, is_admitted, lamp_of, plate_of}
use Rattle.cell_rules.specs.declared.limits.BookLimits.{BookLimits}
use Rattle.cell_rules.proofs.Safe.Told.{told_when_legal}
use Rattle.cell_diagnosis.specs.Readings.{bit}
use Rattle.cell_diagnosis.specs.declared.reading.Reading.{Reading}
use Rattle.cell_machines.specs.Lights.{deposit_light, feed_light, green_where}
use Rattle.cell_machines.specs.Room.{is_bookable}
use Rattle.cell_machines.specs.Useful.{is_useful_now}
use Rattle.cell_ports.specs.declared.plan.Plan.{Plan}
use Rattle.cell_turns.specs.Minds.{Mind}
use Rattle.cell_turns.specs.Observed.{axis_verdict}
use Rattle.cell_turns.specs.Rulings.{books, laid_in as ruled_in, signed}
use Rattle.cell_turns.specs.Signs.{shows_sign}
use Rattle.cell_turns.specs.Turns.{IsDecided, IsRuled}
use Rattle.cell_turns.specs.declared.turns.decide.Ruling.{Ruling}
use Rattle.cell_turns.specs.declared.turns.decide.Ruling.TheVariants.{Books, PastLast}
use Rattle.cell_useful.specs.Cells.{ample}
use Rattle.cell_progress.specs.Orders.{cell_of}
use Rattle.cell_workers.specs.Ends.{is_lit}
use Rattle.cell_sim.specs.declared.motion.Moving.{Moving}
use Rattle.cell_sim.specs.Parts.{axis_at, counted, has_plate, with_plate}
use Rattle.cell_sim.specs.Readings.{bit_if, is_feed_empty, is_plate_left, laid_in, new_plate, next_laid}
use Rattle.cell_sim.specs.Readings.{plate_laid, plate_taken, senses, senses_by, shown, shown_now}
use Rattle.cell_sim.specs.Simulated.{Simulated}
use Rattle.cell_world.specs.Agreeing.{has_belt}
use Rattle.cell_world.specs.Belts.{BeltRests, to_deposit_end, to_feed_end}
use Rattle.cell_world.specs.BeltTurning.{BeltAsBooked, StationsAsBooked, way_of}
use Rattle.cell_world.specs.Going.{IsPlain}
use Rattle.cell_world.specs.Laying.{NoneIsLaid, OneIsLaid, admitted_in}
use Rattle.cell_world.proofs.BeltAgrees.{shown_still}
use Rattle.cell_world.proofs.BeltReads.{nothing_noted, rests_by_hand}
use Rattle.cell_world.proofs.Laying.{less_of}
use Rattle.cell_world.proofs.Plates.{here_now, number_of}
use Rattle.cell_world.proofs.Steps.{unless}
use Rattle.cell_world.proofs.Turns.{Agreed, and_false, ruled_signed}
use Rattle.cell_calm.proofs.Decided.{none_useful}
use Rattle.cell_calm.proofs.Tame.{Tame}

pub record IsShown (J : List Entry) (m : Machine) (s : Mind) (r : Option Reading) : Type 0 where
  pub before : s.memory.sign ≡ false
  pub now : shows_sign J m r ≡ true

-- A GREEN LIGHT THAT ISN'T TO BE TURNED RED IS WANTED

green_of : (c : Colour) → same_colour c colour.Green ≡ true → c ≡ colour.Green
green_of colour.Green h = refl
green_of colour.Red h = cc

red_bookable : (s : Snapshot) (b : Belt) → s.failed (machine_of_belt b) ≡ false → s.lamp b ≡ colour.Green
    → is_bookable ample (cell_of s) (Lamp b colour.Red) ≡ true
unfolding is_bookable first_true
red_bookable s belt.Feed healthy green = rw (healthy, green) refl
red_bookable s belt.Deposit healthy green = rw (healthy, green) refl

still_green : (c : Colour) (ok : Bool) → ok ≡ true → (same_colour colour.Red c && ok) ≡ false → c ≡ colour.Green
still_green colour.Red ok h g = let x : true ≡ false = sym h ∙ g in cc x
still_green colour.Green ok h g = refl

green_if : (b : Bool) → green_where b ≡ colour.Green → b ≡ true
green_if true h = refl
green_if false h = cc

none_if : (o : Option ℕ) → not (is_some o) ≡ true → o ≡ None
none_if None h = refl
none_if (Some k) h = cc

third : (a b c d e : Bool) → (a && (b && (c && (d && e)))) ≡ true → (c ≡ true) × (d ≡ true)
third a b c d e h = (grind arith, grind arith)

last : (a b c : Bool) → (a && (b && c)) ≡ true → c ≡ true
last a b c h = grind arith

-- the feed machine's: its belt is empty
feed_wanted : (plan : ℕ) (s : Snapshot) → s.failed machine.Feed ≡ false → s.lamp belt.Feed ≡ colour.Green
    → is_useful_now ample (cell_of s) plan machine.Feed (Lamp belt.Feed colour.Red) ≡ false
    → (s.plate station.FeedIn ≡ None) × (s.plate station.FeedEnd ≡ None)
unfolding is_useful_now feed_light
feed_wanted plan s healthy green h =
    let c = cell_of s in
    let wanted = green_if _ (still_green (feed_light c plan) (is_bookable ample c (Lamp belt.Feed colour.Red))
    (red_bookable s belt.Feed healthy green) h) in
    let both = third _ _ (not (is_some (s.plate station.FeedIn))) (not (is_some (s.plate station.FeedEnd))) _ wanted in
    (none_if (s.plate station.FeedIn) both.0, none_if (s.plate station.FeedEnd) both.1)

-- the deposit machine's: a plate is at the end
deposit_wanted : (plan : ℕ) (s : Snapshot) → s.failed machine.Deposit ≡ false → s.lamp belt.Deposit ≡ colour.Green
    → is_useful_now ample (cell_of s) plan machine.Deposit (Lamp belt.Deposit colour.Red) ≡ false
    → is_some (s.plate station.DepEnd) ≡ true
unfolding is_useful_now deposit_light
deposit_wanted plan s healthy green h =
    let c = cell_of s in
    last _ _ (is_some (s.plate station.DepEnd))
    (green_if _ (still_green (deposit_light c) (is_bookable ample c (Lamp belt.Deposit colour.Red))
    (red_bookable s belt.Deposit healthy green) h))

-- WHAT THE HANDS DO THEN

when_so : {X : Type 0} (b : Bool) (x y : X) → b ≡ true → (if b then x else y) ≡ x
when_so true x y h = refl
when_so false x y h = cc

all_so : (g l e t : Bool) → g ≡ true → l ≡ true → e ≡ true → (g && (l && (e || t))) ≡ true
all_so g l e t h i j = rw (h, i, j) refl

not_so : (g l e t : Bool) → e ≡ false → t ≡ false → (g && (l && (e || t))) ≡ false
not_so g l e t h i = rw (h, i) (ap (λ (b : Bool). g && b) (and_false l) ∙ and_false g)

more_left : (a b c : ℕ) → a < b → b ≤ 100000 → nat_lt a (min (b + c) (2 ^ 32 - 1)) ≡ true
more_left a b c h g =
    let x : a < min (b + c) (2 ^ 32 - 1) = omega (arith, h, g) in
    less_so a (min (b + c) (2 ^ 32 - 1)) x
  where
    less_so : (n k : ℕ) → n < k → nat_lt n k ≡ true
    less_so n k i = grind (arith, nat_tests)

plate_then : (w : Simulated) → IsPlain w → is_feed_empty w ≡ true → has_plate w station.FeedIn ≡ false
    → has_plate (laid_in (w.laid + 1) (is_feed_empty w) (next_laid w)) station.FeedIn ≡ true
unfolding laid_in
plate_then w t e h =
    ap (λ (b : Bool). has_plate (laid_in (w.laid + 1) b (next_laid w)) station.FeedIn) e
    ∙ (ap (λ (v : Simulated). has_plate v station.FeedIn)
    (unless (has_plate w station.FeedIn) (record (next_laid w) { lost = counted w.lost })
    (with_plate station.FeedIn (Some (new_plate (w.laid + 1))) (next_laid w)) h)
    ∙ ap (λ o. is_some (number_of o))
    (here_now station.FeedIn (Some (new_plate (w.laid + 1))) (next_laid w) t.stations))

-- a plate lies at the beginning of the feed belt
feed_laid : (J : List Entry) (p : Plan) (w : Simulated) → IsPlain w → StationsAsBooked J p w
    → lamp_of J belt.Feed ≡ colour.Green → admitted_in J < p.plates → plate_of J station.FeedIn ≡ None
    → plate_of J station.FeedEnd ≡ None → NoneIsLaid J w ⊎ OneIsLaid J p w
    → has_plate (plate_laid w) station.FeedIn ≡ true
unfolding plate_laid
feed_laid J p w t st green few inside end (inr z) =
    let there : has_plate w station.FeedIn ≡ true = ap (λ (o : Option ℕ). is_some o) z.plate in
    let full : is_feed_empty w ≡ false = rw there refl in
    ap (λ (v : Simulated). has_plate v station.FeedIn)
    (unless (same_colour w.feed_light colour.Green && (is_plate_left w && (is_feed_empty w || w.is_trusting)))
    (laid_in (w.laid + 1) (is_feed_empty w) (next_laid w)) w
    (not_so (same_colour w.feed_light colour.Green) (is_plate_left w) (is_feed_empty w) w.is_trusting full
    st.laying.untrusting))
    ∙ there
feed_laid J p w t st green few inside end (inl z) =
    let none : has_plate w station.FeedIn ≡ false = ap (λ (o : Option ℕ). is_some o) (z.plate ∙ inside) in
    let gone : has_plate w station.FeedEnd ≡ false =
    ap (λ (o : Option ℕ). is_some o) (st.within station.FeedEnd refl ∙ end) in
    let empty : is_feed_empty w ≡ true = rw (none, gone) refl in
    let lit : same_colour w.feed_light colour.Green ≡ true =
    ap (λ (c : Colour). same_colour c colour.Green) (st.laying.light ∙ green) in
    let left : is_plate_left w ≡ true =
    ap (λ (n : ℕ). nat_lt n (min (w.planned + w.cleared) (2 ^ 32 - 1))) z.count
    ∙ (ap (λ (n : ℕ). nat_lt (admitted_in J) (min (n + w.cleared) (2 ^ 32 - 1))) st.laying.planned
    ∙ more_left (admitted_in J) p.plates w.cleared few p.plates_in_range.1) in
    ap (λ (v : Simulated). has_plate v station.FeedIn)
    (when_so (same_colour w.feed_light colour.Green && (is_plate_left w && (is_feed_empty w || w.is_trusting)))
    (laid_in (w.laid + 1) (is_feed_empty w) (next_laid w)) w
    (all_so (same_colour w.feed_light colour.Green) (is_plate_left w) (is_feed_empty w) w.is_trusting lit left empty))
    ∙ plate_then w t empty none

-- and none at the end of the deposit belt
deposit_taken : (J : List Entry) (w : Simulated) → IsPlain w → w.deposit_light ≡ colour.Green
    → (b : Bool) → has_plate w station.DepEnd ≡ b → has_plate (plate_taken w) station.DepEnd ≡ false
unfolding plate_taken
deposit_taken J w t green true h =
    let lit : (same_colour w.deposit_light colour.Green && has_plate w station.DepEnd) ≡ true = rw (green, h) refl in
    ap (λ (v : Simulated). has_plate v station.DepEnd)
    (when_so (same_colour w.deposit_light colour.Green && has_plate w station.DepEnd) _ w lit)
    ∙ ap (λ o. is_some (number_of o)) (here_now station.DepEnd None w t.stations)
deposit_taken J w t green false h =
    let unlit : (same_colour w.deposit_light colour.Green && has_plate w station.DepEnd) ≡ false = rw (green, h) refl in
    ap (λ (v : Simulated). has_plate v station.DepEnd)
    (unless (same_colour w.deposit_light colour.Green && has_plate w station.DepEnd) _ w unlit)
    ∙ h

-- WHAT IS SHOWN

first_bit : (a b c : Bool) → a ≡ true → bit (bit_if a 1 + (bit_if b 2 + bit_if c 4)) 0 ≡ true
unfolding bit
first_bit a true true h = rw h refl
first_bit a true false h = rw h refl
first_bit a false true h = rw h refl
first_bit a false false h = rw h refl

second_bit : (a b : Bool) → b ≡ false → bit (bit_if a 1 + bit_if b 2) 1 ≡ false
unfolding bit
second_bit true b h = rw h refl
second_bit false b h = rw h refl

feed_shows : (J : List Entry) (v : Simulated) → (axis_at v axis.FeedBelt).motion ≡ None
    → has_plate v station.FeedIn ≡ true → lamp_of J belt.Feed ≡ colour.Green
    → shows_sign J machine.Feed (Some (shown_now v machine.Feed)) ≡ true
feed_shows J v still full green =
    let senses_it : senses v axis.FeedBelt station.FeedIn ≡ true =
    ap (λ (o : Option Moving). senses_by v o station.FeedIn) still ∙ full in
    let seen = first_bit (senses v axis.FeedBelt station.FeedIn) (senses v axis.FeedBelt station.FeedEnd)
    (senses v axis.FeedBelt station.Table) senses_it in
    rw (seen, green) refl

deposit_shows : (J : List Entry) (v : Simulated) → (axis_at v axis.DepositBelt).motion ≡ None
    → has_plate v station.DepEnd ≡ false → lamp_of J belt.Deposit ≡ colour.Green
    → shows_sign J machine.Deposit (Some (shown_now v machine.Deposit)) ≡ true
deposit_shows J v still none green =
    let senses_none : senses v axis.DepositBelt station.DepEnd ≡ false =
    ap (λ (o : Option Moving). senses_by v o station.DepEnd) still ∙ none in
    let seen = second_bit (senses v axis.DepositBelt station.DepIn) (senses v axis.DepositBelt station.DepEnd)
    senses_none in
    rw (seen, green) refl

-- AND THE SIGN IS THE FIRST

-- a second one is booked
feed_books : (l : BookLimits) (J : List Entry) (plates : ℕ) → expected_of J ≡ None
    → IsRuled l J machine.Feed plates (signed J machine.Feed) None → ⊥
feed_books l J plates none h =
    go (nat_lt max_plates (count_by is_admitted J + 1))
    (subst (λ (o : Option ℕ). IsRuled l J machine.Feed plates (ruled_in o (count_by is_admitted J + 1)) None) none h)
  where
    go : (b : Bool)
        → IsRuled l J machine.Feed plates (if b then PastLast else Books (Admitted (count_by is_admitted J + 1))) None
        → ⊥
    go true h = h
    go false h = cc h

deposit_books : (l : BookLimits) (J : List Entry) (plates : ℕ) (o : Option ℕ) → is_some o ≡ true
    → IsRuled l J machine.Deposit plates (books (option_map (λ k. Delivered k) o)) None → ⊥
deposit_books l J plates None h g = cc h
deposit_books l J plates (Some k) h g = cc g

first_sign : (s : Mind) (b : Bool) → s.memory.sign ≡ b → (s.memory.sign ≡ true → ⊥) → s.memory.sign ≡ false
first_sign s true h none = absurd (none h)
first_sign s false h none = h

module _ (may : Machine → Bool) (l : BookLimits) (J : List Entry) (p : Plan) (s : Mind) (w : Simulated)
    (c : Tame may l p.plates J) (st : StationsAsBooked J p w) (room : nat_le l.entries (length J) ≡ false) where
  ruled_by : (m : Machine) → BeltAsBooked J p m s w → BeltRests J (way_of m) s.axis w → has_belt m ≡ true
      → Agreed J m s (shown w m) → IsDecided l J m p s (shown w m) None → shows_sign J m (shown w m) ≡ true
      → s.memory.sign ≡ true → IsRuled l J m p.plates (signed J m) None
  ruled_by machine.Feed t rests b agreed decided now before =
      let r = shown w machine.Feed in
      subst (λ (k : Ruling). IsRuled l J machine.Feed p.plates k None)
      (ruled_signed J p machine.Feed s r t (rw (before, now) refl)
      (ap axis_verdict (nothing_noted J p to_feed_end s.axis w r rests)) agreed) decided
  ruled_by machine.Deposit t rests b agreed decided now before =
      let r = shown w machine.Deposit in
      subst (λ (k : Ruling). IsRuled l J machine.Deposit p.plates k None)
      (ruled_signed J p machine.Deposit s r t (rw (before, now) refl)
      (ap axis_verdict (nothing_noted J p to_deposit_end s.axis w r rests)) agreed) decided
  ruled_by m t rests b agreed decided now before = cc b

  feed_sign : BeltAsBooked J p machine.Feed s w → BeltRests J to_feed_end s.axis w
      → Agreed J machine.Feed s (shown w machine.Feed) → IsDecided l J machine.Feed p s (shown w machine.Feed) None
      → lamp_of J belt.Feed ≡ colour.Green → IsShown J machine.Feed s (shown w machine.Feed)
  feed_sign t rests agreed decided green =
      let told = told_when_legal l J c.legal in
      let a = after J in
      let lamp : a.lamp belt.Feed ≡ colour.Green = sym (ap (λ (x : Situation). x.lamp belt.Feed) told.cell) ∙ green in
      let free = feed_wanted p.plates a (sym (ap (λ (x : Situation). x.failed machine.Feed) told.cell) ∙ t.healthy)
      lamp (none_useful may l p J c machine.Feed s (shown w machine.Feed) (Lamp belt.Feed colour.Red) room decided) in
      let few : admitted_in J < p.plates =
      less_of (admitted_in J) p.plates
      (ap (λ (x : Situation). nat_lt x.admitted p.plates) told.cell
      ∙ c.still.green (ap (λ (x : Colour). same_colour x colour.Green) lamp)) in
      let full = feed_laid J p w rests.plain st green few
      (ap (λ (x : Situation). x.plate station.FeedIn) told.cell ∙ free.0)
      (ap (λ (x : Situation). x.plate station.FeedEnd) told.cell ∙ free.1) st.laying.laid in
      let still = (rests_by_hand J to_feed_end s.axis w rests).still in
      let now = ap (λ (r : Option Reading). shows_sign J machine.Feed r) (shown_still to_feed_end w still)
      ∙ feed_shows J (plate_laid w) still full green in
      record {
        before = first_sign s s.memory.sign refl (λ yes. feed_books l J p.plates st.laying.unexpected
            (ruled_by machine.Feed t rests refl agreed decided now yes));
        now = now;
      }

  deposit_sign : BeltAsBooked J p machine.Deposit s w → BeltRests J to_deposit_end s.axis w
      → Agreed J machine.Deposit s (shown w machine.Deposit)
      → IsDecided l J machine.Deposit p s (shown w machine.Deposit) None
      → lamp_of J belt.Deposit ≡ colour.Green → IsShown J machine.Deposit s (shown w machine.Deposit)
  deposit_sign t rests agreed decided green =
      let told = told_when_legal l J c.legal in
      let a = after J in
      let lamp : a.lamp belt.Deposit ≡ colour.Green =
      sym (ap (λ (x : Situation). x.lamp belt.Deposit) told.cell) ∙ green in
      let full = deposit_wanted p.plates a
      (sym (ap (λ (x : Situation). x.failed machine.Deposit) told.cell) ∙ t.healthy) lamp
      (none_useful may l p J c machine.Deposit s (shown w machine.Deposit) (Lamp belt.Deposit colour.Red) room
      decided) in
      let none = deposit_taken J w rests.plain (st.taking.light ∙ green) (has_plate w station.DepEnd) refl in
      let still = (rests_by_hand J to_deposit_end s.axis w rests).still in
      let now = ap (λ (r : Option Reading). shows_sign J machine.Deposit r) (shown_still to_deposit_end w still)
      ∙ deposit_shows J (plate_taken w) still none green in
      record {
        before = first_sign s s.memory.sign refl (λ yes. deposit_books l J p.plates (plate_of J station.DepEnd)
            (ap (λ (x : Situation). is_some (x.plate station.DepEnd)) told.cell ∙ full)
            (ruled_by machine.Deposit t rests refl agreed decided now yes));
        now = now;
      }

  pub sign_shown : (m : Machine) → has_belt m ≡ true → BeltAsBooked J p m s w → BeltRests J (way_of m) s.axis w
      → Agreed J m s (shown w m) → IsDecided l J m p s (shown w m) None → is_lit J m ≡ true → IsShown J m s (shown w m)
  sign_shown machine.Feed b t rests agreed decided lit =
      feed_sign t rests agreed decided (green_of (lamp_of J belt.Feed) lit)
  sign_shown machine.Deposit b t rests agreed decided lit =
      deposit_sign t rests agreed decided (green_of (lamp_of J belt.Deposit) lit)
  sign_shown m b t rests agreed decided lit = cc b
