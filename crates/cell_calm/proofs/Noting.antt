-- How long a machine may take until it books something, and that each turn that books nothing shortens it
use Rattle.std.proofs.Common.{◌≡◌, ◌≤◌, ◌+◌, ◌⊎◌, inl, inr, ℕ, Bool, true, false, ◌&&◌, ◌||◌, not, Option}
use Rattle.std.proofs.Common.{Some, None, List, [], ◌∷◌, length, refl, sym, ap, ◌∙◌, subst, arith, length-append}
use Rattle.std.specs.Prelude.{◌-◌, if◌then◌else◌, is_none}
use Rattle.std.specs.Option.{option_map}
use Rattle.std.proofs.lemmas.List.{length-replicate}
use Rattle.cell_types.specs.declared.words.Entry.{Entry}
use Rattle.cell_types.specs.declared.words.Machine.{Machine}
use Rattle.cell_rules.specs.Views.{is_failed}
use Rattle.cell_diagnosis.specs.declared.motion.Motion.{Motion}
use Rattle.cell_diagnosis.specs.declared.reading.Reading.{Reading}
use Rattle.cell_diagnosis.specs.Readings.{no_bits, seen}
use Rattle.cell_diagnosis.specs.RestFacts.{agrees, noted}
use Rattle.cell_diagnosis.specs.Ends.{last_are}
use Rattle.cell_diagnosis.proofs.EndLaws.{one_snoc}
use Rattle.cell_ports.specs.declared.plan.Plan.{Plan}
use Rattle.cell_turns.specs.Expected.{expected_of}
use Rattle.cell_turns.specs.Following.{Following}
use Rattle.cell_turns.specs.Minds.{Mind, is_quiet}
use Rattle.cell_turns.specs.Moving.{motion_of_machine}
use Rattle.cell_turns.specs.Observed.{axis_noted, followed, rest_noted, with_reading}
use Rattle.cell_turns.specs.Signs.{shows_sign}
use Rattle.cell_turns.specs.Turns.{mind_after}
use Rattle.cell_turns.specs.Visits.{is_unvisited}
use Rattle.cell_workers.specs.Ends.{is_idle, is_lit}
use Rattle.cell_world.specs.Failing.{count_noted}
use Rattle.cell_world.specs.Tied.{Given, none, one, more, further_of, noted_of}
use Rattle.cell_world.proofs.Steps.{followed_as, readings_of}
use Rattle.cell_world.proofs.Turns.{and_false}

-- HOW LONG

-- where a motion takes at most so many readings, at most so many turns of its machine are yet to book nothing: while it
-- moves, as many as readings are left but one; under its green light, until the second sign; and none where it is idle,
-- or was declared failed
abbrev pub due_by : ℕ → Bool → Option Motion → Bool → Mind → ℕ
due_by most true o lit s = 0
due_by most false (Some motion) lit s = most - (count_noted s.axis + 1)
due_by most false None true s = if s.memory.sign then 1 else 2
due_by most false None false s = 0

abbrev pub due : ℕ → List Entry → Plan → Machine → Mind → ℕ
due most J p m s = due_by most (is_failed J m) (motion_of_machine J p m) (is_lit J m) s

due_is : (most : ℕ) (J : List Entry) (p : Plan) (m : Machine) (s : Mind) (failed : Bool) (o : Option Motion)
    (lit : Bool) → is_failed J m ≡ failed → motion_of_machine J p m ≡ o → is_lit J m ≡ lit
    → due most J p m s ≡ due_by most failed o lit s
due_is most J p m s failed o lit h g q =
    ap (λ (b : Bool). due_by most b (motion_of_machine J p m) (is_lit J m) s) h
    ∙ (ap (λ (x : Option Motion). due_by most failed x (is_lit J m) s) g
    ∙ ap (λ (b : Bool). due_by most failed o b s) q)

within_by : (most : ℕ) (failed : Bool) (o : Option Motion) (lit : Bool) (s : Mind) (sign : Bool)
    → s.memory.sign ≡ sign → 3 ≤ most → due_by most failed o lit s + 1 ≤ most
within_by most true o lit s sign h g = omega (arith, g)
within_by most false (Some motion) lit s sign h g = omega (arith, g)
within_by most false None true s true h g = rw h (omega (arith, g))
within_by most false None true s false h g = rw h g
within_by most false None false s sign h g = omega (arith, g)

pub due_within : (most : ℕ) (J : List Entry) (p : Plan) (m : Machine) (s : Mind) → 3 ≤ most
    → due most J p m s + 1 ≤ most
due_within most J p m s h =
    within_by most (is_failed J m) (motion_of_machine J p m) (is_lit J m) s s.memory.sign refl h

-- a turn that booked nothing: less is due than before, or the machine is idle, and nothing is due
abbrev pub Quickens : ℕ → List Entry → Plan → Machine → Mind → Mind → Type 0
Quickens most J p m s t =
    (due most J p m t + 1 ≤ due most J p m s) ⊎ ((is_idle J m p t ≡ true) × (due most J p m t ≡ 0))

-- WHAT A TURN THAT BOOKED NOTHING LEAVES

axis_next : (J : List Entry) (m : Machine) (p : Plan) (s : Mind) (r : Option Reading) → s.memory.failed ≡ false
    → (mind_after J m p s r None).axis ≡ axis_noted J m p s.axis r
unfolding mind_after
axis_next J m p s r h = rw h refl

pub rest_next : (J : List Entry) (m : Machine) (p : Plan) (s : Mind) (r : Option Reading) → s.memory.failed ≡ false
    → (mind_after J m p s r None).rest ≡ rest_noted J m s.memory s.rest r
unfolding mind_after
rest_next J m p s r h = rw h refl

sign_next : (J : List Entry) (m : Machine) (p : Plan) (s : Mind) (r : Option Reading) → s.memory.failed ≡ false
    → (mind_after J m p s r None).memory.sign ≡ (not s.memory.sign && shows_sign J m r)
unfolding mind_after
sign_next J m p s r h = rw h refl

-- it is quiet if its reading agreed, and showed no sign
pub quiet_next : (J : List Entry) (m : Machine) (p : Plan) (s : Mind) (r : Option Reading) → s.memory.failed ≡ false
    → agrees (noted m (expected_of J m (is_unvisited J m s.memory)) r) ≡ true → shows_sign J m r ≡ false
    → is_quiet (mind_after J m p s r None) ≡ true
quiet_next J m p s r h agreed unsigned =
    let t = mind_after J m p s r None in
    let last : last_are 1 agrees t.rest ≡ true = ap (last_are 1 agrees) (rest_next J m p s r h)
    ∙ (one_snoc agrees s.rest (noted m (expected_of J m (is_unvisited J m s.memory)) r) ∙ agreed) in
    let shut : t.memory.sign ≡ false = sign_next J m p s r h
    ∙ (ap (λ (b : Bool). not s.memory.sign && b) unsigned ∙ and_false (not s.memory.sign)) in
    rw (last, shut) refl

-- and idle then, if it doesn't move and its light isn't green
pub idle_quickens : (most : ℕ) (J : List Entry) (p : Plan) (m : Machine) (s t : Mind) → is_failed J m ≡ false
    → motion_of_machine J p m ≡ None → is_lit J m ≡ false → is_quiet t ≡ true → Quickens most J p m s t
idle_quickens most J p m s t healthy still unlit quiet =
    inr (idle_by (is_failed J m) still unlit quiet, due_is most J p m t false None false healthy still unlit)
  where
    idle_by : (failed : Bool) → motion_of_machine J p m ≡ None → is_lit J m ≡ false → is_quiet t ≡ true
        → (failed || (is_none (motion_of_machine J p m) && (not (is_lit J m) && is_quiet t))) ≡ true
    idle_by true h g q = refl
    idle_by false h g q = rw (h, g, q) refl

-- so it is once it was declared failed
pub failed_quickens : (most : ℕ) (J : List Entry) (p : Plan) (m : Machine) (s t : Mind) → is_failed J m ≡ true
    → Quickens most J p m s t
failed_quickens most J p m s t failed =
    inr (
      ap (λ (b : Bool). b || (is_none (motion_of_machine J p m) && (not (is_lit J m) && is_quiet t))) failed,
      due_is most J p m t true (motion_of_machine J p m) (is_lit J m) failed refl refl,
    )

-- WHILE IT MOVES

noted_so : (mo : Motion) (g : Given) → count_noted (noted_of mo g) ≡ length (readings_of mo g)
noted_so mo (none n) = refl
noted_so mo (one n) = refl
noted_so mo (more n k) = refl

noted_few : (mo : Motion) (g : Given) (limit : ℕ) → further_of g + 3 ≤ limit
    → count_noted (noted_of mo g) + 1 ≤ limit
noted_few mo (none n) limit h = omega (arith, h)
noted_few mo (one n) limit h = omega (arith, h)
noted_few mo (more n k) limit h = let long = length-replicate n (Some no_bits) in omega (arith, h, long)

one_noted : (J : List Entry) (p : Plan) (m : Machine) (s : Mind) (r : Option Reading) (mo : Motion) (g : Given)
    → motion_of_machine J p m ≡ Some mo → s.axis ≡ noted_of mo g
    → count_noted (axis_noted J m p s.axis r) ≡ count_noted s.axis + 1
one_noted J p m s r mo g moves was =
    let now : axis_noted J m p s.axis r ≡ Some (with_reading r (record { motion = mo; readings = readings_of mo g })) =
    ap (λ (f : Option Following). option_map (with_reading r) (followed f (motion_of_machine J p m))) was
    ∙ (ap (λ (o : Option Motion). option_map (with_reading r) (followed (noted_of mo g) o)) moves
    ∙ ap (option_map (with_reading r)) (followed_as mo g)) in
    ap count_noted now
    ∙ (length-append (readings_of mo g) (seen mo r ∷ [])
    ∙ ap (λ (n : ℕ). n + 1) (sym (ap count_noted was ∙ noted_so mo g)))

-- one reading more was noted, and its limit isn't reached
pub moving_quickens : (most : ℕ) (J : List Entry) (p : Plan) (m : Machine) (s t : Mind) (mo : Motion)
    → is_failed J m ≡ false → motion_of_machine J p m ≡ Some mo → count_noted t.axis ≡ count_noted s.axis + 1
    → count_noted t.axis + 1 ≤ most → Quickens most J p m s t
moving_quickens most J p m s t mo healthy moves longer few =
    let before = due_is most J p m s false (Some mo) (is_lit J m) healthy moves refl in
    let behind = due_is most J p m t false (Some mo) (is_lit J m) healthy moves refl in
    inl (omega (arith, longer, few, before, behind))

pub going_quickens : (most : ℕ) (J : List Entry) (p : Plan) (m : Machine) (s : Mind) (r : Option Reading)
    (mo mo' : Motion) (g g' : Given) → is_failed J m ≡ false → s.memory.failed ≡ false
    → motion_of_machine J p m ≡ Some mo → s.axis ≡ noted_of mo g → (mind_after J m p s r None).axis ≡ noted_of mo' g'
    → further_of g' + 3 ≤ most → Quickens most J p m s (mind_after J m p s r None)
going_quickens most J p m s r mo mo' g g' healthy h moves was now bound =
    let t = mind_after J m p s r None in
    moving_quickens most J p m s t mo healthy moves
    (ap count_noted (axis_next J m p s r h) ∙ one_noted J p m s r mo g moves was)
    (subst (λ (f : Option Following). count_noted f + 1 ≤ most) (sym now) (noted_few mo' g' most bound))

-- UNDER ITS GREEN LIGHT

-- the first sign was shown
pub lit_quickens : (most : ℕ) (J : List Entry) (p : Plan) (m : Machine) (s : Mind) (r : Option Reading)
    → is_failed J m ≡ false → s.memory.failed ≡ false → motion_of_machine J p m ≡ None → is_lit J m ≡ true
    → s.memory.sign ≡ false → shows_sign J m r ≡ true → Quickens most J p m s (mind_after J m p s r None)
lit_quickens most J p m s r healthy h still lit none_yet shown_now =
    let t = mind_after J m p s r None in
    let open_now : t.memory.sign ≡ true = sign_next J m p s r h
    ∙ (ap (λ (b : Bool). not b && shows_sign J m r) none_yet ∙ shown_now) in
    let two : due most J p m s ≡ 2 = due_is most J p m s false None true healthy still lit
    ∙ ap (λ (b : Bool). if b then 1 else 2) none_yet in
    let last : due most J p m t ≡ 1 = due_is most J p m t false None true healthy still lit
    ∙ ap (λ (b : Bool). if b then 1 else 2) open_now in
    inl (omega (arith, two, last))
