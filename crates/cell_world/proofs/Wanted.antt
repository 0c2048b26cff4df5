-- The feed light is turned green only while plates of the plan aren't admitted yet
use Rattle.std.proofs.Common.{◌≡◌, ◌<◌, ℕ, Bool, true, false, ◌&&◌, Option, Some, None, List, ◌∷◌, ◌++◌, refl, sym}
use Rattle.std.proofs.Common.{◌∙◌, subst, if◌then◌else◌}
use Rattle.std.proofs.lemmas.List.{append-nil}
use Rattle.std.specs.Option.{option_map}
use Rattle.std.specs.Prelude.{nat_lt, option_to_list}
use Rattle.cell_types.specs.declared.words.Axis.{Axis}
use Rattle.cell_types.specs.declared.words.Belt.{Belt}
use Rattle.cell_types.specs.declared.words.Belt.TheVariants as belt
use Rattle.cell_types.specs.declared.words.Cause.TheVariants as cause
use Rattle.cell_types.specs.declared.words.Colour.{Colour}
use Rattle.cell_types.specs.declared.words.Colour.TheVariants as colour
use Rattle.cell_types.specs.declared.words.Entry.{Entry}
use Rattle.cell_types.specs.declared.words.Entry.TheVariants.{Admitted, Arrived as ArrivedAt, Declared, Delivered}
use Rattle.cell_types.specs.declared.words.Entry.TheVariants.{Forged}
use Rattle.cell_types.specs.declared.words.Entry.TheVariants.{Lamp, Reinstated}
use Rattle.cell_types.specs.declared.words.Machine.{Machine}
use Rattle.cell_types.specs.declared.words.Machine.TheVariants as machine
use Rattle.cell_types.specs.declared.words.Pose.{Pose}
use Rattle.cell_types.specs.declared.words.Pose.TheVariants as pose
use Rattle.cell_types.specs.declared.words.Station.TheVariants as station
use Rattle.cell_types.specs.declared.cell.BeltMotion.{BeltMotion}
use Rattle.cell_types.specs.declared.cell.Press.{Press}
use Rattle.cell_types.specs.Cell.{home, machine_of_axis, motion_named, press_of}
use Rattle.cell_types.specs.Limits.{max_plates}
use Rattle.cell_types.specs.Same.{same_colour, same_machine, same_pose}
use Rattle.cell_rules.specs.declared.limits.BookLimits.{BookLimits}
use Rattle.cell_rules.specs.Last.{when}
use Rattle.cell_rules.specs.Situations.{situation_of}
use Rattle.cell_rules.specs.Views.{expected_of, is_admitted, is_asked, is_failed, plate_of, shows}
use Rattle.cell_diagnosis.specs.declared.motion.Motion.{Motion}
use Rattle.cell_diagnosis.specs.declared.reading.Reading.{Reading}
use Rattle.cell_diagnosis.specs.declared.verdict.Verdict.{Verdict}
use Rattle.cell_diagnosis.specs.declared.verdict.Verdict.TheVariants.{Arrived, Fault, Pending}
use Rattle.cell_machines.specs.Lights.{feed_light}
use Rattle.cell_machines.specs.Useful.{wants}
use Rattle.cell_ports.specs.declared.plan.Plan.{Plan}
use Rattle.cell_turns.specs.declared.turns.decide.Ruling.{Ruling}
use Rattle.cell_turns.specs.declared.turns.decide.Ruling.TheVariants.{Books, Nothing, PastLast, Proposes}
use Rattle.cell_turns.specs.Minds.{Mind}
use Rattle.cell_turns.specs.Observed.{findings}
use Rattle.cell_turns.specs.Rulings.{arrived, books, declares, end_found, ended, ending, fault_found}
use Rattle.cell_turns.specs.Rulings.{first_ruling, forged, laid_in, ruling, signed}
use Rattle.cell_turns.specs.Turns.{IsDecided, IsRuled}
use Rattle.cell_world.specs.Laying.{GreenIsWanted}
use Rattle.cell_world.specs.Starting.{one_more}
use Rattle.cell_world.proofs.BeltLamps.{green_wanted}
use Rattle.cell_world.proofs.Laying.{admitted_before, lamp_before, lamp_now}
use Rattle.cell_world.proofs.Turns.{proposed_wants}

-- NO RULING TURNS A LIGHT

abbrev Plainly : Entry → Type 0
Plainly (Lamp b c) = ⊥
Plainly x = Unit {0}

abbrev Dark : Ruling → Type 0
Dark (Books x) = Plainly x
Dark k = Unit {0}

abbrev AreDark : Option Ruling → Type 0
AreDark None = Unit {0}
AreDark (Some k) = Dark k

dark_first : (o : Option Ruling) (points : List (Option Ruling)) → AreDark o → Dark (first_ruling points)
    → Dark (first_ruling (o ∷ points))
dark_first None points h k = k
dark_first (Some x) points h k = h

dark_when : (b : Bool) (k : Ruling) → Dark k → AreDark (when b k)
dark_when true k h = h
dark_when false k h = tt

dark_fault : (m : Machine) (v : Verdict) → AreDark (fault_found m v)
dark_fault m (Fault why) = tt
dark_fault m v = tt

abbrev ArePlain : Option Entry → Type 0
ArePlain None = Unit {0}
ArePlain (Some x) = Plainly x

plain_map : (f : ℕ → Entry) (o : Option ℕ) → ((k : ℕ) → Plainly (f k)) → ArePlain (option_map f o)
plain_map f None h = tt
plain_map f (Some k) h = h k

plain_arrived : (a : Axis) (to : Pose) (b : Bool) → same_pose (home a) pose.Rest ≡ b → ArePlain (arrived a to)
plain_arrived a to true e = subst (λ (x : Bool). ArePlain (if x then None else Some (ArrivedAt a to))) (sym e) tt
plain_arrived a to false e = subst (λ (x : Bool). ArePlain (if x then None else Some (ArrivedAt a to))) (sym e) tt

plain_press : (J : List Entry) (a : Axis) (to : Pose) (x : Press) (b : Bool)
    → ArePlain (if b then forged J x else arrived a to)
plain_press J a to x true = plain_map (λ k. Forged x.machine k) (plate_of J x.station) (λ k. tt)
plain_press J a to x false = plain_arrived a to (same_pose (home a) pose.Rest) refl

plain_ended : (J : List Entry) (a : Axis) (to : Pose) (b : Option BeltMotion) (x : Option Press)
    → ArePlain (ended J a to b x)
plain_ended J a to (Some c) x = plain_map _ (plate_of J c.from) (λ k. tt)
plain_ended J a to None (Some x) = plain_press J a to x (same_pose to pose.Top)
plain_ended J a to None None = plain_arrived a to (same_pose (home a) pose.Rest) refl

dark_books : (o : Option Entry) → ArePlain o → Dark (books o)
dark_books None h = tt
dark_books (Some x) h = h

dark_end : (J : List Entry) (o : Option Motion) (v : Verdict) → AreDark (end_found J o v)
dark_end J None v = tt
dark_end J (Some n) Arrived =
    dark_books (ending J n.axis n.to)
    (plain_ended J n.axis n.to (motion_named n.axis n.to) (press_of (machine_of_axis n.axis)))
dark_end J (Some n) Pending = tt
dark_end J (Some n) (Fault why) = tt

dark_next : (k : ℕ) (b : Bool) → Dark (if b then PastLast else Books (Admitted k))
dark_next k true = tt
dark_next k false = tt

dark_laid : (o : Option ℕ) (k : ℕ) → Dark (laid_in o k)
dark_laid None k = dark_next k (nat_lt max_plates k)
dark_laid (Some j) k = tt

dark_signed : (J : List Entry) (m : Machine) → Dark (signed J m)
dark_signed J machine.Feed = dark_laid (expected_of J) _
dark_signed J machine.Deposit =
    dark_books (option_map (λ k. Delivered k) (plate_of J station.DepEnd))
    (plain_map (λ k. Delivered k) (plate_of J station.DepEnd) (λ k. tt))
dark_signed J m = tt

dark_ruling : (J : List Entry) (m : Machine) (p : Plan) (s : Mind) (r : Option Reading) → Dark (ruling J m p s r)
unfolding ruling
dark_ruling J m p s r =
    let f = findings J m p s r in
    dark_first (when (is_failed J m) Nothing) _ (dark_when (is_failed J m) Nothing tt)
    (dark_first (when s.memory.command_failed (declares m cause.CommandFault)) _
    (dark_when s.memory.command_failed (declares m cause.CommandFault) tt)
    (dark_first (when (is_asked J m) (declares m cause.OperatorStop)) _
    (dark_when (is_asked J m) (declares m cause.OperatorStop) tt)
    (dark_first (when s.memory.failed Proposes) _ (dark_when s.memory.failed Proposes tt)
    (dark_first (fault_found m f.at_axis) _ (dark_fault m f.at_axis)
    (dark_first (fault_found m f.at_rest) _ (dark_fault m f.at_rest)
    (dark_first (end_found J f.motion f.at_axis) _ (dark_end J f.motion f.at_axis)
    (dark_first (when (s.memory.sign && f.sign) (signed J m)) _
    (dark_when (s.memory.sign && f.sign) (signed J m) (dark_signed J m)) tt)))))))

-- a lamp is turned only where that is useful
lamp_useful : (l : BookLimits) (J : List Entry) (m : Machine) (n : ℕ) (k : Ruling) (b : Belt) (c : Colour) → Dark k
    → IsRuled l J m n k (Some (Lamp b c)) → IsRuled l J m n Proposes (Some (Lamp b c))
lamp_useful l J m n Nothing b c d h = let x : Some (Lamp b c) ≡ None = h in cc x
lamp_useful l J m n (Books x) b c d h =
    let e : Lamp b c ≡ x = let y : Some (Lamp b c) ≡ Some x = h in cc y in
    absurd (subst Plainly (sym e) d)
lamp_useful l J m n PastLast b c d h = absurd h
lamp_useful l J m n Proposes b c d h = h

-- WHAT A TURN LEAVES

green_same : (c : Colour) → same_colour colour.Green c ≡ true → c ≡ colour.Green
green_same colour.Green h = refl
green_same colour.Red h = cc h

turned_wants : (l : BookLimits) (J : List Entry) (p : Plan) (m : Machine) (s : Mind) (r : Option Reading)
    → IsDecided l J m p s r (Some (Lamp belt.Feed colour.Green))
    → wants l (situation_of J) p.plates m (Lamp belt.Feed colour.Green) ≡ true
turned_wants l J p m s r d =
    proposed_wants l J p.plates m (Lamp belt.Feed colour.Green)
    (lamp_useful l J m p.plates (ruling J m p s r) belt.Feed colour.Green (dark_ruling J m p s r) d)

turned_green : (l : BookLimits) (J : List Entry) (p : Plan) (m : Machine) (s : Mind) (r : Option Reading)
    → IsDecided l J m p s r (Some (Lamp belt.Feed colour.Green))
    → feed_light (situation_of J) p.plates ≡ colour.Green
turned_green l J p machine.Feed s r d =
    green_same (feed_light (situation_of J) p.plates) (turned_wants l J p machine.Feed s r d)
turned_green l J p machine.Table s r d = let c : false ≡ true = turned_wants l J p machine.Table s r d in cc c
turned_green l J p machine.Robot s r d = let c : false ≡ true = turned_wants l J p machine.Robot s r d in cc c
turned_green l J p machine.Press1 s r d = let c : false ≡ true = turned_wants l J p machine.Press1 s r d in cc c
turned_green l J p machine.Press2 s r d = let c : false ≡ true = turned_wants l J p machine.Press2 s r d in cc c
turned_green l J p machine.Deposit s r d = let c : false ≡ true = turned_wants l J p machine.Deposit s r d in cc c

-- an entry that says nothing of the light and admits no plate
pub wanted_more : (J : List Entry) (p : Plan) (x : Entry) → shows belt.Feed x ≡ None → is_admitted x ≡ false
    → GreenIsWanted J p → GreenIsWanted (one_more J x) p
wanted_more J p x s a f g =
    subst (λ (n : ℕ). n < p.plates) (sym (admitted_before J x a)) (f (sym (lamp_before J x belt.Feed s) ∙ g))

-- one that turns it red
wanted_red : (J : List Entry) (p : Plan) (x : Entry) → shows belt.Feed x ≡ Some colour.Red
    → GreenIsWanted (one_more J x) p
wanted_red J p x s g =
    let c : colour.Red ≡ colour.Green = sym (lamp_now J x belt.Feed colour.Red s) ∙ g in cc c

wanted_declared : (J : List Entry) (p : Plan) (x : Entry) (b : Bool) → shows belt.Feed x ≡ when b colour.Red
    → is_admitted x ≡ false → GreenIsWanted J p → GreenIsWanted (one_more J x) p
wanted_declared J p x true s a f = wanted_red J p x s
wanted_declared J p x false s a f = wanted_more J p x s a f

wanted_entry : (l : BookLimits) (J : List Entry) (p : Plan) (m : Machine) (s : Mind) (r : Option Reading) (x : Entry)
    → IsDecided l J m p s r (Some x) → expected_of J ≡ None → GreenIsWanted J p → GreenIsWanted (one_more J x) p
wanted_entry l J p m s r (Lamp belt.Feed colour.Green) d none f =
    λ g. subst (λ (n : ℕ). n < p.plates) (sym (admitted_before J (Lamp belt.Feed colour.Green) refl))
    (green_wanted J p none (turned_green l J p m s r d))
wanted_entry l J p m s r (Lamp belt.Feed colour.Red) d none f = wanted_red J p (Lamp belt.Feed colour.Red) refl
wanted_entry l J p m s r (Admitted k) d none f = wanted_red J p (Admitted k) refl
wanted_entry l J p m s r (Reinstated k) d none f = wanted_red J p (Reinstated k) refl
wanted_entry l J p m s r (Declared n why) d none f =
    wanted_declared J p (Declared n why) (same_machine n machine.Feed) refl refl f
wanted_entry l J p m s r x d none f = wanted_more J p x refl refl f

pub wanted_kept : (l : BookLimits) (J : List Entry) (p : Plan) (m : Machine) (s : Mind) (r : Option Reading)
    (e : Option Entry) → IsDecided l J m p s r e → expected_of J ≡ None → GreenIsWanted J p
    → GreenIsWanted (J ++ option_to_list e) p
wanted_kept l J p m s r None d none f = subst (λ (K : List Entry). GreenIsWanted K p) (sym (append-nil J)) f
wanted_kept l J p m s r (Some x) d none f = wanted_entry l J p m s r x d none f
