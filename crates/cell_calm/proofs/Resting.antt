-- Where a run in which only some machines fail comes to rest
use Rattle.std.proofs.Common.{◌≡◌, ◌≤◌, ℕ, Bool, true, false, ◌&&◌, ◌||◌, not, List, [], ◌∷◌, ◌++◌, Option, Some, None}
use Rattle.std.proofs.Common.{length, refl, sym, ap, subst, ◌∙◌, append-nil, arith, length-append}
use Rattle.std.specs.Prelude.{is_none, nat_le, option_to_list}
use Rattle.std.specs.Option.{option_map, option_or}
use Rattle.std.specs.List.{list_any}
use Rattle.std.proofs.lemmas.List.Folds.{list_any-append}
use Rattle.cell_types.specs.declared.words.Machine.{Machine}
use Rattle.cell_types.specs.declared.words.Machine.TheVariants as machine
use Rattle.cell_types.specs.declared.words.Axis.{Axis}
use Rattle.cell_types.specs.declared.words.Axis.TheVariants as axis
use Rattle.cell_types.specs.declared.words.Belt.{Belt}
use Rattle.cell_types.specs.declared.words.Belt.TheVariants as belt
use Rattle.cell_types.specs.declared.words.Colour.TheVariants as colour
use Rattle.cell_types.specs.declared.words.Entry.{Entry}
use Rattle.cell_types.specs.After.{after}
use Rattle.cell_types.specs.Cell.{machine_of_axis}
use Rattle.cell_types.specs.Same.{same_colour, same_machine}
use Rattle.cell_rules.specs.Situations.{Situation}
use Rattle.cell_rules.specs.Views.{at_of, going_of, is_failed, lamp_of}
use Rattle.cell_rules.specs.declared.limits.BookLimits.{BookLimits}
use Rattle.cell_rules.proofs.Safe.Facts.{machine_same}
use Rattle.cell_rules.proofs.Safe.Told.{told_when_legal}
use Rattle.cell_diagnosis.specs.declared.motion.Motion.{Motion}
use Rattle.cell_diagnosis.specs.declared.reading.Reading.{Reading}
use Rattle.cell_ports.specs.declared.plan.Plan.{Plan}
use Rattle.cell_turns.specs.declared.schedule.Step.{Step}
use Rattle.cell_turns.specs.declared.schedule.Step.TheVariants.{Hand, Turn}
use Rattle.cell_turns.specs.declared.six.Six.{Six}
use Rattle.cell_turns.specs.Minds.{Mind, is_quiet}
use Rattle.cell_turns.specs.Moving.{limits_of, motion_of_axis, motion_of_machine, motion_on}
use Rattle.cell_turns.specs.Schedules.{Leads, Now}
use Rattle.cell_turns.specs.Schedules.Leads.{fails, hands, refuses, spares, stays, turns}
use Rattle.cell_turns.specs.Six.{at}
use Rattle.cell_turns.specs.Turns.{IsDecided}
use Rattle.cell_workers.specs.Ends.{is_idle, is_lit}
use Rattle.cell_calm.proofs.Decided.{none_useful}
use Rattle.cell_calm.proofs.Nothing.{Rests}
use Rattle.cell_calm.proofs.Tame.{Tame}

-- a turn of the machine decided on nothing after this journal
abbrev pub Paused : BookLimits → Plan → List Entry → Machine → Type 0
Paused l p J m = (mind : Mind) × (r : Option Reading) × IsDecided l J m p mind r None

abbrev pub is_turn : Machine → Step → Bool
is_turn m (Turn n r) = same_machine n m
is_turn m (Hand e) = false

-- steps only add to a journal
pub grows : (l : BookLimits) (p : Plan) (s : Now) (steps : List Step) (refused failed : ℕ) (t : Now)
    → Leads l p s steps refused failed t → length s.journal ≤ length t.journal
grows l p s _ _ _ _ stays = omega arith
grows l p s _ _ _ u (turns {t = t} {steps = xs} {refused = i} {failed = j} m r b d) =
    let before = grows l p s xs i j t b in
    let long = length-append t.journal (option_to_list d.booked) in
    let is = ap length d.journal in
    omega arith
grows l p s _ _ _ t (refuses {steps = xs} {refused = i} {failed = j} m r why b d) = grows l p s xs i j t b
grows l p s _ _ _ _ (hands {t = t} {steps = xs} {refused = i} {failed = j} e b d) =
    let before = grows l p s xs i j t b in
    let long = length-append t.journal (e ∷ []) in
    omega arith
grows l p s _ _ _ t (spares {steps = xs} {refused = i} {failed = j} e b d) = grows l p s xs i j t b
grows l p s _ _ _ t (fails {steps = xs} {refused = i} {failed = j} e b d w) = grows l p s xs i j t b

-- steps that left a journal as it was, with no turn refused: each machine that took a turn decided on nothing
pub record Unchanged (l : BookLimits) (p : Plan) (J : List Entry) (steps : List Step) (K : List Entry) : Type 0 where
  pub same : K ≡ J
  pub paused : (m : Machine) → list_any (is_turn m) steps ≡ true → Paused l p J m

one_more : (l : BookLimits) (p : Plan) (J K : List Entry) (xs : List Step) (x : Step)
    → ((m : Machine) → is_turn m x ≡ true → Paused l p J m) → Unchanged l p J xs K → Unchanged l p J (xs ++ x ∷ []) K
one_more l p J K xs x last h =
    record {
      same = h.same;
      paused = λ m q. go m (list_any (is_turn m) xs) (is_turn m x) refl refl
          (sym (list_any-append (is_turn m) xs (x ∷ [])) ∙ q);
    }
  where
    go : (m : Machine) (a b : Bool) → list_any (is_turn m) xs ≡ a → is_turn m x ≡ b → (a || (b || false)) ≡ true
        → Paused l p J m
    go m true b i j q = h.paused m i
    go m false true i j q = last m j
    go m false false i j q = cc

unchanged_turn : (l : BookLimits) (p : Plan) (J K : List Entry) (xs : List Step) (m : Machine) (r : Option Reading)
    (mind : Mind) (booked : Option Entry) → IsDecided l K m p mind r booked
    → length (K ++ option_to_list booked) ≤ length J → length J ≤ length K
    → (length K ≤ length J → Unchanged l p J xs K)
    → Unchanged l p J (xs ++ Turn m r ∷ []) (K ++ option_to_list booked)
unchanged_turn l p J K xs m r mind None decided short long before =
    let short : length K ≤ length J = rw append-nil at short in
    let h = before short in
    rw append-nil (one_more l p J K xs (Turn m r)
    (λ n q. subst (Paused l p J) (machine_same m n q)
    (mind, r, subst (λ (L : List Entry). IsDecided l L m p mind r None) h.same decided)) h)
unchanged_turn l p J K xs m r mind (Some e) decided short long before =
    let more = length-append K (e ∷ []) in
    absurd (omega arith)

pub unchanged : (l : BookLimits) (p : Plan) (s : Now) (steps : List Step) (refused failed : ℕ) (t : Now)
    → Leads l p s steps refused failed t → refused ≡ 0 → length t.journal ≤ length s.journal
    → Unchanged l p s.journal steps t.journal
unchanged l p s _ _ _ _ stays none short = record { same = refl; paused = λ m q. cc }
unchanged l p s _ _ _ u (turns {t = t} {steps = xs} {refused = i} {failed = j} m r b d) none short =
    subst (Unchanged l p s.journal (xs ++ Turn m r ∷ [])) (sym d.journal)
    (unchanged_turn l p s.journal t.journal xs m r (at t.minds m) d.booked d.decided
    (subst (λ (L : List Entry). length L ≤ length s.journal) d.journal short) (grows l p s xs i j t b)
    (unchanged l p s xs i j t b none))
unchanged l p s _ _ _ t (refuses {steps = xs} {refused = i} {failed = j} m r why b d) none short = absurd (omega arith)
unchanged l p s _ _ _ _ (hands {t = t} {steps = xs} {refused = i} {failed = j} e b d) none short =
    let before = grows l p s xs i j t b in
    let long = length-append t.journal (e ∷ []) in
    absurd (omega arith)
unchanged l p s _ _ _ t (spares {steps = xs} {refused = i} {failed = j} e b d) none short =
    one_more l p s.journal t.journal xs (Hand e) (λ m q. cc) (unchanged l p s xs i j t b none short)
unchanged l p s _ _ _ t (fails {steps = xs} {refused = i} {failed = j} e b d w) none short =
    one_more l p s.journal t.journal xs (Hand e) (λ m q. cc) (unchanged l p s xs i j t b none short)

-- what it says that all machines are idle

none_then : {X : Type 0} (o : Option X) → is_none o ≡ true → o ≡ None
none_then None h = refl
none_then (Some x) h = cc

neither_one : {X : Type 0} (o q : Option X) → option_or o q ≡ None → (o ≡ None) × (q ≡ None)
neither_one None q h = (refl, h)
neither_one (Some x) q h = cc

map_none : {X Y : Type 0} (f : X → Y) (o : Option X) → option_map f o ≡ None → o ≡ None
map_none f None h = refl
map_none f (Some x) h = cc

on_none : (J : List Entry) (p : Plan) (a : Axis) → motion_on J p a ≡ None → going_of J a ≡ None
on_none J p a h =
    map_none {Y = Motion} (λ to. record { axis = a; from = at_of J a; to = to; limits = limits_of p a })
    (going_of J a) h

idle_parts : (failed motion lit quiet : Bool) → failed ≡ false
    → (failed || (motion && (not lit && quiet))) ≡ true → (motion ≡ true) × (lit ≡ false)
idle_parts failed motion lit quiet h g = (grind arith, grind arith)

module _ (may : Machine → Bool) (l : BookLimits) (p : Plan) (J : List Entry) (c : Tame may l p.plates J)
    (minds : Six Mind) (idle : (m : Machine) → is_idle J m p (at minds m) ≡ true) where
  abbrev IsWell : Machine → Type 0
  IsWell m = (after J).failed m ≡ false

  parts : (m : Machine) → IsWell m → (is_none (motion_of_machine J p m) ≡ true) × (is_lit J m ≡ false)
  parts m well =
      idle_parts (is_failed J m) (is_none (motion_of_machine J p m)) (is_lit J m) (is_quiet (at minds m))
      (ap (λ (c : Situation). c.failed m) (told_when_legal l J c.legal).cell ∙ well) (idle m)

  -- none of the machine's axes moves
  record AxesStill (m : Machine) : Type 0 where
    one : motion_of_axis J p m 0 ≡ None
    two : motion_of_axis J p m 1 ≡ None
    three : motion_of_axis J p m 2 ≡ None

  axes_still : (m : Machine) → IsWell m → AxesStill m
  axes_still m well =
      let none = none_then (motion_of_machine J p m) (parts m well).0 in
      let axis = motion_of_axis J p m in
      let last = neither_one (option_or (axis 0) (axis 1)) (axis 2) none in
      let both = neither_one (axis 0) (axis 1) last.0 in
      record { one = both.0; two = both.1; three = last.1 }

  still_axis : (a : Axis) → IsWell (machine_of_axis a) → motion_on J p a ≡ None
  still_axis axis.FeedBelt well = (axes_still machine.Feed well).one
  still_axis axis.TableLift well = (axes_still machine.Table well).one
  still_axis axis.TableTurn well = (axes_still machine.Table well).two
  still_axis axis.RobotTurn well = (axes_still machine.Robot well).one
  still_axis axis.ArmOne well = (axes_still machine.Robot well).two
  still_axis axis.ArmTwo well = (axes_still machine.Robot well).three
  still_axis axis.PressOne well = (axes_still machine.Press1 well).one
  still_axis axis.PressTwo well = (axes_still machine.Press2 well).one
  still_axis axis.DepositBelt well = (axes_still machine.Deposit well).one

  pub resting : nat_le l.entries (length J) ≡ false → ((m : Machine) → Paused l p J m) → Rests p.plates (after J)
  resting room paused =
      let told = told_when_legal l J c.legal in
      record {
        going = λ a well. sym (ap (λ (c : Situation). c.going a) told.cell) ∙ on_none J p a (still_axis a well);
        feed = λ well. unlit belt.Feed (parts machine.Feed well).1;
        deposit = λ well. unlit belt.Deposit (parts machine.Deposit well).1;
        useless = λ m e. let h = paused m in none_useful may l p J c m h.0 h.1 e room h.2;
      }
    where
      unlit : (b : Belt) → same_colour (lamp_of J b) colour.Green ≡ false
          → same_colour ((after J).lamp b) colour.Green ≡ false
      unlit b h =
          subst (λ (c : Situation). same_colour (c.lamp b) colour.Green ≡ false) (told_when_legal l J c.legal).cell h
