-- What a turn books rests on the answers of the port
use Rattle.std.proofs.Common.{◌≡◌, ◌⊎◌, inl, inr, ℕ, ◌+◌, Bool, true, false, not, ◌&&◌, ◌||◌, nat_lt, Option, Some}
use Rattle.std.proofs.Common.{None, List, [], ◌∷◌, ◌++◌, is_some, IfSome, option_to_list, if◌then◌else◌, refl, sym, ap}
use Rattle.std.proofs.Common.{◌∙◌, subst, append-nil}
use Rattle.std.specs.Option.{option_map}
use Rattle.std.specs.List.{count_by}
use Rattle.cell_types.specs.declared.words.Machine.{Machine}
use Rattle.cell_types.specs.declared.words.Machine.TheVariants as machine
use Rattle.cell_types.specs.declared.words.Station.{Station}
use Rattle.cell_types.specs.declared.words.Station.TheVariants as station
use Rattle.cell_types.specs.declared.words.Axis.{Axis}
use Rattle.cell_types.specs.declared.words.Axis.TheVariants as axis
use Rattle.cell_types.specs.declared.words.Pose.{Pose}
use Rattle.cell_types.specs.declared.words.Pose.TheVariants as pose
use Rattle.cell_types.specs.declared.words.Cause.{Cause}
use Rattle.cell_types.specs.declared.words.Cause.TheVariants as cause
use Rattle.cell_types.specs.declared.words.Entry.{Entry}
use Rattle.cell_types.specs.declared.words.Entry.TheVariants.{Admitted, Arrived as ArrivedAt, Conveyed, Forged}
use Rattle.cell_types.specs.declared.words.Entry.TheVariants.{Delivered, Declared, Reinstated}
use Rattle.cell_types.specs.declared.cell.BeltMotion.{BeltMotion}
use Rattle.cell_types.specs.Cell.{press_axis, motion_to}
use Rattle.cell_rules.specs.Views.{plate_of, is_failed, is_asked, expected_of, is_admitted}
use Rattle.cell_rules.specs.Situations.{Situation, situation_of}
use Rattle.cell_rules.specs.declared.limits.BookLimits.{BookLimits}
use Rattle.cell_diagnosis.specs.declared.motion.Motion.{Motion}
use Rattle.cell_diagnosis.specs.declared.reading.Reading.{Reading}
use Rattle.cell_diagnosis.specs.declared.verdict.Verdict.{Verdict}
use Rattle.cell_diagnosis.specs.declared.verdict.Verdict.TheVariants.{Pending, Arrived, Fault}
use Rattle.cell_diagnosis.specs.Ends.{last_are}
use Rattle.cell_diagnosis.specs.Verdicts.{then_verdict, verdict_after}
use Rattle.cell_diagnosis.specs.RestFacts.{Noted, disagrees, shows_several_at}
use Rattle.cell_diagnosis.specs.RestRules.{is_silent_at_rest, axis_fault, is_plate_lost, is_plate_strange, plate_fault}
use Rattle.cell_diagnosis.specs.RestRules.{judged_at_rest, rest}
use Rattle.cell_machines.specs.Room.{is_bookable}
use Rattle.cell_machines.specs.Useful.{wants, is_useful_now, is_useful}
use Rattle.cell_machines.proofs.Proposed.{some_proposed}
use Rattle.cell_ports.specs.declared.plan.Plan.{Plan}
use Rattle.cell_turns.specs.declared.watch.Memory.{Memory}
use Rattle.cell_turns.specs.declared.turns.decide.Findings.{Findings}
use Rattle.cell_turns.specs.declared.turns.decide.Ruling.{Ruling}
use Rattle.cell_turns.specs.declared.turns.decide.Ruling.TheVariants.{Nothing, Books, PastLast, Proposes}
use Rattle.cell_turns.specs.Moving.{motion_of_machine}
use Rattle.cell_turns.specs.Following.{Following}
use Rattle.cell_turns.specs.Minds.{Mind}
use Rattle.cell_turns.specs.Observed.{axis_noted, axis_verdict, rest_noted, findings}
use Rattle.cell_turns.specs.Rulings.{ending, laid_in, books, signed, ruling_by, ruling}
use Rattle.cell_turns.specs.Turns.{IsRuled, IsDecided, ends_motion, mind_after}
use Rattle.cell_turns.proofs.Points.{by_sign, by_end, by_rest, by_axis, by_all}
use Rattle.cell_workers.specs.Evidence.{ShowsArrival, ShowsFault, RestShows, SignShows, Backed}
use Rattle.cell_workers.specs.Traces.{Traces, Calm}
use Rattle.cell_workers.proofs.Traces.{OwnMotion, own_motion, axis_faults, axis_arrives, axis_idle, rest_shown}
use Rattle.cell_workers.proofs.Traces.{sign_shown}
use Rattle.cell_workers.proofs.Endings.{HasEndings, ending_ends, declared_fails}

-- a machine at rest arrives nowhere

is_arrival : Verdict → Bool
is_arrival Arrived = true
is_arrival _ = false

of_either : (b : Bool) (x y : Verdict) → is_arrival x ≡ false → is_arrival y ≡ false
    → is_arrival (if b then x else y) ≡ false
of_either true x y h k = h
of_either false x y h k = k

of_both : (x y : Verdict) → is_arrival x ≡ false → is_arrival y ≡ false → is_arrival (then_verdict x y) ≡ false
of_both Pending y h k = k
of_both Arrived y h k = h
of_both (Fault c) y h k = h

-- the verdict on a list is the verdict on one of its beginnings
of_list : {X : Type 0} (judge : List X → Verdict) (before L : List X) → ((M : List X) → is_arrival (judge M) ≡ false)
    → is_arrival (verdict_after judge before L) ≡ false
unfolding is_arrival
of_list judge before [] h = refl
of_list judge before (r ∷ rs) h = of_both (judge (before ++ r ∷ [])) (verdict_after judge (before ++ r ∷ []) rs)
    (h (before ++ r ∷ [])) (of_list judge (before ++ r ∷ []) rs h)

of_axis_fault : (j : ℕ) (L : List Noted) → is_arrival (axis_fault j L) ≡ false
unfolding is_arrival axis_fault
of_axis_fault j L = of_either (last_are 2 (disagrees j) L) _ _
    (of_either (last_are 2 (shows_several_at j) L) _ _ refl refl) refl

of_plate_fault : (L : List Noted) → is_arrival (plate_fault L) ≡ false
unfolding is_arrival plate_fault
of_plate_fault L = of_either (is_plate_lost L) _ _ refl (of_either (is_plate_strange L) _ _ refl refl)

of_judged_at_rest : (L : List Noted) → is_arrival (judged_at_rest L) ≡ false
unfolding is_arrival judged_at_rest
of_judged_at_rest L =
    of_either (is_silent_at_rest L) _ _ refl
    (of_both (axis_fault 0 L) _ (of_axis_fault 0 L)
    (of_both (axis_fault 1 L) _ (of_axis_fault 1 L)
    (of_both (axis_fault 2 L) _ (of_axis_fault 2 L) (of_plate_fault L))))

of_rest : (L : List Noted) → is_arrival (rest L) ≡ false
unfolding rest
of_rest L = of_list judged_at_rest [] L of_judged_at_rest

never_arrives : (L : List Noted) → rest L ≡ Arrived → ⊥
unfolding is_arrival
never_arrives L h = differ (sym (of_rest L) ∙ ap is_arrival h)
  where
    differ : false ≡ true → ⊥
    differ q = cc

-- what is proposed needs no evidence

-- the entries of which the evidence asks anything
needs_evidence : Entry → Bool
needs_evidence (ArrivedAt a at) = true
needs_evidence (Conveyed a k dest) = true
needs_evidence (Forged m k) = true
needs_evidence (Admitted k) = true
needs_evidence (Delivered k) = true
needs_evidence (Reinstated k) = true
needs_evidence (Declared m c) = true
needs_evidence _ = false

-- one lemma for each machine, since what is wanted is told machine by machine
unwanted_feed : (l : BookLimits) (c : Situation) (plan : ℕ) (e : Entry) → needs_evidence e ≡ true
    → wants l c plan machine.Feed e ≡ false
unfolding needs_evidence
unwanted_feed l c plan (ArrivedAt a at) h = refl
unwanted_feed l c plan (Conveyed a k dest) h = refl
unwanted_feed l c plan (Forged m k) h = refl
unwanted_feed l c plan (Admitted k) h = refl
unwanted_feed l c plan (Delivered k) h = refl
unwanted_feed l c plan (Reinstated k) h = refl
unwanted_feed l c plan (Declared m why) h = refl
unwanted_feed l c plan _ h = cc

unwanted_table : (l : BookLimits) (c : Situation) (plan : ℕ) (e : Entry) → needs_evidence e ≡ true
    → wants l c plan machine.Table e ≡ false
unfolding needs_evidence
unwanted_table l c plan (ArrivedAt a at) h = refl
unwanted_table l c plan (Conveyed a k dest) h = refl
unwanted_table l c plan (Forged m k) h = refl
unwanted_table l c plan (Admitted k) h = refl
unwanted_table l c plan (Delivered k) h = refl
unwanted_table l c plan (Reinstated k) h = refl
unwanted_table l c plan (Declared m why) h = refl
unwanted_table l c plan _ h = cc

unwanted_robot : (l : BookLimits) (c : Situation) (plan : ℕ) (e : Entry) → needs_evidence e ≡ true
    → wants l c plan machine.Robot e ≡ false
unfolding needs_evidence
unwanted_robot l c plan (ArrivedAt a at) h = refl
unwanted_robot l c plan (Conveyed a k dest) h = refl
unwanted_robot l c plan (Forged m k) h = refl
unwanted_robot l c plan (Admitted k) h = refl
unwanted_robot l c plan (Delivered k) h = refl
unwanted_robot l c plan (Reinstated k) h = refl
unwanted_robot l c plan (Declared m why) h = refl
unwanted_robot l c plan _ h = cc

unwanted_press1 : (l : BookLimits) (c : Situation) (plan : ℕ) (e : Entry) → needs_evidence e ≡ true
    → wants l c plan machine.Press1 e ≡ false
unfolding needs_evidence
unwanted_press1 l c plan (ArrivedAt a at) h = refl
unwanted_press1 l c plan (Conveyed a k dest) h = refl
unwanted_press1 l c plan (Forged m k) h = refl
unwanted_press1 l c plan (Admitted k) h = refl
unwanted_press1 l c plan (Delivered k) h = refl
unwanted_press1 l c plan (Reinstated k) h = refl
unwanted_press1 l c plan (Declared m why) h = refl
unwanted_press1 l c plan _ h = cc

unwanted_press2 : (l : BookLimits) (c : Situation) (plan : ℕ) (e : Entry) → needs_evidence e ≡ true
    → wants l c plan machine.Press2 e ≡ false
unfolding needs_evidence
unwanted_press2 l c plan (ArrivedAt a at) h = refl
unwanted_press2 l c plan (Conveyed a k dest) h = refl
unwanted_press2 l c plan (Forged m k) h = refl
unwanted_press2 l c plan (Admitted k) h = refl
unwanted_press2 l c plan (Delivered k) h = refl
unwanted_press2 l c plan (Reinstated k) h = refl
unwanted_press2 l c plan (Declared m why) h = refl
unwanted_press2 l c plan _ h = cc

unwanted_deposit : (l : BookLimits) (c : Situation) (plan : ℕ) (e : Entry) → needs_evidence e ≡ true
    → wants l c plan machine.Deposit e ≡ false
unfolding needs_evidence
unwanted_deposit l c plan (ArrivedAt a at) h = refl
unwanted_deposit l c plan (Conveyed a k dest) h = refl
unwanted_deposit l c plan (Forged m k) h = refl
unwanted_deposit l c plan (Admitted k) h = refl
unwanted_deposit l c plan (Delivered k) h = refl
unwanted_deposit l c plan (Reinstated k) h = refl
unwanted_deposit l c plan (Declared m why) h = refl
unwanted_deposit l c plan _ h = cc

unwanted : (l : BookLimits) (c : Situation) (plan : ℕ) (m : Machine) (e : Entry) → needs_evidence e ≡ true
    → wants l c plan m e ≡ false
unwanted l c plan machine.Feed e h = unwanted_feed l c plan e h
unwanted l c plan machine.Table e h = unwanted_table l c plan e h
unwanted l c plan machine.Robot e h = unwanted_robot l c plan e h
unwanted l c plan machine.Press1 e h = unwanted_press1 l c plan e h
unwanted l c plan machine.Press2 e h = unwanted_press2 l c plan e h
unwanted l c plan machine.Deposit e h = unwanted_deposit l c plan e h

-- of all other entries the evidence asks nothing
plainly : (p : Plan) (got : List (Option Reading)) (e : Entry) → needs_evidence e ≡ false → Backed p got e
unfolding needs_evidence
plainly p got (ArrivedAt a at) h = cc
plainly p got (Conveyed a k dest) h = cc
plainly p got (Forged m k) h = cc
plainly p got (Admitted k) h = cc
plainly p got (Delivered k) h = cc
plainly p got (Reinstated k) h = cc
plainly p got (Declared m c) h = cc
plainly p got _ h = tt

left : (a b : Bool) → (a && b) ≡ true → a ≡ true
left true b h = refl
left false b h = cc

-- what is useful is wanted, and no entry that needs evidence is
useful_backed : (l : BookLimits) (J : List Entry) (plan : ℕ) (m : Machine) (p : Plan) (got : List (Option Reading))
    (e : Entry) → is_useful l J plan m e ≡ true → Backed p got e
unfolding is_useful_now
useful_backed l J plan m p got e h = go (needs_evidence e) refl
  where
    differ : false ≡ true → ⊥
    differ q = cc

    go : (b : Bool) → needs_evidence e ≡ b → Backed p got e
    go false is = plainly p got e is
    go true is = absurd (differ (sym (unwanted l (situation_of J) plan m e is)
        ∙ left (wants l (situation_of J) plan m e) (is_bookable l (situation_of J) e) h))

-- what the points book

abbrev RulingBacked : Plan → List (Option Reading) → Ruling → Type 0
RulingBacked p got (Books e) = Backed p got e
RulingBacked p got _ = Unit {0}

-- the evidence names the motion that the station belongs to, so it has to be found by it
of_conveyed : (p : Plan) (got : List (Option Reading)) (a : Axis) (dest : Station) (mo : BeltMotion) (o : Option ℕ)
    → motion_to a dest ≡ Some mo → ShowsArrival p got a mo.to
    → RulingBacked p got (books (option_map (λ k. Conveyed a k dest) o))
of_conveyed p got a dest mo None is h = tt
of_conveyed p got a dest mo (Some k) is h = record { motion = mo; belt = is; arrival = h }

of_forged : (p : Plan) (got : List (Option Reading)) (m : Machine) (a : Axis) (o : Option ℕ) → press_axis m ≡ Some a
    → ShowsArrival p got a pose.Top → RulingBacked p got (books (option_map (λ k. Forged m k) o))
of_forged p got m a None is h = tt
of_forged p got m a (Some k) is h = record { axis = a; press_axis = is; arrival = h }

-- the arrival is the evidence, whatever the end of the motion is booked as
of_ending : (p : Plan) (got : List (Option Reading)) (J : List Entry) (a : Axis) (to : Pose) → ShowsArrival p got a to
    → RulingBacked p got (books (ending J a to))
of_ending p got J axis.FeedBelt pose.ToEnd h =
    of_conveyed p got axis.FeedBelt station.FeedEnd _ (plate_of J station.FeedIn) refl h
of_ending p got J axis.FeedBelt pose.ToTable h =
    of_conveyed p got axis.FeedBelt station.Table _ (plate_of J station.FeedEnd) refl h
of_ending p got J axis.FeedBelt _ h = tt
of_ending p got J axis.DepositBelt pose.ToEnd h =
    of_conveyed p got axis.DepositBelt station.DepEnd _ (plate_of J station.DepIn) refl h
of_ending p got J axis.DepositBelt _ h = tt
of_ending p got J axis.PressOne pose.Top h = of_forged p got machine.Press1 axis.PressOne (plate_of J station.Press1)
    refl h
of_ending p got J axis.PressTwo pose.Top h = of_forged p got machine.Press2 axis.PressTwo (plate_of J station.Press2)
    refl h
of_ending p got J a to h = h

of_next : (p : Plan) (got : List (Option Reading)) (k : ℕ) (b : Bool) → SignShows machine.Feed got
    → RulingBacked p got (if b then PastLast else Books (Admitted k))
of_next p got k true h = tt
of_next p got k false h = h

of_laid_in : (p : Plan) (got : List (Option Reading)) (o : Option ℕ) (k : ℕ) → SignShows machine.Feed got
    → RulingBacked p got (laid_in o k)
of_laid_in p got None k h = of_next p got k (nat_lt 100000 k) h
of_laid_in p got (Some j) k h = h

of_delivered : (p : Plan) (got : List (Option Reading)) (o : Option ℕ) → SignShows machine.Deposit got
    → RulingBacked p got (books (option_map (λ k. Delivered k) o))
of_delivered p got None h = tt
of_delivered p got (Some k) h = h

of_signed : (p : Plan) (got : List (Option Reading)) (J : List Entry) (m : Machine) → SignShows m got
    → RulingBacked p got (signed J m)
of_signed p got J machine.Feed h = of_laid_in p got (expected_of J) (count_by is_admitted J + 1) h
of_signed p got J machine.Deposit h = of_delivered p got (plate_of J station.DepEnd) h
of_signed p got J machine.Table h = tt
of_signed p got J machine.Robot h = tt
of_signed p got J machine.Press1 h = tt
of_signed p got J machine.Press2 h = tt

-- what the answers show, where the verdicts before this reading were Pending
record Shows (p : Plan) (got : List (Option Reading)) (m : Machine) (o : Option Motion) (v u : Verdict) : Type 0 where
  axis_fault : (c : Cause) → v ≡ Fault c → ShowsFault p got m c
  rest_fault : (c : Cause) → u ≡ Fault c → RestShows m got (Fault c)
  arrival : (mo : Motion) → o ≡ Some mo → v ≡ Arrived → ShowsArrival p got mo.axis mo.to

of_sign : (p : Plan) (got : List (Option Reading)) (J : List Entry) (m : Machine) (sign : Bool)
    → (sign ≡ true → SignShows m got) → RulingBacked p got (by_sign J m sign)
of_sign p got J m true h = of_signed p got J m (h refl)
of_sign p got J m false h = tt

of_arrival : (p : Plan) (got : List (Option Reading)) (J : List Entry) (m : Machine) (sign : Bool) (o : Option Motion)
    (v u : Verdict) → (sign ≡ true → SignShows m got) → Shows p got m o v u → RulingBacked p got (by_end J m sign o v)
of_arrival p got J m sign None v u h k = of_sign p got J m sign h
of_arrival p got J m sign (Some mo) Pending u h k = of_sign p got J m sign h
of_arrival p got J m sign (Some mo) (Fault c) u h k = of_sign p got J m sign h
of_arrival p got J m sign (Some mo) Arrived u h k = of_ending p got J mo.axis mo.to (k.arrival mo refl refl)

of_rest_point : (p : Plan) (got : List (Option Reading)) (J : List Entry) (m : Machine) (sign : Bool)
    (o : Option Motion) (v u : Verdict) → (sign ≡ true → SignShows m got) → Shows p got m o v u
    → RulingBacked p got (by_rest J m sign o v u)
of_rest_point p got J m sign o v (Fault c) h k = λ _. inr (k.rest_fault c refl)
of_rest_point p got J m sign o v Arrived h k = of_arrival p got J m sign o v Arrived h k
of_rest_point p got J m sign o v Pending h k = of_arrival p got J m sign o v Pending h k

of_axis_point : (p : Plan) (got : List (Option Reading)) (J : List Entry) (m : Machine) (sign : Bool)
    (o : Option Motion) (v u : Verdict) → (sign ≡ true → SignShows m got) → Shows p got m o v u
    → RulingBacked p got (by_axis J m sign o v u)
of_axis_point p got J m sign o (Fault c) u h k = λ _. inl (k.axis_fault c refl)
of_axis_point p got J m sign o Arrived u h k = of_rest_point p got J m sign o Arrived u h k
of_axis_point p got J m sign o Pending u h k = of_rest_point p got J m sign o Pending u h k

-- no reading has to show a failed command or the operator's stop, which two of the points declare
of_points : (p : Plan) (got : List (Option Reading)) (J : List Entry) (m : Machine) (kept : Memory) (found : Findings)
    → ((kept.sign && found.sign) ≡ true → SignShows m got)
    → (kept.failed ≡ false → Shows p got m found.motion found.at_axis found.at_rest)
    → RulingBacked p got (ruling_by J m kept found)
of_points p got J m kept found h k = go (is_failed J m) kept.command_failed (is_asked J m) kept.failed k
  where
    go : (failed a b c : Bool) → (c ≡ false → Shows p got m found.motion found.at_axis found.at_rest)
        → RulingBacked p got (by_all J m failed a b c (kept.sign && found.sign) found.motion found.at_axis
        found.at_rest)
    go true a b c k = tt
    go false true b c k = λ d. cc
    go false false true c k = λ d. cc
    go false false false true k = tt
    go false false false false k = of_axis_point p got J m (kept.sign && found.sign) found.motion found.at_axis
        found.at_rest h (k refl)

-- a calm mind of a machine that wasn't booked failed
pending : (s : Mind) → Calm s → s.memory.failed ≡ false → (axis_verdict s.axis ≡ Pending) × (rest s.rest ≡ Pending)
pending s (inl h) is = absurd (differ (sym is ∙ h))
  where
    differ : false ≡ true → ⊥
    differ q = cc
pending s (inr h) is = h

-- the verdicts were pending before this reading, so what they are now is shown by it
of_ruling : (J : List Entry) (m : Machine) (p : Plan) (got : List (Option Reading)) (s : Mind) (r : Option Reading)
    → Traces m p got s → Calm s → RulingBacked p (got ++ r ∷ []) (ruling J m p s r)
unfolding ruling
of_ruling J m p got s r t calm =
    of_points p (got ++ r ∷ []) J m s.memory (findings J m p s r)
    (sign_shown J m got r s.memory.sign t.sign)
    (λ healthy.
    let still = pending s calm healthy in
    record {
      axis_fault = λ c is. axis_faults J m p got r s.axis c t.axis still.0 is;
      rest_fault = λ c is. rest_shown m got r _ s.rest (Fault c) t.rest still.1 is;
      arrival = λ mo motion is. axis_arrives J m p got r s.axis mo t.axis still.0 motion is;
    })

of_ruled : (l : BookLimits) (J : List Entry) (m : Machine) (plates : ℕ) (p : Plan) (got : List (Option Reading))
    (k : Ruling) (e : Entry) → RulingBacked p got k → IsRuled l J m plates k (Some e) → Backed p got e
of_ruled l J m plates p got Nothing e f h = cc
of_ruled l J m plates p got PastLast e f h = absurd h
of_ruled l J m plates p got Proposes e f h =
    useful_backed l J plates m p got e (some_proposed l J plates m (Some e) h)
of_ruled l J m plates p got (Books x) e f h = subst (λ (o : Option Entry). on_entry o) (sym h) f
  where
    on_entry : Option Entry → Type 0
    on_entry None = Unit {0}
    on_entry (Some y) = Backed p got y

-- the answers, with this reading, are the evidence of what a turn decides on
pub decided_backed : (l : BookLimits) (J : List Entry) (m : Machine) (p : Plan) (got : List (Option Reading)) (s : Mind)
    (r : Option Reading) (e : Option Entry) → Traces m p got s → Calm s → IsDecided l J m p s r e
    → IfSome e (Backed p (got ++ r ∷ []))
decided_backed l J m p got s r None t calm h = tt
decided_backed l J m p got s r (Some e) t calm h = of_ruled l J m p.plates p (got ++ r ∷ []) (ruling J m p s r) e
    (of_ruling J m p got s r t calm) h

-- after the turn the mind is calm again

-- `failed` says that the machine is now booked failed, `anew` that the watches begin anew, `ends` that a motion has
-- ended
abbrev Settled : Bool → Bool → Bool → Option Following → List Noted → Type 0
Settled failed anew ends F L = (failed ≡ true) ⊎ ((axis_verdict (if anew || ends then None else F) ≡ Pending)
    × (rest (if anew then [] else L) ≡ Pending))

either_pending : (b : Bool) (F : Option Following) → axis_verdict F ≡ Pending
    → axis_verdict (if b then None else F) ≡ Pending
either_pending true F h = refl
either_pending false F h = h

rest_nil : rest [] ≡ Pending
unfolding rest
rest_nil = refl

-- a fault settles the turn: once it is declared, the verdicts no longer matter
failed_by : (J : List Entry) (m : Machine) (c : Cause) (e : Option Entry) → e ≡ Some (Declared m c)
    → is_failed (J ++ option_to_list e) m ≡ true
failed_by J m c e is = ap (λ (o : Option Entry). is_failed (J ++ option_to_list o) m) is ∙ declared_fails J m c

-- the motion has ended, with an entry
at_end : (l : BookLimits) (J : List Entry) (m : Machine) (plates : ℕ) (x e : Option Entry) (F : Option Following)
    (L : List Noted) → ends_motion x ≡ is_some x → is_some x ≡ true → rest L ≡ Pending
    → IsRuled l J m plates (books x) e → Settled (is_failed (J ++ option_to_list e) m) false (ends_motion e) F L
at_end l J m plates None e F L ends some still h = cc
at_end l J m plates (Some y) e F L ends some still h =
    inr (
      ap (λ (o : Option Entry). axis_verdict (if ends_motion o then None else F)) h
          ∙ ap (λ b. axis_verdict (if b then None else F)) ends,
      still,
    )

-- a fault was declared, an arrival has ended the motion, or both verdicts are still pending
settles : (l : BookLimits) (J : List Entry) (m : Machine) (plates : ℕ) (sign : Bool) (o : Option Motion) (v u : Verdict)
    (e : Option Entry) (F : Option Following) (L : List Noted)
    → ((mo : Motion) → o ≡ Some mo → is_some (ending J mo.axis mo.to) ≡ true)
    → (o ≡ None → v ≡ Pending) → (u ≡ Arrived → ⊥) → v ≡ axis_verdict F → u ≡ rest L
    → IsRuled l J m plates (by_axis J m sign o v u) e
    → Settled (is_failed (J ++ option_to_list e) m) false (ends_motion e) F L
settles l J m plates sign o (Fault c) u e F L has idle never v_is u_is h = inl (failed_by J m c e h)
settles l J m plates sign o Arrived (Fault c) e F L has idle never v_is u_is h = inl (failed_by J m c e h)
settles l J m plates sign o Pending (Fault c) e F L has idle never v_is u_is h = inl (failed_by J m c e h)
settles l J m plates sign o Arrived Arrived e F L has idle never v_is u_is h = absurd (never refl)
settles l J m plates sign o Pending Arrived e F L has idle never v_is u_is h = absurd (never refl)
settles l J m plates sign o Pending Pending e F L has idle never v_is u_is h =
    inr (either_pending (ends_motion e) F (sym v_is), sym u_is)
settles l J m plates sign None Arrived Pending e F L has idle never v_is u_is h = absurd (differ (idle refl))
  where
    differ : Arrived ≡ Pending → ⊥
    differ q = cc
settles l J m plates sign (Some mo) Arrived Pending e F L has idle never v_is u_is h =
    at_end l J m plates (ending J mo.axis mo.to) e F L (ending_ends J mo.axis mo.to) (has mo refl) (sym u_is) h

-- the first three points leave the machine failed, and at the fourth its watches begin anew
calm_points : (l : BookLimits) (J : List Entry) (m : Machine) (plates : ℕ) (kept : Memory) (found : Findings)
    (e : Option Entry) (F : Option Following) (L : List Noted)
    → (is_failed J m ≡ false → (mo : Motion) → found.motion ≡ Some mo → is_some (ending J mo.axis mo.to) ≡ true)
    → (found.motion ≡ None → found.at_axis ≡ Pending) → (found.at_rest ≡ Arrived → ⊥) → found.at_axis ≡ axis_verdict F
    → found.at_rest ≡ rest L
    → IsRuled l J m plates (ruling_by J m kept found) e
    → Settled (is_failed (J ++ option_to_list e) m)
    (kept.failed && (not (is_failed J m) && (not kept.command_failed && not (is_asked J m)))) (ends_motion e) F L
calm_points l J m plates kept found e F L has idle never v_is u_is h =
    go (is_failed J m) kept.command_failed (is_asked J m) kept.failed refl h
  where
    go : (failed a b c : Bool) → is_failed J m ≡ failed
        → IsRuled l J m plates (by_all J m failed a b c (kept.sign && found.sign) found.motion found.at_axis
        found.at_rest) e → Settled (is_failed (J ++ option_to_list e) m) (c && (not failed && (not a && not b)))
        (ends_motion e) F L
    go true a b c is k = inl (ap (λ (x : Option Entry). is_failed (J ++ option_to_list x) m) k
        ∙ ap (λ x. is_failed x m) (append-nil J) ∙ is)
    go false true b c is k = inl (failed_by J m cause.CommandFault e k)
    go false false true c is k = inl (failed_by J m cause.OperatorStop e k)
    go false false false true is k = inr (refl, rest_nil)
    go false false false false is k = settles l J m plates (kept.sign && found.sign) found.motion found.at_axis
        found.at_rest e F L (has is) idle never v_is u_is k

-- the motion that the journal shows is on an axis of the machine, so that axis is well too
has_ending : (J : List Entry) (p : Plan) (m : Machine) → HasEndings J → is_failed J m ≡ false → (mo : Motion)
    → motion_of_machine J p m ≡ Some mo → is_some (ending J mo.axis mo.to) ≡ true
has_ending J p m has healthy mo is =
    let own : OwnMotion J p m mo = subst (λ (o : Option Motion). IfSome o (OwnMotion J p m)) is (own_motion J p m) in
    has mo.axis mo.to own.going (ap (is_failed J) own.own ∙ healthy)

pub calm_after : (l : BookLimits) (J : List Entry) (m : Machine) (p : Plan) (s : Mind) (r : Option Reading)
    (e : Option Entry) → HasEndings J → IsDecided l J m p s r e → Calm (mind_after J m p s r e)
unfolding ruling mind_after
calm_after l J m p s r e has h =
    calm_points l J m p.plates s.memory (findings J m p s r) e (axis_noted J m p s.axis r)
    (rest_noted J m s.memory s.rest r)
    (has_ending J p m has) (axis_idle J m p r s.axis) (never_arrives (rest_noted J m s.memory s.rest r)) refl refl h

-- no reading was taken yet, so there is no verdict
pub calm_first : (memory : Memory) → Calm (record { axis = None; rest = []; memory = memory })
calm_first memory = inr (refl, rest_nil)
