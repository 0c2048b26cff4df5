-- The entry that a turn decides on is a CommandFault exactly where the last command failed
use Rattle.std.proofs.Common.{◌≡◌, ℕ, ◌+◌, Bool, true, false, ◌&&◌, nat_lt, Option, Some, None, List, IfSome}
use Rattle.std.proofs.Common.{if◌then◌else◌, refl, sym, ap, ◌∙◌, subst}
use Rattle.std.specs.Option.{option_map}
use Rattle.std.specs.List.{count_by}
use Rattle.cell_types.specs.declared.words.Machine.{Machine}
use Rattle.cell_types.specs.declared.words.Machine.TheVariants as machine
use Rattle.cell_types.specs.declared.words.Station.{Station}
use Rattle.cell_types.specs.declared.words.Station.TheVariants as station
use Rattle.cell_types.specs.declared.words.Axis.{Axis}
use Rattle.cell_types.specs.declared.words.Axis.TheVariants as axis
use Rattle.cell_types.specs.declared.words.Pose.{Pose}
use Rattle.cell_types.specs.declared.words.Pose.TheVariants as pose
use Rattle.cell_types.specs.declared.words.Cause.{Cause}
use Rattle.cell_types.specs.declared.words.Cause.TheVariants as cause
use Rattle.cell_types.specs.declared.words.Entry.{Entry}
use Rattle.cell_types.specs.declared.words.Entry.TheVariants.{Admitted, Conveyed, Forged, Delivered, Declared}
use Rattle.cell_rules.specs.Views.{plate_of, is_failed, is_asked, expected_of, is_admitted}
use Rattle.cell_rules.specs.Situations.{Situation, situation_of}
use Rattle.cell_rules.specs.declared.limits.BookLimits.{BookLimits}
use Rattle.cell_diagnosis.specs.declared.motion.Motion.{Motion}
use Rattle.cell_diagnosis.specs.declared.reading.Reading.{Reading}
use Rattle.cell_diagnosis.specs.declared.verdict.Verdict.{Verdict}
use Rattle.cell_diagnosis.specs.declared.verdict.Verdict.TheVariants.{Pending, Arrived, Fault}
use Rattle.cell_machines.specs.Room.{is_bookable}
use Rattle.cell_machines.specs.Useful.{wants, is_useful_now, is_useful}
use Rattle.cell_machines.proofs.Proposed.{some_proposed}
use Rattle.cell_ports.specs.declared.plan.Plan.{Plan}
use Rattle.cell_turns.specs.declared.turns.decide.Ruling.{Ruling}
use Rattle.cell_turns.specs.declared.turns.decide.Ruling.TheVariants.{Nothing, Books, PastLast, Proposes}
use Rattle.cell_turns.specs.Sent.{is_command_fault}
use Rattle.cell_turns.specs.declared.watch.Memory.{Memory}
use Rattle.cell_turns.specs.declared.watch.Watch.{Watch}
use Rattle.cell_turns.specs.Minds.{Mind, FitsMind, has_failed_command}
use Rattle.cell_turns.specs.Observed.{axis_noted, rest_noted, findings}
use Rattle.cell_turns.specs.Rulings.{ending, laid_in, books, signed, ruling_by, ruling}
use Rattle.cell_turns.specs.Turns.{IsRuled, IsDecided}
use Rattle.cell_turns.specs.declared.turns.decide.Findings.{Findings}
use Rattle.cell_turns.proofs.Minds.{of_some}
use Rattle.cell_turns.proofs.Points.{by_sign, by_end, by_rest, by_axis, by_all}
use Rattle.cell_turns.proofs.Faults.{is_command_verdict, of_following, of_rest}

-- what is decided is a CommandFault just as `failed` says
abbrev FaultRuling : Bool → Ruling → Type 0
FaultRuling failed (Books e) = is_command_fault e ≡ failed
FaultRuling failed Proposes = failed ≡ false
FaultRuling failed _ = Unit {0}

-- a watch never finds that a command failed, so what it declares has another cause
of_cause : (m : Machine) (c : Cause) → is_command_verdict (Fault c) ≡ false → is_command_fault (Declared m c) ≡ false
unfolding is_command_verdict
of_cause m cause.CommandFault h = cc
of_cause m _ h = refl

-- from here to the signs: what is booked there is no declaration at all
of_conveyed : (a : Axis) (dest : Station) (o : Option ℕ)
    → FaultRuling false (books (option_map (λ k. Conveyed a k dest) o))
of_conveyed a dest None = refl
of_conveyed a dest (Some k) = refl

of_forged : (m : Machine) (o : Option ℕ) → FaultRuling false (books (option_map (λ k. Forged m k) o))
of_forged m None = refl
of_forged m (Some k) = refl

of_ending : (J : List Entry) (a : Axis) (to : Pose) → FaultRuling false (books (ending J a to))
of_ending J axis.FeedBelt pose.ToEnd = of_conveyed axis.FeedBelt station.FeedEnd (plate_of J station.FeedIn)
of_ending J axis.FeedBelt pose.ToTable = of_conveyed axis.FeedBelt station.Table (plate_of J station.FeedEnd)
of_ending J axis.FeedBelt _ = refl
of_ending J axis.DepositBelt pose.ToEnd = of_conveyed axis.DepositBelt station.DepEnd (plate_of J station.DepIn)
of_ending J axis.DepositBelt _ = refl
of_ending J axis.PressOne pose.Top = of_forged machine.Press1 (plate_of J station.Press1)
of_ending J axis.PressTwo pose.Top = of_forged machine.Press2 (plate_of J station.Press2)
of_ending J a to = refl

of_next : (k : ℕ) (b : Bool) → FaultRuling false (if b then PastLast else Books (Admitted k))
of_next k true = tt
of_next k false = refl

of_laid_in : (o : Option ℕ) (k : ℕ) → FaultRuling false (laid_in o k)
of_laid_in None k = of_next k (nat_lt 100000 k)
of_laid_in (Some j) k = refl

of_delivered : (o : Option ℕ) → FaultRuling false (books (option_map (λ k. Delivered k) o))
of_delivered None = refl
of_delivered (Some k) = refl

of_signed : (J : List Entry) (m : Machine) → FaultRuling false (signed J m)
of_signed J machine.Feed = of_laid_in (expected_of J) (count_by is_admitted J + 1)
of_signed J machine.Deposit = of_delivered (plate_of J station.DepEnd)
of_signed J machine.Table = refl
of_signed J machine.Robot = refl
of_signed J machine.Press1 = refl
of_signed J machine.Press2 = refl

of_sign : (J : List Entry) (m : Machine) (sign : Bool) → FaultRuling false (by_sign J m sign)
of_sign J m true = of_signed J m
of_sign J m false = refl

of_arrival : (J : List Entry) (m : Machine) (sign : Bool) (o : Option Motion) (v : Verdict)
    → FaultRuling false (by_end J m sign o v)
of_arrival J m sign None v = of_sign J m sign
of_arrival J m sign (Some mo) Pending = of_sign J m sign
of_arrival J m sign (Some mo) (Fault c) = of_sign J m sign
of_arrival J m sign (Some mo) Arrived = of_ending J mo.axis mo.to

of_rest_point : (J : List Entry) (m : Machine) (sign : Bool) (o : Option Motion) (v u : Verdict)
    → is_command_verdict u ≡ false → FaultRuling false (by_rest J m sign o v u)
of_rest_point J m sign o v (Fault c) h = of_cause m c h
of_rest_point J m sign o v Arrived h = of_arrival J m sign o v
of_rest_point J m sign o v Pending h = of_arrival J m sign o v

of_axis_point : (J : List Entry) (m : Machine) (sign : Bool) (o : Option Motion) (v u : Verdict)
    → is_command_verdict v ≡ false → is_command_verdict u ≡ false → FaultRuling false (by_axis J m sign o v u)
of_axis_point J m sign o (Fault c) u h k = of_cause m c h
of_axis_point J m sign o Arrived u h k = of_rest_point J m sign o Arrived u k
of_axis_point J m sign o Pending u h k = of_rest_point J m sign o Pending u k

-- the second point declares a CommandFault, and it applies just where a command failed
of_points : (J : List Entry) (m : Machine) (kept : Memory) (found : Findings) → is_command_verdict found.at_axis ≡ false
    → is_command_verdict found.at_rest ≡ false → FaultRuling kept.command_failed (ruling_by J m kept found)
of_points J m kept found h k = go (is_failed J m) kept.command_failed (is_asked J m) kept.failed
  where
    go : (failed a b c : Bool) → FaultRuling a (by_all J m failed a b c (kept.sign && found.sign) found.motion
        found.at_axis found.at_rest)
    go true a b c = tt
    go false true b c = refl
    go false false true c = refl
    go false false false true = refl
    go false false false false = of_axis_point J m (kept.sign && found.sign) found.motion found.at_axis found.at_rest h
        k

of_ruling : (J : List Entry) (m : Machine) (p : Plan) (s : Mind) (r : Option Reading)
    → FaultRuling s.memory.command_failed (ruling J m p s r)
unfolding ruling
of_ruling J m p s r = of_points J m s.memory (findings J m p s r) (of_following (axis_noted J m p s.axis r))
    (of_rest (rest_noted J m s.memory s.rest r))

left : (a b : Bool) → (a && b) ≡ true → a ≡ true
left true b h = refl
left false b h = cc

unwanted : (l : BookLimits) (c : Situation) (plan : ℕ) (m n : Machine) (why : Cause)
    → wants l c plan m (Declared n why) ≡ false
unwanted l c plan machine.Feed n why = refl
unwanted l c plan machine.Table n why = refl
unwanted l c plan machine.Robot n why = refl
unwanted l c plan machine.Press1 n why = refl
unwanted l c plan machine.Press2 n why = refl
unwanted l c plan machine.Deposit n why = refl

-- a useful entry is wanted, and no machine wants a declaration
of_useful : (l : BookLimits) (J : List Entry) (plan : ℕ) (m : Machine) (e : Entry) → is_useful l J plan m e ≡ true
    → is_command_fault e ≡ false
unfolding is_useful_now
of_useful l J plan m (Declared n why) h =
    absurd (differ (sym (unwanted l (situation_of J) plan m n why)
    ∙ left (wants l (situation_of J) plan m (Declared n why)) (is_bookable l (situation_of J) (Declared n why)) h))
  where
    differ : false ≡ true → ⊥
    differ q = cc
of_useful l J plan m _ h = refl

of_ruled : (l : BookLimits) (J : List Entry) (m : Machine) (plates : ℕ) (failed : Bool) (k : Ruling) (e : Entry)
    → FaultRuling failed k → IsRuled l J m plates k (Some e) → is_command_fault e ≡ failed
of_ruled l J m plates failed Nothing e f h = cc
of_ruled l J m plates failed PastLast e f h = absurd h
of_ruled l J m plates failed Proposes e f h =
    of_useful l J plates m e (some_proposed l J plates m (Some e) h) ∙ sym f
of_ruled l J m plates failed (Books x) e f h = subst (λ (o : Option Entry). on_entry o) (sym h) f
  where
    on_entry : Option Entry → Type 0
    on_entry None = Unit {0}
    on_entry (Some y) = is_command_fault y ≡ failed

-- a turn books a CommandFault exactly where the last command failed
pub fault_decided : (l : BookLimits) (J : List Entry) (m : Machine) (p : Plan) (s : Mind) (r : Option Reading)
    (e : Entry) → IsDecided l J m p s r (Some e) → is_command_fault e ≡ s.memory.command_failed
fault_decided l J m p s r e h = of_ruled l J m p.plates s.memory.command_failed (ruling J m p s r) e
    (of_ruling J m p s r) h

-- the same of a watch
pub fault_booked : (l : BookLimits) (J : List Entry) (m : Machine) (p : Plan) (w : Watch) (r : Option Reading)
    (o : Option Entry)
    → ((s : Mind) → FitsMind w s → IsDecided l J m p s r o) → IfSome o (λ e. is_command_fault e ≡ has_failed_command w)
fault_booked l J m p w r None h = tt
fault_booked l J m p w r (Some e) h = of_some w (is_command_fault e) (has_failed_command w)
    (λ s fit. fault_decided l J m p s r e (h s fit) ∙ sym (ap (λ (k : Memory). k.command_failed) fit.memory))
