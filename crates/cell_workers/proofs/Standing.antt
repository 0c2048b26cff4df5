-- What a turn books is useful where it stands
use Rattle.std.proofs.Common.{◌≡◌, ℕ, ◌+◌, Bool, true, false, ◌&&◌, nat_lt, Option, Some, None, List, [], ◌∷◌, ◌++◌}
use Rattle.std.proofs.Common.{IfSome, option_to_list, if◌then◌else◌, refl, sym, ap, ◌∙◌, subst, append_assoc}
use Rattle.std.proofs.Common.{append-nil}
use Rattle.std.specs.Option.{option_map}
use Rattle.std.specs.List.{count_by}
use Rattle.cell_types.specs.declared.words.Machine.{Machine}
use Rattle.cell_types.specs.declared.words.Machine.TheVariants as machine
use Rattle.cell_types.specs.declared.words.Station.{Station}
use Rattle.cell_types.specs.declared.words.Station.TheVariants as station
use Rattle.cell_types.specs.declared.words.Axis.{Axis}
use Rattle.cell_types.specs.declared.words.Axis.TheVariants as axis
use Rattle.cell_types.specs.declared.words.Pose.{Pose}
use Rattle.cell_types.specs.declared.words.Pose.TheVariants as pose
use Rattle.cell_types.specs.declared.words.Actor.TheVariants as actor
use Rattle.cell_types.specs.declared.words.Actor.{Actor}
use Rattle.cell_types.specs.declared.words.Entry.{Entry}
use Rattle.cell_types.specs.declared.words.Entry.TheVariants.{Lamp, Admitted, Claimed, Yielded, Started, Conveyed}
use Rattle.cell_types.specs.declared.words.Entry.TheVariants.{Forged, Gripped, Dropped, Delivered}
use Rattle.cell_types.specs.Entries.{actor_of}
use Rattle.cell_rules.specs.Views.{plate_of, is_failed, is_asked, expected_of, is_admitted}
use Rattle.cell_rules.specs.declared.limits.BookLimits.{BookLimits}
use Rattle.cell_rules.specs.History.{History}
use Rattle.cell_machines.specs.Useful.{is_useful, is_lamp}
use Rattle.cell_machines.proofs.Own.{useful_own, plan_law}
use Rattle.cell_machines.proofs.Proposed.{some_proposed}
use Rattle.cell_diagnosis.specs.declared.motion.Motion.{Motion}
use Rattle.cell_diagnosis.specs.declared.reading.Reading.{Reading}
use Rattle.cell_diagnosis.specs.declared.verdict.Verdict.{Verdict}
use Rattle.cell_diagnosis.specs.declared.verdict.Verdict.TheVariants.{Pending, Arrived, Fault}
use Rattle.cell_ports.specs.declared.plan.Plan.{Plan}
use Rattle.cell_turns.specs.declared.turns.decide.Findings.{Findings}
use Rattle.cell_turns.specs.declared.turns.decide.Ruling.{Ruling}
use Rattle.cell_turns.specs.declared.turns.decide.Ruling.TheVariants.{Nothing, Books, PastLast, Proposes}
use Rattle.cell_turns.specs.declared.watch.Memory.{Memory}
use Rattle.cell_turns.specs.declared.watch.Watch.{Watch}
use Rattle.cell_turns.specs.Minds.{Mind, FitsMind}
use Rattle.cell_turns.specs.Observed.{findings}
use Rattle.cell_turns.specs.Rulings.{ending, laid_in, books, signed, ruling_by, ruling}
use Rattle.cell_turns.specs.Turns.{IsRuled, IsDecided}
use Rattle.cell_workers.specs.Standing.{is_move, is_useful_for, is_called_for, called_for_from, all_called_for}
use Rattle.cell_turns.proofs.Minds.{of_some}
use Rattle.cell_turns.proofs.Points.{by_sign, by_end, by_rest, by_axis, by_all}

-- what the points book by themselves is no move
abbrev Still : Ruling → Type 0
Still (Books e) = is_move e ≡ false
Still _ = Unit {0}

of_conveyed : (a : Axis) (dest : Station) (o : Option ℕ) → Still (books (option_map (λ k. Conveyed a k dest) o))
of_conveyed a dest None = tt
of_conveyed a dest (Some k) = refl

of_forged : (m : Machine) (o : Option ℕ) → Still (books (option_map (λ k. Forged m k) o))
of_forged m None = tt
of_forged m (Some k) = refl

of_ending : (J : List Entry) (a : Axis) (to : Pose) → Still (books (ending J a to))
of_ending J axis.FeedBelt pose.ToEnd = of_conveyed axis.FeedBelt station.FeedEnd (plate_of J station.FeedIn)
of_ending J axis.FeedBelt pose.ToTable = of_conveyed axis.FeedBelt station.Table (plate_of J station.FeedEnd)
of_ending J axis.FeedBelt _ = tt
of_ending J axis.DepositBelt pose.ToEnd = of_conveyed axis.DepositBelt station.DepEnd (plate_of J station.DepIn)
of_ending J axis.DepositBelt _ = tt
of_ending J axis.PressOne pose.Top = of_forged machine.Press1 (plate_of J station.Press1)
of_ending J axis.PressTwo pose.Top = of_forged machine.Press2 (plate_of J station.Press2)
of_ending J a to = refl

of_next : (k : ℕ) (b : Bool) → Still (if b then PastLast else Books (Admitted k))
of_next k true = tt
of_next k false = refl

of_laid_in : (o : Option ℕ) (k : ℕ) → Still (laid_in o k)
of_laid_in None k = of_next k (nat_lt 100000 k)
of_laid_in (Some j) k = refl

of_delivered : (o : Option ℕ) → Still (books (option_map (λ k. Delivered k) o))
of_delivered None = tt
of_delivered (Some k) = refl

of_signed : (J : List Entry) (m : Machine) → Still (signed J m)
of_signed J machine.Feed = of_laid_in (expected_of J) (count_by is_admitted J + 1)
of_signed J machine.Deposit = of_delivered (plate_of J station.DepEnd)
of_signed J machine.Table = tt
of_signed J machine.Robot = tt
of_signed J machine.Press1 = tt
of_signed J machine.Press2 = tt

of_sign : (J : List Entry) (m : Machine) (sign : Bool) → Still (by_sign J m sign)
of_sign J m true = of_signed J m
of_sign J m false = tt

of_arrival : (J : List Entry) (m : Machine) (sign : Bool) (o : Option Motion) (v : Verdict)
    → Still (by_end J m sign o v)
of_arrival J m sign None v = of_sign J m sign
of_arrival J m sign (Some mo) Pending = of_sign J m sign
of_arrival J m sign (Some mo) (Fault c) = of_sign J m sign
of_arrival J m sign (Some mo) Arrived = of_ending J mo.axis mo.to

of_rest_point : (J : List Entry) (m : Machine) (sign : Bool) (o : Option Motion) (v u : Verdict)
    → Still (by_rest J m sign o v u)
of_rest_point J m sign o v (Fault c) = refl
of_rest_point J m sign o v Arrived = of_arrival J m sign o v
of_rest_point J m sign o v Pending = of_arrival J m sign o v

of_axis_point : (J : List Entry) (m : Machine) (sign : Bool) (o : Option Motion) (v u : Verdict)
    → Still (by_axis J m sign o v u)
of_axis_point J m sign o (Fault c) u = refl
of_axis_point J m sign o Arrived u = of_rest_point J m sign o Arrived u
of_axis_point J m sign o Pending u = of_rest_point J m sign o Pending u

-- a move is always proposed, never booked by one of the other points
of_points : (J : List Entry) (m : Machine) (kept : Memory) (found : Findings) → Still (ruling_by J m kept found)
of_points J m kept found = go (is_failed J m) kept.command_failed (is_asked J m) kept.failed
  where
    go : (failed a b c : Bool) → Still (by_all J m failed a b c (kept.sign && found.sign) found.motion found.at_axis
        found.at_rest)
    go true a b c = tt
    go false true b c = refl
    go false false true c = refl
    go false false false true = tt
    go false false false false = of_axis_point J m (kept.sign && found.sign) found.motion found.at_axis found.at_rest

of_ruling : (J : List Entry) (m : Machine) (p : Plan) (s : Mind) (r : Option Reading) → Still (ruling J m p s r)
unfolding ruling
of_ruling J m p s r = of_points J m s.memory (findings J m p s r)

-- only moves are asked to be useful
still_called : (l : BookLimits) (J : List Entry) (e : Entry) → is_move e ≡ false → is_called_for l J e ≡ true
still_called l J e h = ap (λ b. if b then is_useful_for l J e (actor_of e) else true) h

either : (b c : Bool) → (b ≡ true → c ≡ true) → (if b then c else true) ≡ true
either true c h = h refl
either false c h = refl

-- the plates that are planned matter for the lamps alone, and those are no moves
no_lamp : (e : Entry) → is_move e ≡ true → is_lamp e ≡ false
no_lamp (Lamp b to) h = cc
no_lamp _ h = refl

-- a useful entry that is a move is useful with no plates planned
useful_called : (l : BookLimits) (J : List Entry) (plates : ℕ) (m : Machine) (e : Entry)
    → is_useful l J plates m e ≡ true → is_called_for l J e ≡ true
useful_called l J plates m e h =
    either (is_move e) (is_useful_for l J e (actor_of e))
    (λ moves. ap (λ (a : Actor). is_useful_for l J e a) (useful_own l J plates m e h)
    ∙ (plan_law l J 0 plates m e (no_lamp e moves) ∙ h))

of_ruled : (l : BookLimits) (J : List Entry) (m : Machine) (plates : ℕ) (k : Ruling) (e : Entry) → Still k
    → IsRuled l J m plates k (Some e) → is_called_for l J e ≡ true
of_ruled l J m plates Nothing e f h = cc
of_ruled l J m plates PastLast e f h = absurd h
of_ruled l J m plates Proposes e f h =
    useful_called l J plates m e (some_proposed l J plates m (Some e) h)
of_ruled l J m plates (Books x) e f h = still_called l J e (subst (λ (o : Option Entry). on_entry o) (sym h) f)
  where
    on_entry : Option Entry → Type 0
    on_entry None = Unit {0}
    on_entry (Some y) = is_move y ≡ false

pub decided_called : (l : BookLimits) (J : List Entry) (m : Machine) (p : Plan) (s : Mind) (r : Option Reading)
    (e : Entry) → IsDecided l J m p s r (Some e) → is_called_for l J e ≡ true
decided_called l J m p s r e h = of_ruled l J m p.plates (ruling J m p s r) e (of_ruling J m p s r) h

-- the same of a watch
pub called_booked : (l : BookLimits) (J : List Entry) (m : Machine) (p : Plan) (w : Watch) (r : Option Reading)
    (o : Option Entry)
    → ((s : Mind) → FitsMind w s → IsDecided l J m p s r o) → IfSome o (λ e. is_called_for l J e ≡ true)
called_booked l J m p w r None h = tt
called_booked l J m p w r (Some e) h = of_some w (is_called_for l J e) true
    (λ s fit. decided_called l J m p s r e (h s fit))

-- the operator's entries are no moves
pub his_called : (l : BookLimits) (J : List Entry) (e : Entry) → actor_of e ≡ actor.Operator
    → is_called_for l J e ≡ true
his_called l J (Claimed m z) h = cc
his_called l J (Yielded m z) h = cc
his_called l J (Started a to) h = cc
his_called l J (Gripped x k src) h = cc
his_called l J (Dropped x k dest) h = cc
his_called l J _ h = refl

-- a journal with one entry more

both : (a b : Bool) → a ≡ true → b ≡ true → (a && b) ≡ true
both a b p q = ap (λ x. x && b) p ∙ q

split : (a b : Bool) → (a && b) ≡ true → (a ≡ true) × (b ≡ true)
split true b e = (refl, e)
split false b e = cc

-- each entry is judged by those before it, so one more at the end changes nothing for them
called-push : (l : BookLimits) (done es : List Entry) (e : Entry) → called_for_from l done es ≡ true
    → is_called_for l (done ++ es) e ≡ true → called_for_from l done (es ++ e ∷ []) ≡ true
called-push l done [] e h t = both _ _ (ap (λ d. is_called_for l d e) (sym (append-nil done)) ∙ t) refl
called-push l done (x ∷ es) e h t =
    let p = split (is_called_for l done x) (called_for_from l (done ++ x ∷ []) es) h in
    both _ _ p.0 (called-push l (done ++ x ∷ []) es e p.1 (ap (λ d. is_called_for l d e) (append_assoc done (x ∷ []) es)
    ∙ t))

pub called_after : (l : BookLimits) (J : List Entry) (next : History) (o : Option Entry)
    → next ≡ record { limits = l; entries = J ++ option_to_list o } → all_called_for l J ≡ true
    → IfSome o (λ e. is_called_for l J e ≡ true) → all_called_for next.limits next.entries ≡ true
called_after l J next None is all h = ap (λ (k : History). all_called_for k.limits k.entries) is
    ∙ ap (all_called_for l) (append-nil J) ∙ all
called_after l J next (Some e) is all h = ap (λ (k : History). all_called_for k.limits k.entries) is
    ∙ called-push l [] J e all h
