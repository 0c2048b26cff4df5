-- The whole cell, through the moves of a run in which the operator stops, clears and repairs machines
-- without a belt
use Rattle.std.proofs.Common.{◌≡◌, ◌⊎◌, inl, inr, Bool, true, false, Option, Some, None, List, [], ◌∷◌, refl, sym}
use Rattle.std.proofs.Common.{ap}
use Rattle.std.proofs.Common.{◌∙◌}
use Rattle.std.proofs.Common.{subst, if◌then◌else◌}
use Rattle.std.specs.Option.{option_and_then, option_map}
use Rattle.std.proofs.Common.{ℕ}
use Rattle.cell_types.specs.declared.words.Entry.{Entry}
use Rattle.cell_types.specs.declared.words.Colour.TheVariants as colour
use Rattle.cell_types.specs.declared.words.Entry.TheVariants.{Quarantined, Repaired, StopAsked}
use Rattle.cell_types.specs.declared.words.Station.{Station}
use Rattle.cell_types.specs.Cell.{machine_of_station}
use Rattle.cell_rules.specs.Views.{plate_of}
use Rattle.cell_types.specs.declared.words.Machine.{Machine}
use Rattle.cell_rules.specs.History.{History}
use Rattle.cell_rules.specs.Legal.{allowed, first_of}
use Rattle.cell_rules.specs.declared.limits.BookLimits.{BookLimits}
use Rattle.cell_measures.specs.declared.durations.Durations.{Durations}
use Rattle.cell_ports.specs.declared.plan.Plan.{Plan}
use Rattle.cell_ports.specs.declared.port.Act.TheVariants.{Home, Remove}
use Rattle.cell_turns.specs.Acts.{act_of}
use Rattle.cell_turns.specs.Minds.{Mind, first_mind}
use Rattle.cell_plant.specs.declared.keeper.Unkept.{Unkept}
use Rattle.operator_desk.specs.declared.action.Action.{Action}
use Rattle.operator_desk.specs.declared.action.Action.TheVariants as action
use Rattle.operator_desk.specs.declared.line.Line.{Line}
use Rattle.operator_desk.specs.declared.line.Task.{Task}
use Rattle.operator_desk.specs.declared.line.Task.TheVariants as task
use Rattle.operator_desk.specs.Next.{action_now, action_of, entry_of, holds, if_allowed, left_after, next_of}
use Rattle.cell_rounds.specs.Moves.{Leads, Terms, terms_of}
use Rattle.cell_rounds.specs.Stands.{Stand, start}
use Rattle.cell_sim.specs.Readings.{after_reading, shown}
use Rattle.cell_sim.specs.Simulated.{Simulated}
use Rattle.sim_plant.specs.Answers.{AnswersSo, SimCell}
use Rattle.cell_runs.specs.Cells.{AllKept}
use Rattle.cell_world.specs.Agreeing.{has_belt}
use Rattle.cell_world.specs.BeltTurning.{BeltAsBooked}
use Rattle.cell_world.specs.Running.{Allows, opened}
use Rattle.cell_world.specs.Starting.{one_more}
use Rattle.cell_world.specs.StopRuns.{AreServices, EndWithStops, IsBookedOrStopped, NoneCollidesByStops, RunWithStops}
use Rattle.cell_world.specs.Stopping.{CellWithStops, WorksOrStopped}
use Rattle.cell_world.proofs.BeltReads.{read_counts}
use Rattle.cell_world.proofs.Clearing.{clearing_keeps}
use Rattle.cell_world.proofs.Halts.{read_still}
use Rattle.cell_world.proofs.Hand.{done_by, hand_counts}
use Rattle.cell_world.proofs.Machines.{rest_after}
use Rattle.cell_world.proofs.Spared.{some_same}
use Rattle.cell_world.proofs.Moves.{Holding, Holds, HoldsOn, clear, come, ended}
use Rattle.cell_world.proofs.Owned.{decided_owned}
use Rattle.cell_world.proofs.Rounds.{round_collisions}
use Rattle.cell_world.proofs.Shows.{leaves_collisions}
use Rattle.cell_world.proofs.Stopping.{asking_keeps, none_stopped, plain_of, repairing_keeps, stopped_round_kept}
use Rattle.cell_world.proofs.Stopping.{stops_kept}
use Rattle.cell_world.proofs.Whole.{cell_opening}

-- THE SCRIPT

if_some : {A : Type 0} (b : Bool) (o : Option A) (x : A) → (if b then o else None) ≡ Some x → o ≡ Some x
if_some true o x h = h
if_some false o x h = cc h

-- the action of such a line asks a machine without a belt to stop, repairs one, or clears a station of one
data Serves (J : List Entry) (a : Action) : Type 0 where
  stops : (m : Machine) → has_belt m ≡ false → action.Stop m ≡ a → Serves J a
  repairs : (m : Machine) → has_belt m ≡ false → action.Repair m ≡ a → Serves J a
  clears : (s : Station) (k : ℕ) → has_belt (machine_of_station s) ≡ false → plate_of J s ≡ Some k
      → action.Clear s k ≡ a → Serves J a

-- the action of a task that is always one
acts_so : (h : History) (k : Task) (b a : Action) → action_of h.entries k ≡ Some b
    → option_and_then (if_allowed h) (action_of h.entries k) ≡ Some a → b ≡ a
acts_so h k b a e n =
    let x = sym (ap (λ (o : Option Action). option_and_then (if_allowed h) o) e) ∙ n in
    some_same b a (if_some (allowed h.limits h.entries (entry_of b)) (Some b) a x)

stop_acts : (h : History) (m : Machine) → action_of h.entries (task.Stop m) ≡ Some (action.Stop m)
unfolding action_of
stop_acts h m = refl

repair_acts : (h : History) (m : Machine) → action_of h.entries (task.Repair m) ≡ Some (action.Repair m)
unfolding action_of
repair_acts h m = refl

served : (h : History) (k : Task) (a : Action) (m : Machine) → has_belt m ≡ false
    → (k ≡ task.Stop m) ⊎ (k ≡ task.Repair m) → option_and_then (if_allowed h) (action_of h.entries k) ≡ Some a
    → Serves h.entries a
served h k a m b (inl e) n =
    stops m b (acts_so h k (action.Stop m) a (ap (action_of h.entries) e ∙ stop_acts h m) n)
served h k a m b (inr e) n =
    repairs m b (acts_so h k (action.Repair m) a (ap (action_of h.entries) e ∙ repair_acts h m) n)

clear_acts : (h : History) (s : Station) (k : ℕ) → plate_of h.entries s ≡ Some k
    → action_of h.entries (task.Clear s) ≡ Some (action.Clear s k)
unfolding action_of
clear_acts h s k e = ap (λ (o : Option ℕ). option_map (λ i. action.Clear s i) o) e

clear_none : (h : History) (s : Station) → plate_of h.entries s ≡ None → action_of h.entries (task.Clear s) ≡ None
unfolding action_of
clear_none h s e = ap (λ (o : Option ℕ). option_map (λ i. action.Clear s i) o) e

none_acts : (h : History) (o : Option Action) (a : Action) → o ≡ None → option_and_then (if_allowed h) o ≡ Some a → ⊥
none_acts h o a e n =
    let x : None ≡ Some a = sym (ap (λ (y : Option Action). option_and_then (if_allowed h) y) e) ∙ n in cc x

cleared_by : (h : History) (k : Task) (a : Action) (s : Station) (o : Option ℕ)
    → has_belt (machine_of_station s) ≡ false → plate_of h.entries s ≡ o → k ≡ task.Clear s
    → option_and_then (if_allowed h) (action_of h.entries k) ≡ Some a → Serves h.entries a
cleared_by h k a s None b o e n =
    absurd (none_acts h (action_of h.entries k) a (ap (action_of h.entries) e ∙ clear_none h s o) n)
cleared_by h k a s (Some j) b o e n =
    clears s j b o (acts_so h k (action.Clear s j) a (ap (action_of h.entries) e ∙ clear_acts h s j o) n)

serves_next : (ls : List Line) (h : History) (a : Action) → AreServices ls → next_of ls h ≡ Some a
    → Serves h.entries a
unfolding action_now
serves_next [] h a t n = cc n
serves_next (line ∷ rest) h a (inl (m, b, e), t) n =
    served h line.task a m b e
    (if_some (holds h.entries line.when) (option_and_then (if_allowed h) (action_of h.entries line.task)) a n)
serves_next (line ∷ rest) h a (inr (s, b, e), t) n =
    cleared_by h line.task a s (plate_of h.entries s) b refl e
    (if_some (holds h.entries line.when) (option_and_then (if_allowed h) (action_of h.entries line.task)) a n)

left_stops : (ls : List Line) → AreServices ls → AreServices (left_after ls)
left_stops [] t = tt
left_stops (line ∷ rest) t = t.1

-- WHAT HOLDS

other_minds : (l : BookLimits) (J : List Entry) (p : Plan) (minds others : Machine → Mind) (w : Simulated)
    → ((n : Machine) → minds n ≡ others n) → CellWithStops l J p minds w → CellWithStops l J p others w
other_minds l J p minds others w h t =
    record {
      legal = t.legal;
      fair = t.fair;
      wanted = t.wanted;
      switches = λ n b. subst (λ (x : Mind). WorksOrStopped J p n x w) (h n) (t.switches n b);
      belts = λ n b. subst (λ (x : Mind). BeltAsBooked J p n x w) (h n) (t.belts n b);
      stations = t.stations;
    }

abbrev WithStops : Terms → Holding
WithStops T ls J minds w = AreServices ls × IsBookedOrStopped T.limits J T.plan minds w

member_counts : (J : List Entry) (p : Plan) (m : Machine) (s : Mind) (w : Simulated) → has_belt m ≡ false
    → WorksOrStopped J p m s w → (after_reading w m).collisions ≡ w.collisions
member_counts J p m s w b (inl t) = leaves_collisions J p m s.axis w b t.tied
member_counts J p m s w b (inr (inr t)) = ap (λ (v : Simulated). v.collisions) (rest_after J m w b t.rest)
member_counts J p m s w b (inr (inl t)) =
    ap (λ (v : Simulated). v.collisions)
    (read_still m w b (λ a e. ((t.halted a e).still, (t.halted a e).read)))

read_by : (l : BookLimits) (J : List Entry) (p : Plan) (minds : Machine → Mind) (w : Simulated) (m : Machine)
    (b : Bool) → has_belt m ≡ b → CellWithStops l J p minds w → (after_reading w m).collisions ≡ w.collisions
read_by l J p minds w m false b t = member_counts J p m (minds m) w b (t.switches m b)
read_by l J p minds w m true b t = read_counts J p m (minds m).axis w b (t.belts m b).tied

-- the operator asks for a stop, repairs or clears
abbrev Handed : Terms → List Line → List Entry → (Machine → Mind) → Simulated → Action → Type 0
Handed T ls J f w a =
    WithStops T (left_after ls) (one_more J (entry_of a)) f (done_by (act_of (entry_of a)) w)

stop_kept : (T : Terms) (ls : List Line) (J : List Entry) (f : Machine → Mind) (w : Simulated) (m : Machine)
    → WithStops T ls J f w → has_belt m ≡ false → first_of T.limits J (StopAsked m) ≡ None
    → Handed T ls J f w (action.Stop m)
stop_kept T ls J f w m t b free = (left_stops ls t.0, (asking_keeps T.limits J T.plan f w m b free t.1.0, t.1.1))

repair_kept : (T : Terms) (ls : List Line) (J : List Entry) (f : Machine → Mind) (w : Simulated) (m : Machine)
    → WithStops T ls J f w → has_belt m ≡ false → first_of T.limits J (Repaired m) ≡ None
    → Handed T ls J f w (action.Repair m)
repair_kept T ls J f w m t b free = (
  left_stops ls t.0,
  (
    repairing_keeps T.limits J T.plan f w m b free t.1.0,
    hand_counts (Some (Home m)) w (plain_of T.limits J T.plan f w t.1.0) ∙ t.1.1,
  ),
)

clear_kept : (T : Terms) (ls : List Line) (J : List Entry) (f : Machine → Mind) (w : Simulated) (s : Station) (k : ℕ)
    → WithStops T ls J f w → has_belt (machine_of_station s) ≡ false → plate_of J s ≡ Some k
    → first_of T.limits J (Quarantined k s) ≡ None → Handed T ls J f w (action.Clear s k)
clear_kept T ls J f w s k t b here free = (
  left_stops ls t.0,
  (
    clearing_keeps T.limits J T.plan f w k s b here free t.1.0,
    hand_counts (Some (Remove s)) w (plain_of T.limits J T.plan f w t.1.0) ∙ t.1.1,
  ),
)

abbrev Free : Terms → List Entry → Action → Type 0
Free T J a = first_of T.limits J (entry_of a) ≡ None

hand_by : (T : Terms) (ls : List Line) (J : List Entry) (f : Machine → Mind) (w : Simulated) (a : Action)
    → WithStops T ls J f w → Serves J a → Free T J a → Handed T ls J f w a
hand_by T ls J f w a t (stops m b e) free =
    subst (Handed T ls J f w) e (stop_kept T ls J f w m t b (subst (Free T J) (sym e) free))
hand_by T ls J f w a t (repairs m b e) free =
    subst (Handed T ls J f w) e (repair_kept T ls J f w m t b (subst (Free T J) (sym e) free))
hand_by T ls J f w a t (clears s k b h e) free =
    subst (Handed T ls J f w) e (clear_kept T ls J f w s k t b h (subst (Free T J) (sym e) free))

holds_on : (T : Terms) → HoldsOn T (WithStops T)
holds_on T =
    let l = T.limits in let p = T.plan in
    record {
      alike = λ ls J f g w h t. (t.0, (other_minds l J p f g w h t.1.0, t.1.1));
      turn = λ ls J f w m e t decided allowed. let left = stops_kept l J p f w m e t.1.0 (record {
        decided = decided;
        allowed = allowed;
        own = decided_owned l J m p (f m) (shown w m) e t.1.0.legal decided;
      }) in (t.0, (left.0, left.1 ∙ t.1.1));
      round = λ ls J f w t. (t.0, (stopped_round_kept l J p f w t.1.0, round_collisions w ∙ t.1.1));
      hand = λ ls J f w a t next free.
          hand_by T ls J f w a t (serves_next ls (record { limits = l; entries = J }) a t.0 next) free;
      plain = λ ls J f w t. plain_of l J p f w t.1.0;
      counts = λ ls J f w t. t.1.1;
      reads = λ ls J f w m t. read_by l J p f w m (has_belt m) refl t.1.0 ∙ t.1.1;
    }

-- THE RUN

first_held : (T : Terms) (ds : Durations) → Allows T.plan ds
    → CellWithStops T.limits [] T.plan (λ m. first_mind [] m) (opened T.plan ds).world
first_held T ds fair =
    none_stopped T.limits [] T.plan (λ m. first_mind [] m) (opened T.plan ds).world
    (cell_opening T.limits T.plan ds fair) (λ g. let c : colour.Red ≡ colour.Green = g in cc c)

stands : (T : Terms) (ds : Durations) (lines : List Line) (k : Unkept) (t : Stand SimCell Unkept) → Allows T.plan ds
    → AreServices lines → Leads AnswersSo AllKept T (start (opened T.plan ds) k [] lines None) t
    → Holds T (WithStops T) t
stands T ds lines k t fair are leads =
    come T (WithStops T) (opened T.plan ds) k [] lines t (holds_on T) refl
    (are, (first_held T ds fair, refl))
    leads

pub run_with_stops : RunWithStops
run_with_stops T ds lines s fair are (k, leads) = (stands T ds lines k s fair are leads).holds.1

pub end_with_stops : EndWithStops
end_with_stops l p ds lines new J e fair are (h, k, j, is, halts) memory full =
    let T = terms_of l p false in
    let end = ended T (WithStops T) (start (opened p ds) k [] lines None) h new j J
    (λ t leads. stands T ds lines k t fair are leads) halts (λ i. memory (is ∙ i)) (λ i. full (is ∙ i)) in
    (end.1, end.2.1)

pub none_collides_by_stops : NoneCollidesByStops
none_collides_by_stops l p ds lines new J e fair are (h, k, j, is, halts) =
    let T = terms_of l p false in
    clear T (WithStops T) (start (opened p ds) k [] lines None) h new j J (holds_on T)
    (λ t leads. stands T ds lines k t fair are leads) halts
