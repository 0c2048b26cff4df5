-- The whole cell, of which machines fail by faults that last, through the turns of each machine
use Rattle.std.specs.Option.{option_and_then}
use Rattle.std.specs.Prelude.{option_to_list, unwrap_or}
use Rattle.std.proofs.Common.{◌||◌, ◌≡◌, ◌≢◌, ◌⊎◌, inl, inr, ℕ, ◌==◌, Bool, true, false, ◌&&◌, Option, Some, None, List}
use Rattle.std.proofs.Common.{[], ◌∷◌, ◌++◌, is_none, refl, sym, ap, ◌∙◌, subst, IfSome, if◌then◌else◌}
use Rattle.std.proofs.lemmas.List.{append-nil}
use Rattle.cell_types.specs.declared.words.Axis.{Axis}
use Rattle.cell_types.specs.declared.words.Cause.{Cause}
use Rattle.cell_types.specs.declared.words.Cause.TheVariants as cause
use Rattle.cell_types.specs.declared.words.Command.{Command}
use Rattle.cell_types.specs.declared.words.Command.TheVariants.{AllOff, Lamp, MagnetOff, MagnetOn, Off, On}
use Rattle.cell_types.specs.declared.words.Entry.{Entry}
use Rattle.cell_types.specs.declared.words.Entry.TheVariants.{Declared, Forged, Started}
use Rattle.cell_types.specs.declared.words.Machine.{Machine}
use Rattle.cell_types.specs.declared.words.Machine.TheVariants as machine
use Rattle.cell_types.specs.declared.words.Pose.{Pose}
use Rattle.cell_types.specs.Cell.{machine_of_axis, press_axis}
use Rattle.cell_types.specs.Entries.{command_of, machine_of_entry, off_command}
use Rattle.cell_types.specs.Same.{same_axis, same_machine}
use Rattle.cell_rules.specs.declared.limits.BookLimits.{BookLimits}
use Rattle.cell_rules.specs.Last.{when}
use Rattle.cell_rules.specs.Legal.{first_of, legal}
use Rattle.cell_rules.specs.Views.{asks, is_asked, is_failed}
use Rattle.cell_rules.proofs.Safe.Facts.{and_both, axis_same, machine_same}
use Rattle.cell_rules.proofs.Safe.Views.{view_snoc}
use Rattle.cell_ports.specs.declared.plan.Plan.{Plan}
use Rattle.cell_turns.specs.declared.turns.decide.Ruling.{Ruling}
use Rattle.cell_turns.specs.Minds.{Mind}
use Rattle.cell_turns.specs.Schedules.{mind_sent}
use Rattle.cell_turns.specs.Turns.{IsDecided, IsRuled, mind_after}
use Rattle.cell_sim.specs.declared.fault.Fault.{Fault}
use Rattle.cell_sim.specs.declared.fault.PlannedFault.{PlannedFault}
use Rattle.cell_sim.specs.Commands.{motion_number}
use Rattle.cell_sim.specs.Moves.{moves}
use Rattle.cell_sim.specs.Parts.{axis_at}
use Rattle.cell_sim.specs.Readings.{after_reading, after_round, is_silent_in, shown}
use Rattle.cell_sim.specs.Script.{fault_in}
use Rattle.cell_sim.specs.Looks.{is_belt}
use Rattle.cell_sim.specs.Simulated.{Simulated}
use Rattle.cell_world.specs.Agreeing.{has_belt}
use Rattle.cell_world.specs.BeltTurning.{BeltAsBooked, StationsAsBooked}
use Rattle.cell_world.specs.FailCell.{AllLast, CellWithFailing, Fails, FailsAt, FailingKept, FailuresLast}
use Rattle.cell_world.specs.FailCell.{FailingRoundKept}
use Rattle.cell_world.specs.FailCell.{NoOtherFails, NoneFailedYet, has_fault}
use Rattle.cell_world.specs.Failing.{IsDeclared, StaysSick}
use Rattle.cell_world.specs.FailStarts.{IsUnheard, after_turn_with, is_lasting, is_unplanned, mind_with}
use Rattle.cell_world.specs.Going.{IsPlain}
use Rattle.cell_world.specs.OneRun.{is_lost, ordered}
use Rattle.cell_world.specs.Sparing.{IsSpared}
use Rattle.cell_world.specs.Starting.{RobotMayStand, StandsAs, after_order}
use Rattle.cell_world.specs.Stopping.{HasStopped}
use Rattle.cell_world.specs.Switched.{with_mind}
use Rattle.cell_world.specs.Turning.{IsAsBooked, TurnBegins, after_turn}
use Rattle.cell_world.specs.Whole.{CellAsBooked, IsTurnOf}
use Rattle.cell_world.proofs.BeltTurns.{belt_turn_does}
use Rattle.cell_world.proofs.BeltWays.{EndsStay, belt_stays}
use Rattle.cell_world.proofs.Ends.{SparesEnds}
use Rattle.cell_world.proofs.Failing.{DeclaredTurn, SickTurn, sick_as, sick_turn}
use Rattle.cell_world.proofs.FailStarts.{lost_turn, failing_start, unplanned}
use Rattle.cell_world.proofs.Four.{apart, each_mind, kept_as, legal_then, same_machines, turn_healthy, turn_spared}
use Rattle.cell_world.proofs.Four.{turn_unasked}
use Rattle.cell_world.proofs.Laying.{WorldAsBefore}
use Rattle.cell_world.proofs.Long.{fair_then, turn_long}
use Rattle.cell_world.proofs.Machines.{no_belt, tied_stands}
use Rattle.cell_world.proofs.Rounds.{round_ends, round_fair, round_spares, round_stations}
use Rattle.cell_world.proofs.Spared.{some_same, spared_stays}
use Rattle.cell_world.proofs.Steps.{each_axis}
use Rattle.cell_world.proofs.Stopping.{ruled_nothing, stands_spared, stopped_only, stopped_spared, stopped_turn}
use Rattle.cell_world.proofs.Turns.{tied_plain, turn_does}
use Rattle.cell_world.proofs.Whole.{ends_stay, other_kind, other_stay, stations_kept, switch_axis, world_before}

-- FOR WHICH MOTIONS A FAULT IS PLANNED

record FaultIs (faults : List PlannedFault) (a : Axis) (f : Fault) : Type 0 where
  switches : is_belt a ≡ false
  lasts : is_lasting f ≡ true
  planned : has_fault faults (machine_of_axis a) ≡ true

first_is : (g : PlannedFault) (faults : List PlannedFault) (a : Axis) (f : Fault) → g.axis ≡ a → g.fault ≡ f
    → AllLast (g ∷ faults) → FaultIs (g ∷ faults) a f
first_is g faults a f h k t =
    let same : same_machine (machine_of_axis g.axis) (machine_of_axis a) ≡ true =
    ap (λ (b : Axis). same_machine (machine_of_axis b) (machine_of_axis a)) h ∙ same_machines (machine_of_axis a) in
    record {
      switches = ap is_belt (sym h) ∙ t.0;
      lasts = ap is_lasting (sym k) ∙ t.1;
      planned = ap (λ (b : Bool). b || has_fault faults (machine_of_axis a)) same;
    }

or_so : (b c : Bool) → c ≡ true → (b || c) ≡ true
or_so true c h = refl
or_so false c h = h

later_is : (g : PlannedFault) (faults : List PlannedFault) (a : Axis) (f : Fault) → FaultIs faults a f
    → FaultIs (g ∷ faults) a f
later_is g faults a f t =
    record {
      switches = t.switches;
      lasts = t.lasts;
      planned = or_so (same_machine (machine_of_axis g.axis) (machine_of_axis a))
          (has_fault faults (machine_of_axis a)) t.planned;
    }

is_by : (g : PlannedFault) (faults : List PlannedFault) (a : Axis) (n : ℕ) (f : Fault) (b : Bool)
    → (same_axis g.axis a && (g.motion == n)) ≡ b → AllLast (g ∷ faults)
    → (fault_in a n faults ≡ Some f → FaultIs faults a f)
    → (if b then Some g.fault else fault_in a n faults) ≡ Some f → FaultIs (g ∷ faults) a f
is_by g faults a n f true h t other e =
    first_is g faults a f (axis_same g.axis a (and_both (same_axis g.axis a) (g.motion == n) h).0)
    (some_same g.fault f e) t
is_by g faults a n f false h t other e = later_is g faults a f (other e)

fault_is : (faults : List PlannedFault) (a : Axis) (n : ℕ) (f : Fault) → AllLast faults
    → fault_in a n faults ≡ Some f → FaultIs faults a f
fault_is [] a n f t h = cc h
fault_is (g ∷ faults) a n f t h =
    is_by g faults a n f (same_axis g.axis a && (g.motion == n)) refl t (λ e. fault_is faults a n f t.2 e) h

-- COMMANDS FOR WHICH NONE IS

-- a turn does what it does in a cell without a fault
record IsSound (faults : List PlannedFault) (w : Simulated) (m : Machine) (e : Option Entry) : Type 0 where
  world : after_turn_with faults w m e ≡ after_turn w m e
  heard : is_lost faults (after_reading w m) (option_and_then command_of e) ≡ false

order_sound : (faults : List PlannedFault) (r : Simulated) (o : Option Command)
    → ((c : Command) → o ≡ Some c → is_unplanned faults r c ≡ true)
    → (ordered faults r o ≡ after_order r o) × (is_lost faults r o ≡ false)
order_sound faults r None h = (refl, refl)
order_sound faults r (Some c) h = unplanned faults r c (h c refl)

entry_sound : (faults : List PlannedFault) (w : Simulated) (m : Machine) (x : Entry)
    → ((c : Command) → command_of x ≡ Some c → is_unplanned faults (after_reading w m) c ≡ true)
    → IsSound faults w m (Some x)
entry_sound faults w m x h =
    let y = order_sound faults (after_reading w m) (command_of x) h in record { world = y.0; heard = y.1 }

nothing_sound : (faults : List PlannedFault) (w : Simulated) (m : Machine) → IsSound faults w m None
nothing_sound faults w m = record { world = refl; heard = refl }

quiet_sound : (faults : List PlannedFault) (w : Simulated) (m : Machine) (e : Option Entry)
    → IfSome e (λ x. command_of x ≡ None) → IsSound faults w m e
quiet_sound faults w m None h = nothing_sound faults w m
quiet_sound faults w m (Some x) h =
    entry_sound faults w m x (λ c i. let no : None ≡ Some c = sym h ∙ i in cc no)

stop_unplanned : (faults : List PlannedFault) (r : Simulated) (m : Machine) (c : Command) → Some (AllOff m) ≡ Some c
    → is_unplanned faults r c ≡ true
stop_unplanned faults r m c h =
    subst (λ (x : Command). is_unplanned faults r x ≡ true) (some_same (AllOff m) c h) refl

declared_sound : (faults : List PlannedFault) (w : Simulated) (m : Machine) (e : Option Entry) (why : Cause)
    → e ≡ Some (Declared m why) → IsSound faults w m e
declared_sound faults w m e why h =
    subst (λ (o : Option Entry). IsSound faults w m o) (sym h)
    (entry_sound faults w m (Declared m why) (λ c i. stop_unplanned faults (after_reading w m) m c i))

-- the entry of a command to move
off_moves_none : (o : Option Axis) (b : Axis) (to : Pose) → off_command o ≡ Some (On b to) → ⊥
off_moves_none None b to h = cc h
off_moves_none (Some a) b to h = cc h

start_of : (x : Entry) (b : Axis) (to : Pose) → command_of x ≡ Some (On b to) → x ≡ Started b to
start_of (Started c q) b to h = cc h
start_of (Forged k j) b to h = absurd (off_moves_none (press_axis k) b to h)
start_of x b to h = cc h

mover_of : (x : Entry) (m : Machine) (b : Axis) (to : Pose) → command_of x ≡ Some (On b to)
    → machine_of_entry x ≡ Some m → machine_of_axis b ≡ m
mover_of x m b to h own =
    some_same (machine_of_axis b) m (sym (ap machine_of_entry (start_of x b to h)) ∙ own)

-- a machine is told so, or an axis of it is sent on with a fault
data AxisIsTold (faults : List PlannedFault) (m : Machine) (w : Simulated) (e : Option Entry) : Type 0 where
  sound : IsSound faults w m e → AxisIsTold faults m w e
  starts : (a : Axis) (to : Pose) (f : Fault) → machine_of_axis a ≡ m → e ≡ Some (Started a to)
      → fault_in a (motion_number (after_reading w m) a) faults ≡ Some f → AxisIsTold faults m w e

on_unplanned : (faults : List PlannedFault) (r : Simulated) (a : Axis) (to : Pose) (c : Command)
    → fault_in a (motion_number r a) faults ≡ None → Some (On a to) ≡ Some c → is_unplanned faults r c ≡ true
on_unplanned faults r a to c h i =
    subst (λ (x : Command). is_unplanned faults r x ≡ true) (some_same (On a to) c i)
    (ap (λ (o : Option Fault). is_none o) h)

told_start : (faults : List PlannedFault) (m : Machine) (w : Simulated) (a : Axis) (to : Pose) (o : Option Fault)
    → machine_of_axis a ≡ m → fault_in a (motion_number (after_reading w m) a) faults ≡ o
    → AxisIsTold faults m w (Some (Started a to))
told_start faults m w a to None own h =
    sound (entry_sound faults w m (Started a to) (λ c i. on_unplanned faults (after_reading w m) a to c h i))
told_start faults m w a to (Some f) own h = starts a to f own refl h

told_plain : (faults : List PlannedFault) (m : Machine) (w : Simulated) (x : Entry) (d : Command)
    → command_of x ≡ Some d → is_unplanned faults (after_reading w m) d ≡ true → AxisIsTold faults m w (Some x)
told_plain faults m w x d h u =
    sound (entry_sound faults w m x
    (λ c i. subst (λ (y : Command). is_unplanned faults (after_reading w m) y ≡ true) (some_same d c (sym h ∙ i)) u))

told_by : (faults : List PlannedFault) (m : Machine) (w : Simulated) (x : Entry) (o : Option Command)
    → machine_of_entry x ≡ Some m → command_of x ≡ o → AxisIsTold faults m w (Some x)
told_by faults m w x None own h = sound (quiet_sound faults w m (Some x) h)
told_by faults m w x (Some (On b to)) own h =
    subst (λ (y : Entry). AxisIsTold faults m w (Some y)) (sym (start_of x b to h))
    (told_start faults m w b to (fault_in b (motion_number (after_reading w m) b) faults) (mover_of x m b to h own)
    refl)
told_by faults m w x (Some (Lamp b c)) own h = told_plain faults m w x (Lamp b c) h refl
told_by faults m w x (Some (Off b)) own h = told_plain faults m w x (Off b) h refl
told_by faults m w x (Some (MagnetOn b)) own h = told_plain faults m w x (MagnetOn b) h refl
told_by faults m w x (Some (MagnetOff b)) own h = told_plain faults m w x (MagnetOff b) h refl
told_by faults m w x (Some (AllOff n)) own h = told_plain faults m w x (AllOff n) h refl

abbrev Own : Machine → Option Entry → Type 0
Own m e = IfSome e (λ x. machine_of_entry x ≡ Some m)

axis_told : (faults : List PlannedFault) (m : Machine) (w : Simulated) (e : Option Entry) → Own m e
    → AxisIsTold faults m w e
axis_told faults m w None own = sound (nothing_sound faults w m)
axis_told faults m w (Some x) own = told_by faults m w x (command_of x) own refl

-- a belt's machine is told so
belt_sound : (faults : List PlannedFault) (m : Machine) (w : Simulated) (e : Option Entry) → AllLast faults
    → has_belt m ≡ true → AxisIsTold faults m w e → IsSound faults w m e
belt_sound faults m w e are b (sound so) = so
belt_sound faults m w e are b (starts a to f own h k) =
    let is = fault_is faults a (motion_number (after_reading w m) a) f are k in
    let no : false ≡ true = sym (switch_axis a is.switches) ∙ (ap has_belt own ∙ b) in cc no

-- A TURN OF A MACHINE WITHOUT A BELT

-- what it leaves, and what the machine is then
record MachineDoes (Is : Mind → Simulated → Type 0) (J K : List Entry) (m : Machine) (w : Simulated) (s : Mind)
    (v : Simulated) : Type 0
  where
    state : Is s v
    unasked : is_asked K m ≡ false
    spared : (n : Machine) → m ≢ n → IsSpared n J K w v
    long : v.durations ≡ w.durations
    before : WorldAsBefore J K w v
    spares : SparesEnds J w v
    collisions : v.collisions ≡ w.collisions

abbrev DoesBy : (Mind → Simulated → Type 0) → List PlannedFault → List Entry → Plan → Machine → Mind → Simulated
    → Option Entry → Type 0
DoesBy Is faults J p m s w e =
    MachineDoes Is J (J ++ option_to_list e) m w (mind_with faults J m p s w e) (after_turn_with faults w m e)

-- it is as booked, or fails
abbrev Does : List PlannedFault → List Entry → Plan → Machine → Mind → Simulated → Option Entry → Type 0
Does faults J p m s w e =
    DoesBy (λ x v. IsAsBooked (J ++ option_to_list e) p m x v ⊎ Fails faults (J ++ option_to_list e) p m x v)
    faults J p m s w e

-- it fails
abbrev FailsThen : List PlannedFault → List Entry → Plan → Machine → Mind → Simulated → Option Entry → Type 0
FailsThen faults J p m s w e =
    DoesBy (λ x v. Fails faults (J ++ option_to_list e) p m x v) faults J p m s w e

may_fail_then : (faults : List PlannedFault) (J : List Entry) (p : Plan) (m : Machine) (s : Mind) (w : Simulated)
    (e : Option Entry) → FailsThen faults J p m s w e → Does faults J p m s w e
may_fail_then faults J p m s w e y =
    record {
      state = inr y.state;
      unasked = y.unasked;
      spared = y.spared;
      long = y.long;
      before = y.before;
      spares = y.spares;
      collisions = y.collisions;
    }

does_so : (Is : Mind → Simulated → Type 0) (faults : List PlannedFault) (J : List Entry) (p : Plan) (m : Machine)
    (s : Mind) (w : Simulated) (e : Option Entry) → IsSound faults w m e
    → MachineDoes Is J (J ++ option_to_list e) m w (mind_after J m p s (shown w m) e) (after_turn w m e)
    → DoesBy Is faults J p m s w e
does_so Is faults J p m s w e t y =
    let K = J ++ option_to_list e in
    subst (λ (v : Simulated). MachineDoes Is J K m w (mind_with faults J m p s w e) v) (sym t.world)
    (subst (λ (b : Bool). MachineDoes Is J K m w (mind_sent b (mind_after J m p s (shown w m) e)) (after_turn w m e))
    (sym t.heard) y)

unasked_after : (J : List Entry) (m : Machine) (e : Option Entry) (why : Cause) → e ≡ Some (Declared m why)
    → is_asked (J ++ option_to_list e) m ≡ false
unasked_after J m e why h =
    subst (λ (o : Option Entry). is_asked (J ++ option_to_list o) m ≡ false) (sym h)
    (view_snoc (asks m) false J (Declared m why)
    ∙ ap (λ (b : Bool). unwrap_or (when b false) (is_asked J m)) (same_machines m))

abbrev Free : BookLimits → List Entry → Option Entry → Type 0
Free l J e = IfSome e (λ x. first_of l J x ≡ None)

abbrev Begins : BookLimits → List Entry → Plan → Machine → Mind → Simulated → Type 0
Begins l J p m s w = IsAsBooked J p m s w → TurnBegins l J p m s w

sick_or_lost : {A B C : Type 0} → A ⊎ B → A ⊎ (B ⊎ C)
sick_or_lost (inl x) = inl x
sick_or_lost (inr x) = inr (inl x)

start_turn : (faults : List PlannedFault) (l : BookLimits) (J : List Entry) (p : Plan) (a : Axis) (to : Pose) (s : Mind)
    (w : Simulated) (f : Fault) → AllLast faults → TurnBegins l J p (machine_of_axis a) s w
    → first_of l J (Started a to) ≡ None
    → fault_in a (motion_number (after_reading w (machine_of_axis a)) a) faults ≡ Some f
    → Does faults J p (machine_of_axis a) s w (Some (Started a to))
start_turn faults l J p a to s w f are t free k =
    let is = fault_is faults a (motion_number (after_reading w (machine_of_axis a)) a) f are k in
    let y = failing_start faults l J p a to s w f is.switches t free k is.lasts in
    record {
      state = inr (a, refl, is.planned, sick_or_lost y.state);
      unasked = y.unasked;
      spared = y.spared;
      long = y.long;
      before = y.before;
      spares = y.spares;
      collisions = y.collisions;
    }

booked_turn : (faults : List PlannedFault) (l : BookLimits) (J : List Entry) (p : Plan) (m : Machine) (s : Mind)
    (w : Simulated) (e : Option Entry) → has_belt m ≡ false → AllLast faults → IsPlain w
    → TurnBegins l J p m s w → IsDecided l J m p s (shown w m) e → Free l J e → Own m e
    → AxisIsTold faults m w e → Does faults J p m s w e
booked_turn faults l J p m s w e b are plain t d free own (sound so) =
    let K = J ++ option_to_list e in
    let left = turn_does l J p m s w e b t d free in
    does_so (λ x v. IsAsBooked K p m x v ⊎ Fails faults K p m x v) faults J p m s w e so
    (record {
      state = inl left.0.as_booked;
      unasked = left.0.as_booked.unasked;
      spared = λ n i. turn_spared J w m n e plain i own;
      long = turn_long w m e;
      before = world_before J K p m (mind_after J m p s (shown w m) e) w (after_turn w m e) left.0 left.1;
      spares = left.1;
      collisions = left.0.collisions;
    })
booked_turn faults l J p m s w e b are plain t d free own (starts a to f of h k) =
    subst (λ (n : Machine). TurnBegins l J p n s w
    → fault_in a (motion_number (after_reading w n) a) faults ≡ Some f → Does faults J p n s w e) of
    (λ begins planned.
    let free' = subst (λ (o : Option Entry). Free l J o) h free in
    subst (λ (o : Option Entry). Does faults J p (machine_of_axis a) s w o) (sym h)
    (start_turn faults l J p a to s w f are begins free' planned)) t k

sick_does : (faults : List PlannedFault) (J : List Entry) (p : Plan) (a : Axis) (s : Mind) (w : Simulated)
    (e : Option Entry) → IsPlain w → has_fault faults (machine_of_axis a) ≡ true → Own (machine_of_axis a) e
    → SickTurn J p a s w e
    → StaysSick J p a s w e ⊎ IsDeclared J p a s w e → FailsThen faults J p (machine_of_axis a) s w e
sick_does faults J p a s w e plain planned own y (inl x) =
    let m = machine_of_axis a in
    does_so (λ x v. Fails faults (J ++ option_to_list e) p m x v) faults J p m s w e
    (quiet_sound faults w m e x.moves_nothing)
    (record {
      state = (a, refl, planned, inl x.sick);
      unasked = x.sick.unasked;
      spared = λ n i. turn_spared J w m n e plain i own;
      long = turn_long w m e;
      before = y.before;
      spares = y.spares;
      collisions = y.collisions;
    })
sick_does faults J p a s w e plain planned own y (inr x) =
    let m = machine_of_axis a in
    does_so (λ x v. Fails faults (J ++ option_to_list e) p m x v) faults J p m s w e
    (declared_sound faults w m e x.why x.entry)
    (record {
      state = (a, refl, planned, inr (inr x.stopped));
      unasked = unasked_after J m e x.why x.entry;
      spared = λ n i. turn_spared J w m n e plain i own;
      long = turn_long w m e;
      before = y.before;
      spares = y.spares;
      collisions = y.collisions;
    })

lost_does : (faults : List PlannedFault) (J : List Entry) (p : Plan) (a : Axis) (s : Mind) (w : Simulated)
    (e : Option Entry) → IsPlain w → has_fault faults (machine_of_axis a) ≡ true → Own (machine_of_axis a) e
    → DeclaredTurn J p a s w cause.CommandFault e → FailsThen faults J p (machine_of_axis a) s w e
lost_does faults J p a s w e plain planned own y =
    let m = machine_of_axis a in
    does_so (λ x v. Fails faults (J ++ option_to_list e) p m x v) faults J p m s w e
    (declared_sound faults w m e cause.CommandFault y.entry)
    (record {
      state = (a, refl, planned, inr (inr y.stopped));
      unasked = unasked_after J m e cause.CommandFault y.entry;
      spared = λ n i. turn_spared J w m n e plain i own;
      long = turn_long w m e;
      before = y.before;
      spares = y.spares;
      collisions = y.collisions;
    })

-- of one that has stopped
rests_on : (faults : List PlannedFault) (J : List Entry) (p : Plan) (a : Axis) (s : Mind) (w : Simulated)
    → has_belt (machine_of_axis a) ≡ false → IsPlain w → has_fault faults (machine_of_axis a) ≡ true
    → is_asked J (machine_of_axis a) ≡ false → HasStopped J (machine_of_axis a) s w
    → FailsThen faults J p (machine_of_axis a) s w None
rests_on faults J p a s w b plain planned unasked t =
    let m = machine_of_axis a in let K = J ++ [] in let y = stopped_turn J p m s w b t in
    let same = append-nil J in
    let failed : is_failed K m ≡ true = ap (λ (L : List Entry). is_failed L m) same ∙ t.failed in
    does_so (λ x v. Fails faults K p m x v) faults J p m s w None (nothing_sound faults w m)
    (record {
      state = (
        a,
        refl,
        planned,
        inr (inr (stopped_only K p m (mind_after J m p s (shown w m) None)
            (after_turn w m None) failed y.member)),
      );
      unasked = ap (λ (L : List Entry). is_asked L m) same ∙ unasked;
      spared = λ n i. turn_spared J w m n None plain i tt;
      long = turn_long w m None;
      before = y.before;
      spares = y.spares;
      collisions = y.collisions;
    })

stopped_does : (faults : List PlannedFault) (l : BookLimits) (J : List Entry) (p : Plan) (a : Axis) (s : Mind)
    (w : Simulated) (e : Option Entry) → has_belt (machine_of_axis a) ≡ false → IsPlain w
    → has_fault faults (machine_of_axis a) ≡ true → is_asked J (machine_of_axis a) ≡ false
    → HasStopped J (machine_of_axis a) s w
    → IsDecided l J (machine_of_axis a) p s (shown w (machine_of_axis a)) e
    → FailsThen faults J p (machine_of_axis a) s w e
stopped_does faults l J p a s w e b plain planned unasked t d =
    let m = machine_of_axis a in
    let is : e ≡ None =
    subst (λ (k : Ruling). IsRuled l J m p.plates k e) (ruled_nothing J p m s (shown w m) t.failed) d in
    subst (λ (o : Option Entry). FailsThen faults J p m s w o) (sym is)
    (rests_on faults J p a s w b plain planned unasked t)

fails_does : (faults : List PlannedFault) (l : BookLimits) (J : List Entry) (p : Plan) (a : Axis) (s : Mind)
    (w : Simulated) (e : Option Entry) → has_belt (machine_of_axis a) ≡ false → IsPlain w → legal l J ≡ true
    → has_fault faults (machine_of_axis a) ≡ true → is_asked J (machine_of_axis a) ≡ false → FailsAt J p a s w
    → IsDecided l J (machine_of_axis a) p s (shown w (machine_of_axis a)) e → Free l J e → Own (machine_of_axis a) e
    → FailsThen faults J p (machine_of_axis a) s w e
fails_does faults l J p a s w e b plain law planned unasked (inl t) d free own =
    let y = sick_turn l J p a s w e t.goes.switched.switches law t d free in
    sick_does faults J p a s w e plain planned own y y.state
fails_does faults l J p a s w e b plain law planned unasked (inr (inl t)) d free own =
    lost_does faults J p a s w e plain planned own
    (lost_turn l J p a s w e (no_belt a (machine_of_axis a) refl b) law t d free)
fails_does faults l J p a s w e b plain law planned unasked (inr (inr t)) d free own =
    stopped_does faults l J p a s w e b plain planned unasked t d

fails_turn : (faults : List PlannedFault) (l : BookLimits) (J : List Entry) (p : Plan) (m : Machine) (s : Mind)
    (w : Simulated) (e : Option Entry) → has_belt m ≡ false → IsPlain w → legal l J ≡ true → is_asked J m ≡ false
    → Fails faults J p m s w → IsDecided l J m p s (shown w m) e → Free l J e → Own m e
    → FailsThen faults J p m s w e
fails_turn faults l J p m s w e b plain law unasked (a, of, planned, t) d free own =
    subst (λ (n : Machine). has_belt n ≡ false → has_fault faults n ≡ true → is_asked J n ≡ false
    → IsDecided l J n p s (shown w n) e → Own n e → FailsThen faults J p n s w e) of
    (λ c h u i o. fails_does faults l J p a s w e c plain law h u t i free o) b planned unasked d own

machine_does : (faults : List PlannedFault) (l : BookLimits) (J : List Entry) (p : Plan) (m : Machine) (s : Mind)
    (w : Simulated) (e : Option Entry) → has_belt m ≡ false → AllLast faults → IsPlain w → legal l J ≡ true
    → is_asked J m ≡ false → Begins l J p m s w → IsAsBooked J p m s w ⊎ Fails faults J p m s w
    → IsDecided l J m p s (shown w m) e → Free l J e → Own m e → Does faults J p m s w e
machine_does faults l J p m s w e b are plain law unasked begins (inl t) d free own =
    booked_turn faults l J p m s w e b are plain (begins t) d free own (axis_told faults m w e own)
machine_does faults l J p m s w e b are plain law unasked begins (inr t) d free own =
    may_fail_then faults J p m s w e (fails_turn faults l J p m s w e b plain law unasked t d free own)

-- BESIDE ANOTHER MACHINE'S TURN

unheard_as : (J K : List Entry) (a : Axis) (s : Mind) (w v : Simulated)
    → is_failed K (machine_of_axis a) ≡ is_failed J (machine_of_axis a) → IsSpared (machine_of_axis a) J K w v
    → IsUnheard J a s w → IsUnheard K a s v
unheard_as J K a s w v h i t =
    record {
      to = t.to;
      healthy = h ∙ t.healthy;
      was_lost = t.was_lost;
      plain = i.plain;
      booked = i.going a refl ∙ t.booked;
      halted = λ b e. let y = i.axes b e in
          record {
            stands = stands_spared J K b (axis_at w b).pose (axis_at v b).pose (i.at b e) (i.going b e)
                (ap (λ z. z.pose) y) (t.halted b e).stands;
            still = ap (λ z. moves z.motion) y ∙ (t.halted b e).still;
            read = ap (λ z. is_silent_in z.motion) y ∙ (t.halted b e).read;
          };
    }

fails_as : (J K : List Entry) (p : Plan) (a : Axis) (s : Mind) (w v : Simulated)
    → is_failed K (machine_of_axis a) ≡ is_failed J (machine_of_axis a)
    → is_asked K (machine_of_axis a) ≡ is_asked J (machine_of_axis a) → IsSpared (machine_of_axis a) J K w v
    → FailsAt J p a s w → FailsAt K p a s v
fails_as J K p a s w v h k i (inl t) = inl (sick_as J K p a s w v h k t.goes.switched.switches i t)
fails_as J K p a s w v h k i (inr (inl t)) = inr (inl (unheard_as J K a s w v h i t))
fails_as J K p a s w v h k i (inr (inr t)) = inr (inr (stopped_spared J K (machine_of_axis a) s w v h i t))

fails_beside : (faults : List PlannedFault) (J K : List Entry) (p : Plan) (n : Machine) (s : Mind) (w v : Simulated)
    → is_failed K n ≡ is_failed J n → is_asked K n ≡ is_asked J n → IsSpared n J K w v → Fails faults J p n s w
    → Fails faults K p n s v
fails_beside faults J K p n s w v h k i (a, of, planned, t) =
    let back = sym of in (
      a,
      of,
      planned,
      fails_as J K p a s w v (subst (λ (m : Machine). is_failed K m ≡ is_failed J m) back h)
          (subst (λ (m : Machine). is_asked K m ≡ is_asked J m) back k)
          (subst (λ (m : Machine). IsSpared m J K w v) back i) t,
    )

may_fail_as : (faults : List PlannedFault) (J K : List Entry) (p : Plan) (n : Machine) (s : Mind) (w v : Simulated)
    → is_failed K n ≡ is_failed J n → is_asked K n ≡ is_asked J n → IsSpared n J K w v
    → IsAsBooked J p n s w ⊎ Fails faults J p n s w → IsAsBooked K p n s v ⊎ Fails faults K p n s v
may_fail_as faults J K p n s w v h k i (inl t) =
    inl (kept_as J K n s h k (λ x. spared_stays J K p n s.axis w v i x) t)
may_fail_as faults J K p n s w v h k i (inr t) = inr (fails_beside faults J K p n s w v h k i t)

-- THE WHOLE CELL

fails_plain : (J : List Entry) (p : Plan) (a : Axis) (s : Mind) (w : Simulated) → FailsAt J p a s w → IsPlain w
fails_plain J p a s w (inl t) = t.plain
fails_plain J p a s w (inr (inl t)) = t.plain
fails_plain J p a s w (inr (inr t)) = t.plain

may_fail_plain : (faults : List PlannedFault) (J : List Entry) (p : Plan) (m : Machine) (s : Mind) (w : Simulated)
    → IsAsBooked J p m s w ⊎ Fails faults J p m s w → IsPlain w
may_fail_plain faults J p m s w (inl t) = tied_plain J p m s.axis w t.tied
may_fail_plain faults J p m s w (inr (a, of, planned, t)) = fails_plain J p a s w t

pub plain_with : (faults : List PlannedFault) (l : BookLimits) (J : List Entry) (p : Plan) (minds : Machine → Mind)
    (w : Simulated) → CellWithFailing faults l J p minds w → IsPlain w
plain_with faults l J p minds w t =
    may_fail_plain faults J p machine.Robot (minds machine.Robot) w (t.switches machine.Robot refl)

fails_stands : (J : List Entry) (p : Plan) (a : Axis) (s : Mind) (w : Simulated) → FailsAt J p a s w → (b : Axis)
    → machine_of_axis b ≡ machine_of_axis a → StandsAs J b (axis_at w b).pose
fails_stands J p a s w (inl t) b e =
    each_axis (λ (c : Axis). StandsAs J c (axis_at w c).pose) a b t.stands (λ d. inl (t.others b e d).rests.pose)
fails_stands J p a s w (inr (inl t)) b e = (t.halted b e).stands
fails_stands J p a s w (inr (inr t)) b e = (t.halted b e).stands

may_fail_stands : (faults : List PlannedFault) (J : List Entry) (p : Plan) (m : Machine) (s : Mind) (w : Simulated)
    → IsAsBooked J p m s w ⊎ Fails faults J p m s w → (b : Axis) → machine_of_axis b ≡ m
    → StandsAs J b (axis_at w b).pose
may_fail_stands faults J p m s w (inl t) b e = inl (tied_stands J p m s.axis w t.tied b e)
may_fail_stands faults J p m s w (inr (a, of, planned, t)) b e = fails_stands J p a s w t b (e ∙ sym of)

robot_with : (faults : List PlannedFault) (l : BookLimits) (J : List Entry) (p : Plan) (minds : Machine → Mind)
    (w : Simulated) → CellWithFailing faults l J p minds w → RobotMayStand J w
robot_with faults l J p minds w t b e =
    may_fail_stands faults J p machine.Robot (minds machine.Robot) w (t.switches machine.Robot refl) b e

-- what a turn leaves, of its machine and of the others
record CellDoes (faults : List PlannedFault) (J : List Entry) (p : Plan) (minds : Machine → Mind) (w : Simulated)
    (m : Machine) (e : Option Entry) (s : Mind) (v : Simulated) : Type 0
  where
    switch : has_belt m ≡ false
        → IsAsBooked (J ++ option_to_list e) p m s v ⊎ Fails faults (J ++ option_to_list e) p m s v
    belt : has_belt m ≡ true → BeltAsBooked (J ++ option_to_list e) p m s v
    unasked : is_asked (J ++ option_to_list e) m ≡ false
    spared : (n : Machine) → m ≢ n → IsSpared n J (J ++ option_to_list e) w v
    ends : (n : Machine) → m ≢ n → EndsStay J p n (minds n).axis w v
    stations : StationsAsBooked (J ++ option_to_list e) p v
    long : v.durations ≡ w.durations

asked_after : (J : List Entry) (m n : Machine) (e : Option Entry) (b : Bool) → same_machine m n ≡ b → Own m e
    → is_asked (J ++ option_to_list e) m ≡ false → is_asked J n ≡ false → is_asked (J ++ option_to_list e) n ≡ false
asked_after J m n e true h own i k =
    ap (λ (x : Machine). is_asked (J ++ option_to_list e) x) (sym (machine_same m n h)) ∙ i
asked_after J m n e false h own i k = turn_unasked J m n e (apart m n h) own ∙ k

cell_after : (faults : List PlannedFault) (l : BookLimits) (J : List Entry) (p : Plan) (minds : Machine → Mind)
    (w : Simulated) (m : Machine) (e : Option Entry) (s : Mind) (v : Simulated) → CellWithFailing faults l J p minds w
    → Free l J e → Own m e → CellDoes faults J p minds w m e s v
    → CellWithFailing faults l (J ++ option_to_list e) p (with_mind m s minds) v
cell_after faults l J p minds w m e s v t free own y =
    let K = J ++ option_to_list e in
    record {
      legal = legal_then l J e t.legal free;
      fair = fair_then p w v y.long t.fair;
      unasked = λ n. asked_after J m n e (same_machine m n) refl own y.unasked (t.unasked n);
      switches = λ n c. each_mind (λ x z. IsAsBooked K p x z v ⊎ Fails faults K p x z v) m n s minds
          (same_machine m n) refl
          (λ i. subst (λ (x : Machine). IsAsBooked K p x s v ⊎ Fails faults K p x s v) i (y.switch (ap has_belt i ∙ c)))
          (λ i. may_fail_as faults J K p n (minds n) w v (turn_healthy J m n e i own) (turn_unasked J m n e i own)
          (y.spared n i) (t.switches n c));
      belts = λ n c. each_mind (λ x z. BeltAsBooked K p x z v) m n s minds (same_machine m n) refl
          (λ i. subst (λ (x : Machine). BeltAsBooked K p x s v) i (y.belt (ap has_belt i ∙ c)))
          (λ i. kept_as J K n (minds n) (turn_healthy J m n e i own) (turn_unasked J m n e i own)
          (λ x. belt_stays J K p n (minds n).axis w v c (y.spared n i) (y.ends n i) x) (t.belts n c));
      stations = y.stations;
    }

abbrev Left : List PlannedFault → BookLimits → List Entry → Plan → (Machine → Mind) → Simulated → Machine
    → Option Entry → Type 0
Left faults l J p minds w m e =
    CellWithFailing faults l (J ++ option_to_list e) p
    (with_mind m (mind_with faults J m p (minds m) w e) minds) (after_turn_with faults w m e)
    × ((after_turn_with faults w m e).collisions ≡ w.collisions)

-- where it does what it does in a cell without a fault
left_so : (faults : List PlannedFault) (l : BookLimits) (J : List Entry) (p : Plan) (minds : Machine → Mind)
    (w : Simulated) (m : Machine) (e : Option Entry) → IsSound faults w m e
    → CellWithFailing faults l (J ++ option_to_list e) p
    (with_mind m (mind_after J m p (minds m) (shown w m) e) minds) (after_turn w m e)
    → (after_turn w m e).collisions ≡ w.collisions → Left faults l J p minds w m e
left_so faults l J p minds w m e so t c =
    let K = J ++ option_to_list e in (
      subst (λ (v : Simulated). CellWithFailing faults l K p
          (with_mind m (mind_with faults J m p (minds m) w e) minds) v) (sym so.world)
          (subst (λ (b : Bool). CellWithFailing faults l K p
          (with_mind m (mind_sent b (mind_after J m p (minds m) (shown w m) e)) minds) (after_turn w m e))
          (sym so.heard) t),
      ap (λ (v : Simulated). v.collisions) so.world ∙ c,
    )

-- what a turn of a machine begins with that is as booked
begins_with : (faults : List PlannedFault) (l : BookLimits) (J : List Entry) (p : Plan) (minds : Machine → Mind)
    (w : Simulated) (m : Machine) → CellWithFailing faults l J p minds w → Begins l J p m (minds m) w
begins_with faults l J p minds w m t c =
    record {
      legal = t.legal;
      fair = t.fair;
      as_booked = c;
      plates = λ u h f. t.stations.within u h;
      robot = robot_with faults l J p minds w t;
    }

kept_by : (faults : List PlannedFault) (l : BookLimits) (J : List Entry) (p : Plan) (minds : Machine → Mind)
    (w : Simulated) (m : Machine) (e : Option Entry) (b : Bool) → has_belt m ≡ b → AllLast faults
    → CellWithFailing faults l J p minds w → IsTurnOf l J p m (minds m) w e → Left faults l J p minds w m e
kept_by faults l J p minds w m e false b are t o =
    let v = after_turn_with faults w m e in let s = mind_with faults J m p (minds m) w e in
    let plain = plain_with faults l J p minds w t in
    let y = machine_does faults l J p m (minds m) w e b are plain t.legal (t.unasked m)
    (begins_with faults l J p minds w m t) (t.switches m b) o.decided o.allowed o.own in (
      cell_after faults l J p minds w m e s v t o.allowed o.own
          (record {
            switch = λ i. y.state;
            belt = λ i. absurd (other_kind m m i b refl);
            unasked = y.unasked;
            spared = y.spared;
            ends = λ n i. ends_stay J p n (minds n).axis w v t.stations y.spares;
            stations = stations_kept J p m e w v b o.own y.before t.stations;
            long = y.long;
          }),
      y.collisions,
    )
kept_by faults l J p minds w m e true b are t o =
    let v = after_turn w m e in let s = mind_after J m p (minds m) (shown w m) e in
    let plain = plain_with faults l J p minds w t in
    let left = belt_turn_does l J p m (minds m) w e b
    (record {
      legal = t.legal;
      fair = t.fair;
      as_booked = t.belts m b;
      stations = t.stations;
      robot = robot_with faults l J p minds w t;
    }) o.decided o.allowed in
    left_so faults l J p minds w m e (belt_sound faults m w e are b (axis_told faults m w e o.own))
    (cell_after faults l J p minds w m e s v t o.allowed o.own
    (record {
      switch = λ i. absurd (other_kind m m b i refl);
      belt = λ i. left.0.as_booked;
      unasked = left.0.as_booked.unasked;
      spared = λ n i. turn_spared J w m n e plain i o.own;
      ends = λ n i. other_stay J p m n (minds n).axis w v i left.1;
      stations = left.0.stations;
      long = turn_long w m e;
    })) left.0.collisions

pub failing_kept : FailingKept
failing_kept faults l J p minds w m e are t o = kept_by faults l J p minds w m e (has_belt m) refl are t o

-- FAILURES LAST

spared_by : (faults : List PlannedFault) (l : BookLimits) (J : List Entry) (p : Plan) (minds : Machine → Mind)
    (w : Simulated) (m n : Machine) (e : Option Entry) (b : Bool) → has_belt m ≡ b → AllLast faults
    → CellWithFailing faults l J p minds w → IsTurnOf l J p m (minds m) w e → m ≢ n
    → IsSpared n J (J ++ option_to_list e) w (after_turn_with faults w m e)
spared_by faults l J p minds w m n e false b are t o d =
    (machine_does faults l J p m (minds m) w e b are (plain_with faults l J p minds w t) t.legal (t.unasked m)
    (begins_with faults l J p minds w m t) (t.switches m b) o.decided o.allowed o.own).spared n d
spared_by faults l J p minds w m n e true b are t o d =
    subst (λ (v : Simulated). IsSpared n J (J ++ option_to_list e) w v)
    (sym (belt_sound faults m w e are b (axis_told faults m w e o.own)).world)
    (turn_spared J w m n e (plain_with faults l J p minds w t) d o.own)

own_fails : (faults : List PlannedFault) (l : BookLimits) (J : List Entry) (p : Plan) (minds : Machine → Mind)
    (w : Simulated) (m : Machine) (e : Option Entry) → has_belt m ≡ false → CellWithFailing faults l J p minds w
    → IsTurnOf l J p m (minds m) w e → Fails faults J p m (minds m) w
    → Fails faults (J ++ option_to_list e) p m (mind_with faults J m p (minds m) w e) (after_turn_with faults w m e)
own_fails faults l J p minds w m e b t o f =
    (fails_turn faults l J p m (minds m) w e b (plain_with faults l J p minds w t) t.legal (t.unasked m) f o.decided
    o.allowed o.own).state

pub failures_last : FailuresLast
failures_last faults l J p minds w m n e are b t o f =
    let K = J ++ option_to_list e in let v = after_turn_with faults w m e in
    let s = mind_with faults J m p (minds m) w e in
    each_mind (λ x z. Fails faults K p x z v) m n s minds (same_machine m n) refl
    (λ i. subst (λ (x : Machine). Fails faults K p x s v) i (own_fails faults l J p minds w m e (ap has_belt i ∙ b) t o
    (subst (λ (x : Machine). Fails faults J p x (minds x) w) (sym i) f)))
    (λ d. fails_beside faults J K p n (minds n) w v (turn_healthy J m n e d o.own) (turn_unasked J m n e d o.own)
    (spared_by faults l J p minds w m n e (has_belt m) refl are t o d) f)

-- THE END OF A ROUND

pub failing_round_kept : FailingRoundKept
failing_round_kept faults l J p minds w t =
    let v = after_round w in let plain = plain_with faults l J p minds w t in
    record {
      legal = t.legal;
      fair = round_fair p w t.fair;
      unasked = t.unasked;
      switches = λ n c. may_fail_as faults J J p n (minds n) w v refl refl (round_spares J n w plain) (t.switches n c);
      belts = λ n c. kept_as J J n (minds n) refl refl
          (λ i. belt_stays J J p n (minds n).axis w v c (round_spares J n w plain) (λ d q h j o. round_ends d w) i)
          (t.belts n c);
      stations = round_stations J p w t.stations;
    }

-- WHAT IT SAYS

unasked_by : (l : BookLimits) (J : List Entry) (p : Plan) (minds : Machine → Mind) (w : Simulated) (m : Machine)
    (b : Bool) → has_belt m ≡ b → CellAsBooked l J p minds w → is_asked J m ≡ false
unasked_by l J p minds w m false b t = (t.switches m b).unasked
unasked_by l J p minds w m true b t = (t.belts m b).unasked

pub none_failed_yet : NoneFailedYet
none_failed_yet faults l J p minds w t =
    record {
      legal = t.legal;
      fair = t.fair;
      unasked = λ m. unasked_by l J p minds w m (has_belt m) refl t;
      switches = λ m b. inl (t.switches m b);
      belts = t.belts;
      stations = t.stations;
    }

healthy_unless : (faults : List PlannedFault) (J : List Entry) (p : Plan) (m : Machine) (s : Mind) (w : Simulated)
    → IsAsBooked J p m s w ⊎ Fails faults J p m s w → has_fault faults m ≡ false → is_failed J m ≡ false
healthy_unless faults J p m s w (inl t) h = t.healthy
healthy_unless faults J p m s w (inr (a, of, planned, t)) h = let c : true ≡ false = sym planned ∙ h in cc c

healthy_by : (faults : List PlannedFault) (l : BookLimits) (J : List Entry) (p : Plan) (minds : Machine → Mind)
    (w : Simulated) (m : Machine) (b : Bool) → has_belt m ≡ b → CellWithFailing faults l J p minds w
    → has_fault faults m ≡ false → is_failed J m ≡ false
healthy_by faults l J p minds w m false b t h = healthy_unless faults J p m (minds m) w (t.switches m b) h
healthy_by faults l J p minds w m true b t h = (t.belts m b).healthy

pub no_other_fails : NoOtherFails
no_other_fails faults l J p minds w t =
    (λ m h. healthy_by faults l J p minds w m (has_belt m) refl t h, t.unasked)
