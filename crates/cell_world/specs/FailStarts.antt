-- An axis with switches that sets out with a fault that lasts, or whose command is lost
use Rattle.std.specs.Prelude.{◌≡◌, ◌⊎◌, ◌++◌, Bool, true, false, Option, Some, None, List, [], IfSome, is_none}
use Rattle.std.specs.Prelude.{option_to_list}
use Rattle.std.specs.Option.{option_and_then}
use Rattle.cell_types.specs.declared.words.Axis.{Axis}
use Rattle.cell_types.specs.declared.words.Cause.TheVariants as cause
use Rattle.cell_types.specs.declared.words.Command.{Command}
use Rattle.cell_types.specs.declared.words.Command.TheVariants.{On}
use Rattle.cell_types.specs.declared.words.Entry.{Entry}
use Rattle.cell_types.specs.declared.words.Entry.TheVariants.{Declared, Started}
use Rattle.cell_types.specs.declared.words.Machine.{Machine}
use Rattle.cell_types.specs.declared.words.Pose.{Pose}
use Rattle.cell_types.specs.declared.words.Station.{Station}
use Rattle.cell_types.specs.Cell.{machine_of_axis}
use Rattle.cell_types.specs.Entries.{command_of}
use Rattle.cell_rules.specs.declared.limits.BookLimits.{BookLimits}
use Rattle.cell_rules.specs.Legal.{first_of, legal}
use Rattle.cell_rules.specs.Views.{going_of, is_failed}
use Rattle.cell_ports.specs.declared.plan.Plan.{Plan}
use Rattle.cell_turns.specs.Minds.{Mind}
use Rattle.cell_turns.specs.Schedules.{mind_sent}
use Rattle.cell_turns.specs.Turns.{IsDecided, mind_after}
use Rattle.cell_sim.specs.declared.fault.Fault.{Fault}
use Rattle.cell_sim.specs.declared.fault.Fault.TheVariants as fault
use Rattle.cell_sim.specs.declared.fault.PlannedFault.{PlannedFault}
use Rattle.cell_sim.specs.Commands.{after_command, fails, motion_number}
use Rattle.cell_sim.specs.Readings.{after_reading, shown}
use Rattle.cell_sim.specs.Script.{fault_in}
use Rattle.cell_sim.specs.Looks.{is_belt}
use Rattle.cell_sim.specs.Simulated.{Simulated}
use Rattle.cell_world.specs.Failing.{IsSick}
use Rattle.cell_world.specs.Going.{IsPlain}
use Rattle.cell_world.specs.Handing.{HasBooked}
use Rattle.cell_world.specs.OneRun.{is_lost, ordered}
use Rattle.cell_world.specs.Starting.{one_more}
use Rattle.cell_world.specs.Stopping.{HasStopped, IsHalted}
use Rattle.cell_world.specs.Turning.{TurnBegins, after_turn}

-- no fault is planned for the motion that a command begins, if it begins one
abbrev pub is_unplanned : List PlannedFault → Simulated → Command → Bool
is_unplanned faults w (On a to) = is_none (fault_in a (motion_number w a) faults)
is_unplanned faults w _ = true

-- then it does what it does in a cell without a fault
abbrev pub UnplannedIsSound : Type 0
UnplannedIsSound =
    (faults : List PlannedFault) (w : Simulated) (c : Command) → is_unplanned faults w c ≡ true
    → (after_command faults w c ≡ after_command [] w c) × (fails faults w c ≡ false)

-- a fault that is never overcome: the motion never shows its end alone, or its command is lost
abbrev pub is_lasting : Fault → Bool
is_lasting fault.NoMotion = true
is_lasting fault.KeepsOld = true
is_lasting fault.Both = true
is_lasting fault.RefuseCommand = true
is_lasting _ = false

-- the world after a turn that read the machine and booked this, in a cell with these faults
abbrev pub after_turn_with : List PlannedFault → Simulated → Machine → Option Entry → Simulated
after_turn_with faults w m e = ordered faults (after_reading w m) (option_and_then command_of e)

-- and what the machine's watch then stands for: it is told of a command that was lost
abbrev pub mind_with : List PlannedFault → List Entry → Machine → Plan → Mind → Simulated → Option Entry → Mind
mind_with faults J m p s w e =
    mind_sent (is_lost faults (after_reading w m) (option_and_then command_of e)) (mind_after J m p s (shown w m) e)

-- the command that was to move an axis was lost: it is booked on its way, and its machine's axes stand still
pub record IsUnheard (J : List Entry) (a : Axis) (s : Mind) (w : Simulated) : Type 0 where
  pub to : Pose
  pub healthy : is_failed J (machine_of_axis a) ≡ false
  pub was_lost : s.memory.command_failed ≡ true
  pub plain : IsPlain w
  pub booked : going_of J a ≡ Some to
  pub halted : (b : Axis) → machine_of_axis b ≡ machine_of_axis a → IsHalted J w b

-- what the turn leaves that sends an axis on its way with such a fault: it is sick, or its command was lost; each
-- station has what is booked there if it had before, and no collision was counted
pub record SetsOut (faults : List PlannedFault) (J : List Entry) (p : Plan) (a : Axis) (to : Pose) (s : Mind)
    (w : Simulated) : Type 0
  where
    pub state : IsSick (one_more J (Started a to)) p a
        (mind_with faults J (machine_of_axis a) p s w (Some (Started a to)))
        (after_turn_with faults w (machine_of_axis a) (Some (Started a to)))
        ⊎ IsUnheard (one_more J (Started a to)) a
        (mind_with faults J (machine_of_axis a) p s w (Some (Started a to)))
        (after_turn_with faults w (machine_of_axis a) (Some (Started a to)))
    pub plates : (t : Station) → HasBooked J w t
        → HasBooked (one_more J (Started a to))
        (after_turn_with faults w (machine_of_axis a) (Some (Started a to))) t
    pub collisions : (after_turn_with faults w (machine_of_axis a) (Some (Started a to))).collisions ≡ w.collisions

-- so it is where its machine was as booked
abbrev pub AxisSetsOut : Type 0
AxisSetsOut =
    (faults : List PlannedFault) (l : BookLimits) (J : List Entry) (p : Plan) (a : Axis) (to : Pose) (s : Mind)
    (w : Simulated) (f : Fault)
    → is_belt a ≡ false → TurnBegins l J p (machine_of_axis a) s w → first_of l J (Started a to) ≡ None
    → fault_in a (motion_number (after_reading w (machine_of_axis a)) a) faults ≡ Some f → is_lasting f ≡ true
    → SetsOut faults J p a to s w

-- what is left where the machine's next turn declares that the command was lost
pub record LostLeaves (J : List Entry) (p : Plan) (a : Axis) (s : Mind) (w : Simulated) (e : Option Entry) : Type 0
  where
    pub entry : e ≡ Some (Declared (machine_of_axis a) cause.CommandFault)
    pub stopped : HasStopped (J ++ option_to_list e) (machine_of_axis a)
        (mind_after J (machine_of_axis a) p s (shown w (machine_of_axis a)) e) (after_turn w (machine_of_axis a) e)
    pub plates : (t : Station) → HasBooked J w t
        → HasBooked (J ++ option_to_list e) (after_turn w (machine_of_axis a) e) t
    pub collisions : (after_turn w (machine_of_axis a) e).collisions ≡ w.collisions

-- and so it does
abbrev pub LostTurns : Type 0
LostTurns =
    (l : BookLimits) (J : List Entry) (p : Plan) (a : Axis) (s : Mind) (w : Simulated) (e : Option Entry)
    → is_belt a ≡ false → legal l J ≡ true → IsUnheard J a s w
    → IsDecided l J (machine_of_axis a) p s (shown w (machine_of_axis a)) e → IfSome e (λ x. first_of l J x ≡ None)
    → LostLeaves J p a s w e
