-- An axis with switches whose motion has a fault that keeps it from ever showing its end, through its machine's turns
use Rattle.std.specs.Prelude.{ℕ, ◌+◌, ◌<◌, ◌≡◌, ◌⊎◌, ◌++◌, true, false, Option, Some, None, List, IfSome, length}
use Rattle.std.specs.Prelude.{option_to_list}
use Rattle.cell_types.specs.declared.words.Axis.{Axis}
use Rattle.cell_types.specs.declared.words.Cause.{Cause}
use Rattle.cell_types.specs.declared.words.Entry.{Entry}
use Rattle.cell_types.specs.declared.words.Entry.TheVariants.{Declared}
use Rattle.cell_types.specs.declared.words.Pose.{Pose}
use Rattle.cell_types.specs.declared.words.Station.{Station}
use Rattle.cell_types.specs.Cell.{machine_of_axis}
use Rattle.cell_types.specs.Entries.{command_of}
use Rattle.cell_rules.specs.declared.limits.BookLimits.{BookLimits}
use Rattle.cell_rules.specs.Legal.{first_of, legal}
use Rattle.cell_rules.specs.Views.{going_of, is_asked, is_failed}
use Rattle.cell_diagnosis.specs.declared.verdict.Verdict.TheVariants.{Pending}
use Rattle.cell_ports.specs.declared.plan.Plan.{Plan}
use Rattle.cell_turns.specs.Following.{Following}
use Rattle.cell_turns.specs.Minds.{Mind}
use Rattle.cell_turns.specs.Moving.{limits_of}
use Rattle.cell_turns.specs.Observed.{axis_verdict}
use Rattle.cell_turns.specs.Turns.{IsDecided, mind_after}
use Rattle.cell_sim.specs.declared.motion.Moving.{Moving}
use Rattle.cell_sim.specs.Parts.{axis_at}
use Rattle.cell_sim.specs.Readings.{shown}
use Rattle.cell_sim.specs.Simulated.{Simulated}
use Rattle.cell_world.specs.Faulty.{GoesBy, is_barred}
use Rattle.cell_world.specs.Going.{IsPlain, OthersRest}
use Rattle.cell_world.specs.Handing.{HasBooked}
use Rattle.cell_world.specs.Starting.{StandsAs}
use Rattle.cell_world.specs.Stopping.{HasStopped}
use Rattle.cell_world.specs.Tied.{motion_by}
use Rattle.cell_world.specs.Turning.{after_turn}

-- how many readings an axis watch has noted
abbrev pub count_noted : Option Following → ℕ
count_noted None = 0
count_noted (Some f) = length f.readings

-- an axis is sick: it is booked on its way; it goes in the world on a motion with a fault by which no reading shows its
-- end alone, and none is missing; the other axes of its machine rest; and the machine's watch, if it has begun, follows
-- that motion, and found nothing yet, at fewer readings than its limit
pub record IsSick (J : List Entry) (p : Plan) (a : Axis) (s : Mind) (w : Simulated) : Type 0 where
  pub to : Pose
  pub moving : Moving
  pub healthy : is_failed J (machine_of_axis a) ≡ false
  pub unasked : is_asked J (machine_of_axis a) ≡ false
  pub was_healthy : s.memory.failed ≡ false
  pub was_obeyed : s.memory.command_failed ≡ false
  pub plain : IsPlain w
  pub booked : going_of J a ≡ Some to
  pub goes : GoesBy (motion_by J p a to) moving w
  pub barred : is_barred moving.fault moving.phase ≡ true
  pub read : moving.missing ≡ 0
  pub others : OthersRest J w a
  pub stands : StandsAs J a (axis_at w a).pose
  pub followed : IfSome s.axis (λ f. (f.motion ≡ motion_by J p a to) × (axis_verdict (Some f) ≡ Pending))
  pub early : count_noted s.axis < (limits_of p a).limit

-- a turn of its machine leaves it sick, with one reading more noted, and booked nothing that has a command
pub record StaysSick (J : List Entry) (p : Plan) (a : Axis) (s : Mind) (w : Simulated) (e : Option Entry) : Type 0
  where
    pub sick : IsSick (J ++ option_to_list e) p a (mind_after J (machine_of_axis a) p s (shown w (machine_of_axis a)) e)
        (after_turn w (machine_of_axis a) e)
    pub grown : count_noted (mind_after J (machine_of_axis a) p s (shown w (machine_of_axis a)) e).axis
        ≡ count_noted s.axis + 1
    pub moves_nothing : IfSome e (λ x. command_of x ≡ None)

-- or declares the machine failed, and all its axes stand still
pub record IsDeclared (J : List Entry) (p : Plan) (a : Axis) (s : Mind) (w : Simulated) (e : Option Entry) : Type 0
  where
    pub why : Cause
    pub entry : e ≡ Some (Declared (machine_of_axis a) why)
    pub stopped : HasStopped (J ++ option_to_list e) (machine_of_axis a)
        (mind_after J (machine_of_axis a) p s (shown w (machine_of_axis a)) e) (after_turn w (machine_of_axis a) e)

-- either way each station has what is booked there if it had before, and no collision was counted
pub record SickLeaves (J : List Entry) (p : Plan) (a : Axis) (s : Mind) (w : Simulated) (e : Option Entry) : Type 0
  where
    pub state : StaysSick J p a s w e ⊎ IsDeclared J p a s w e
    pub plates : (t : Station) → HasBooked J w t
        → HasBooked (J ++ option_to_list e) (after_turn w (machine_of_axis a) e) t
    pub collisions : (after_turn w (machine_of_axis a) e).collisions ≡ w.collisions

-- a turn of the machine of such an axis, whatever it decides at what the world shows, and the book has, never brings it
-- to its end; and since each leaves the limit of its readings unreached, one of so many declares it failed
abbrev pub SickTurns : Type 0
SickTurns =
    (l : BookLimits) (J : List Entry) (p : Plan) (a : Axis) (s : Mind) (w : Simulated) (e : Option Entry)
    → legal l J ≡ true → IsSick J p a s w
    → IsDecided l J (machine_of_axis a) p s (shown w (machine_of_axis a)) e → IfSome e (λ x. first_of l J x ≡ None)
    → SickLeaves J p a s w e
