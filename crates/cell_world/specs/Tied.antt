-- How an axis of the world and the machine's axis watch are tied, while nothing is amiss
use Rattle.std.specs.Prelude.{◌≡◌, ◌≤◌, ◌==◌, ◌+◌, ℕ, zero, suc, Bool, true, false, Option, Some, None, List, [], ◌∷◌}
use Rattle.std.specs.Prelude.{◌++◌, replicate}
use Rattle.cell_types.specs.declared.words.Axis.{Axis}
use Rattle.cell_types.specs.declared.words.Pose.{Pose}
use Rattle.cell_types.specs.declared.words.Entry.{Entry}
use Rattle.cell_rules.specs.Views.{at_of}
use Rattle.cell_diagnosis.specs.declared.motion.Motion.{Motion}
use Rattle.cell_diagnosis.specs.declared.verdict.Verdict.TheVariants.{Pending}
use Rattle.cell_diagnosis.specs.Readings.{no_bits, place_in_axis}
use Rattle.cell_diagnosis.specs.RestFacts.{Noted, agrees}
use Rattle.cell_diagnosis.specs.RestRules.{rest}
use Rattle.cell_ports.specs.declared.plan.Plan.{Plan}
use Rattle.cell_turns.specs.Following.{Following}
use Rattle.cell_turns.specs.Moving.{limits_of}
use Rattle.cell_sim.specs.declared.axis.AxisInWorld.{AxisInWorld}
use Rattle.cell_sim.specs.declared.motion.Moving.{Moving}
use Rattle.cell_sim.specs.declared.motion.Path.{Path}
use Rattle.cell_sim.specs.declared.motion.Path.TheVariants.{Poses}
use Rattle.cell_sim.specs.declared.motion.Phase.{Phase}
use Rattle.cell_sim.specs.declared.motion.Phase.TheVariants.{Begun, Seen as IsSeen, Between, Arrived}

-- how often a motion was read that isn't over: never; once, which showed where it begins; or twice and so many times
-- more, all but the first of which showed nothing. The last number is how many readings more are to show nothing, the
-- second one aside.
pub data Given : Type 0 where
  none : ℕ → Given
  one : ℕ → Given
  more : ℕ → ℕ → Given

-- how many readings of it show nothing beyond the second one, in all
abbrev pub further_of : Given → ℕ
further_of (none n) = n
further_of (one n) = n
further_of (more n k) = n + k

abbrev pub phase_of : Given → Phase
phase_of (none n) = Begun
phase_of (one n) = IsSeen
phase_of (more n k) = Between k

-- a motion without a fault
abbrev pub motion_along : Path → ℕ → Phase → Moving
motion_along path further phase =
    record {
      path = path;
      fault = None;
      phase = phase;
      missing = 0;
      further = further;
      stopped = false;
    }

-- the same, which was read so often
abbrev pub under_way : Path → Given → Moving
under_way path g = motion_along path (further_of g) (phase_of g)

-- after one reading more, if the motion isn't over then
abbrev pub next_given : Given → Option Given
next_given (none n) = Some (one n)
next_given (one n) = Some (more 0 n)
next_given (more n zero) = None
next_given (more n (suc k)) = Some (more (suc n) k)

-- an axis with switches rests at a pose: no command moved it since it was put at home, or its motion has arrived there
abbrev pub RestsBy : Pose → Option Moving → Type 0
RestsBy at None = Unit {0}
RestsBy at (Some m) = (from : Pose) × (further : ℕ) × (m ≡ motion_along (Poses from at) further Arrived)

pub record Rests (at : Pose) (x : AxisInWorld) : Type 0 where
  pub pose : x.pose ≡ at
  pub motion : RestsBy at x.motion

-- it is on its way
pub record Goes (at to : Pose) (g : Given) (x : AxisInWorld) : Type 0 where
  pub pose : x.pose ≡ at
  pub motion : x.motion ≡ Some (under_way (Poses at to) g)

-- the truth values of a pose that is shown alone
abbrev pub only : Pose → List Bool
only p =
    let i = place_in_axis p in
    (0 == i) ∷ (1 == i) ∷ (2 == i) ∷ (3 == i) ∷ (4 == i) ∷ (5 == i) ∷ []

-- what the axis watch noted of a motion
abbrev pub noted_of : Motion → Given → Option Following
noted_of m (none n) = None
noted_of m (one n) = Some (record { motion = m; readings = Some (only m.from) ∷ [] })
noted_of m (more n k) =
    Some (record { motion = m; readings = Some (only m.from) ∷ Some no_bits ∷ replicate n (Some no_bits) })

-- a motion that a watch can follow to its end, of which so many readings show nothing beyond the second: it leads
-- elsewhere, and the limits let it be so long
pub record IsFair (m : Motion) (further : ℕ) : Type 0 where
  pub elsewhere : (place_in_axis m.to == place_in_axis m.from) ≡ false
  pub leave : 2 ≤ m.limits.leave
  pub limit : further + 3 ≤ m.limits.limit

abbrev pub motion_by : List Entry → Plan → Axis → Pose → Motion
motion_by J p a to = record { axis = a; from = at_of J a; to = to; limits = limits_of p a }

-- a reading that agrees gives no verdict to the rest watch
abbrev pub AgreesIsPending : Type 0
AgreesIsPending = (L : List Noted) (n : Noted) → rest L ≡ Pending → agrees n ≡ true → rest (L ++ n ∷ []) ≡ Pending
