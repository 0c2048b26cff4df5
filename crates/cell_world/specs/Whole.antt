-- The whole cell, through the turns of each machine, without an operator and without a fault
use Rattle.std.specs.Prelude.{◌≡◌, ◌≢◌, true, false, Option, Some, None, List, [], ◌++◌, IfSome, option_to_list}
use Rattle.cell_types.specs.declared.words.Axis.{Axis}
use Rattle.cell_types.specs.declared.words.Command.{Command}
use Rattle.cell_types.specs.declared.words.Machine.{Machine}
use Rattle.cell_types.specs.declared.words.Entry.{Entry}
use Rattle.cell_types.specs.Entries.{machine_of_entry}
use Rattle.cell_rules.specs.declared.limits.BookLimits.{BookLimits}
use Rattle.cell_rules.specs.Legal.{first_of, legal}
use Rattle.cell_rules.specs.Views.{going_of}
use Rattle.cell_measures.specs.declared.durations.Durations.{Durations}
use Rattle.cell_ports.specs.declared.plan.Plan.{Plan}
use Rattle.cell_turns.specs.Minds.{Mind, first_mind}
use Rattle.cell_turns.specs.Turns.{IsDecided, mind_after}
use Rattle.cell_sim.specs.declared.world.Plate.{Plate}
use Rattle.cell_sim.specs.Commands.{fails}
use Rattle.cell_sim.specs.Looks.{is_belt}
use Rattle.cell_sim.specs.Parts.{axis_at}
use Rattle.cell_sim.specs.Readings.{after_round, shown}
use Rattle.cell_sim.specs.Simulated.{Simulated, opening_with}
use Rattle.cell_world.specs.Agreeing.{has_belt}
use Rattle.cell_world.specs.Belts.{Conveying, belt_of, name_of, path_with}
use Rattle.cell_world.specs.BeltTurning.{BeltAsBooked, StationsAsBooked}
use Rattle.cell_world.specs.Switched.{AxisAsBooked, with_mind}
use Rattle.cell_world.specs.Tie.{IsFairPlan}
use Rattle.cell_world.specs.Tied.{Given, under_way}
use Rattle.cell_world.specs.Turning.{IsAsBooked, after_turn}

-- all machines are as booked, and all stations, but for a plate that was laid in or taken out under a green light; and
-- no plate was cleared
pub record CellAsBooked (l : BookLimits) (J : List Entry) (p : Plan) (minds : Machine → Mind) (w : Simulated) : Type 0
  where
    pub legal : legal l J ≡ true
    pub fair : IsFairPlan p w
    pub uncleared : w.cleared ≡ 0
    pub switches : (m : Machine) → has_belt m ≡ false → IsAsBooked J p m (minds m) w
    pub belts : (m : Machine) → has_belt m ≡ true → BeltAsBooked J p m (minds m) w
    pub stations : StationsAsBooked J p w

-- what a turn of a machine decides at what the world shows, and the book has
pub record IsTurnOf (l : BookLimits) (J : List Entry) (p : Plan) (m : Machine) (s : Mind) (w : Simulated)
    (e : Option Entry) : Type 0
  where
    pub decided : IsDecided l J m p s (shown w m) e
    pub allowed : IfSome e (λ x. first_of l J x ≡ None)
    pub own : IfSome e (λ x. machine_of_entry x ≡ Some m)

-- another machine's turn leaves a belt's machine as it is booked
abbrev pub BeltsKept : Type 0
BeltsKept =
    (l : BookLimits) (J : List Entry) (p : Plan) (minds : Machine → Mind) (w : Simulated) (m n : Machine)
    (e : Option Entry)
    → m ≢ n → has_belt n ≡ true → CellAsBooked l J p minds w → IsTurnOf l J p m (minds m) w e
    → BeltAsBooked (J ++ option_to_list e) p n (minds n) (after_turn w m e)

-- so the whole cell stays as booked, through the turn of each machine, and no collision is counted
abbrev pub CellKept : Type 0
CellKept =
    (l : BookLimits) (J : List Entry) (p : Plan) (minds : Machine → Mind) (w : Simulated) (m : Machine)
    (e : Option Entry)
    → CellAsBooked l J p minds w → IsTurnOf l J p m (minds m) w e
    → CellAsBooked l (J ++ option_to_list e) p (with_mind m (mind_after J m p (minds m) (shown w m) e) minds)
    (after_turn w m e)
    × ((after_turn w m e).collisions ≡ w.collisions)

-- and through the end of each round
abbrev pub RoundKept : Type 0
RoundKept =
    (l : BookLimits) (J : List Entry) (p : Plan) (minds : Machine → Mind) (w : Simulated)
    → CellAsBooked l J p minds w → CellAsBooked l J p minds (after_round w)

-- no command fails in it
abbrev pub NoneFails : Type 0
NoneFails = (w : Simulated) (c : Command) → fails [] w c ≡ false

-- the opening of a cell whose motions take so long
abbrev pub opening_for : Plan → Durations → Simulated
opening_for p ds = record (opening_with p.plates) { durations = ds }

-- it is so at the opening
abbrev pub CellOpening : Type 0
CellOpening =
    (l : BookLimits) (p : Plan) (ds : Durations) → IsFairPlan p (opening_for p ds)
    → CellAsBooked l [] p (λ m. first_mind [] m) (opening_for p ds)

-- where a belt is at rest in the book, it rests in the world, and where it goes, it is on its way with a plate
pub record WayAsBooked (J : List Entry) (w : Simulated) (c : Conveying) : Type 0 where
  pub rests : going_of J (belt_of c) ≡ None → (axis_at w (belt_of c)).motion ≡ None
  pub goes : going_of J (belt_of c) ≡ Some (name_of c)
      → (k : Plate) × (g : Given) × ((axis_at w (belt_of c)).motion ≡ Some (under_way (path_with c k) g))

-- so it is with each axis of a cell that is as booked
abbrev pub CellIsWorld : Type 0
CellIsWorld =
    (l : BookLimits) (J : List Entry) (p : Plan) (minds : Machine → Mind) (w : Simulated)
    → CellAsBooked l J p minds w
    → ((a : Axis) → is_belt a ≡ false → AxisAsBooked J w a) × ((c : Conveying) → WayAsBooked J w c)
