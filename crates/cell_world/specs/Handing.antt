-- What a grip and a drop do, in the book and in the world
use Rattle.std.specs.Prelude.{ℕ, ◌≡◌, true, None, List}
use Rattle.cell_types.specs.declared.words.Arm.{Arm}
use Rattle.cell_types.specs.declared.words.Axis.{Axis}
use Rattle.cell_types.specs.declared.words.Entry.{Entry}
use Rattle.cell_types.specs.declared.words.Entry.TheVariants.{Gripped, Dropped}
use Rattle.cell_types.specs.declared.words.Station.{Station}
use Rattle.cell_types.specs.Cell.{station_of_arm}
use Rattle.cell_rules.specs.Legal.{first_of, legal}
use Rattle.cell_rules.specs.Views.{plate_of}
use Rattle.cell_rules.specs.declared.limits.BookLimits.{BookLimits}
use Rattle.cell_sim.specs.Parts.{axis_at, plate_at}
use Rattle.cell_sim.specs.Simulated.{Simulated}
use Rattle.cell_world.specs.Going.{IsPlain}
use Rattle.cell_world.specs.Starting.{after_entry, one_more, RobotStands}

-- a station has in the world the plate that it has in the book
abbrev pub HasBooked : List Entry → Simulated → Station → Type 0
HasBooked J w s = plate_at w s ≡ plate_of J s

-- an entry and its command move no axis, count no collision, and each station has what is booked there if it had before
pub record MovesPlate (J : List Entry) (w : Simulated) (e : Entry) : Type 0 where
  pub plain : IsPlain (after_entry w e)
  pub axes : (a : Axis) → axis_at (after_entry w e) a ≡ axis_at w a
  pub plates : (s : Station) → HasBooked J w s → HasBooked (one_more J e) (after_entry w e) s
  pub collisions : (after_entry w e).collisions ≡ w.collisions

-- an arm may grip a plate at a station or drop it there, by the book; the robot stands in the world as the book has it;
-- and at the arm and at the station lies what is booked
pub record IsHanded (l : BookLimits) (J : List Entry) (w : Simulated) (x : Arm) (s : Station) (e : Entry) : Type 0 where
  pub legal : legal l J ≡ true
  pub allowed : first_of l J e ≡ None
  pub plain : IsPlain w
  pub stands : RobotStands J w
  pub arm : HasBooked J w (station_of_arm x)
  pub there : HasBooked J w s

abbrev pub Grips : Type 0
Grips =
    (l : BookLimits) (J : List Entry) (w : Simulated) (x : Arm) (k : ℕ) (s : Station)
    → IsHanded l J w x s (Gripped x k s) → MovesPlate J w (Gripped x k s)

abbrev pub Drops : Type 0
Drops =
    (l : BookLimits) (J : List Entry) (w : Simulated) (x : Arm) (k : ℕ) (s : Station)
    → IsHanded l J w x s (Dropped x k s) → MovesPlate J w (Dropped x k s)
