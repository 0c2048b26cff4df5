-- The book is the world, but for the axes of machines that failed
use Rattle.std.proofs.Common.{◌≡◌, ◌⊎◌, inl, inr, true, List, refl}
use Rattle.cell_types.specs.declared.words.Axis.{Axis}
use Rattle.cell_types.specs.declared.words.Entry.{Entry}
use Rattle.cell_types.specs.declared.words.Machine.{Machine}
use Rattle.cell_types.specs.Cell.{machine_of_axis}
use Rattle.cell_rules.specs.Views.{is_failed}
use Rattle.cell_ports.specs.declared.plan.Plan.{Plan}
use Rattle.cell_turns.specs.Minds.{Mind}
use Rattle.cell_sim.specs.Simulated.{Simulated}
use Rattle.cell_world.specs.Belts.{machine_of}
use Rattle.cell_world.specs.Stopping.{IsHalted, StopsAreWorld, WorksOrStopped}
use Rattle.cell_world.specs.Switched.{AxisAsBooked}
use Rattle.cell_world.proofs.BeltAgrees.{its_belt}
use Rattle.cell_world.proofs.Four.{rests_as_booked, tied_as_booked}
use Rattle.cell_world.proofs.Whole.{switch_axis, way_as_booked}

member_axis : (J : List Entry) (p : Plan) (m : Machine) (s : Mind) (w : Simulated) → WorksOrStopped J p m s w
    → (a : Axis) → machine_of_axis a ≡ m → AxisAsBooked J w a ⊎ ((is_failed J m ≡ true) × IsHalted J w a)
member_axis J p m s w (inl t) a e = inl (tied_as_booked J p m s.axis w t.tied a e)
member_axis J p m s w (inr (inl t)) a e = inr (t.failed, t.halted a e)
member_axis J p m s w (inr (inr t)) a e = inl (rests_as_booked J w a (t.rest a e))

pub stops_are_world : StopsAreWorld
stops_are_world l J p minds w t = (
  λ a b. let m = machine_of_axis a in member_axis J p m (minds m) w (t.switches m (switch_axis a b)) a refl,
  λ c. way_as_booked J p c (minds (machine_of c)).axis w (t.belts (machine_of c) (its_belt c)).tied,
)
