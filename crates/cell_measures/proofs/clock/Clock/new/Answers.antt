-- A clock by which nothing has ended yet
use Rattle.std.proofs.Common.{◌≡◌, List, ap, refl, ℕ}
use Rattle.cell_types.specs.declared.words.Machine.{Machine}
use Rattle.cell_types.specs.declared.words.Machine.TheVariants as machine
use Rattle.cell_types.specs.declared.words.Axis.TheVariants as axis
use Rattle.cell_types.specs.declared.words.Zone.TheVariants as zone
use Rattle.cell_types.specs.declared.words.Axis.{Axis}
use Rattle.cell_types.specs.declared.words.Zone.{Zone}
use Rattle.cell_types.specs.Same.{machine_number, axis_number, zone_number}
use Rattle.std.specs.Prelude.{slice_index, [], ◌∷◌}
use Rattle.cell_measures.proofs.clock.Clock.new.Goals as goal

-- nothing has ended yet, so a new clock has 0 for each machine, zone and axis
no_machine : (m : Machine) → slice_index (0 ∷ 0 ∷ 0 ∷ 0 ∷ 0 ∷ 0 ∷ []) (machine_number m) ≡ 0
no_machine machine.Feed = refl
no_machine machine.Table = refl
no_machine machine.Robot = refl
no_machine machine.Press1 = refl
no_machine machine.Press2 = refl
no_machine machine.Deposit = refl

no_zone : (z : Zone) → slice_index (0 ∷ 0 ∷ 0 ∷ 0 ∷ 0 ∷ []) (zone_number z) ≡ 0
no_zone zone.Z1 = refl
no_zone zone.Z2 = refl
no_zone zone.Z3 = refl
no_zone zone.Z4 = refl
no_zone zone.Z5 = refl

no_axis : (a : Axis) → slice_index (0 ∷ 0 ∷ 0 ∷ 0 ∷ 0 ∷ 0 ∷ 0 ∷ 0 ∷ 0 ∷ []) (axis_number a) ≡ 0
no_axis axis.FeedBelt = refl
no_axis axis.TableLift = refl
no_axis axis.TableTurn = refl
no_axis axis.RobotTurn = refl
no_axis axis.ArmOne = refl
no_axis axis.ArmTwo = refl
no_axis axis.PressOne = refl
no_axis axis.PressTwo = refl
no_axis axis.DepositBelt = refl

pub returns : goal.returns
returns c = record {
  machines = no_machine;
  plates = λ k. ap (λ (times : List ℕ). slice_index times k) c.new.ensures.items;
  zones = no_zone;
  axes = no_axis;
}
