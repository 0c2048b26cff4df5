-- What leaves a belt's stopped machine as it is
use Rattle.std.proofs.Common.{List, ap, ◌∙◌}
use Rattle.cell_types.specs.declared.words.Entry.{Entry}
use Rattle.cell_types.specs.declared.words.Machine.{Machine}
use Rattle.cell_turns.specs.Minds.{Mind}
use Rattle.cell_sim.specs.declared.axis.AxisInWorld.{AxisInWorld}
use Rattle.cell_sim.specs.Moves.{moves}
use Rattle.cell_sim.specs.Readings.{is_silent_in}
use Rattle.cell_sim.specs.Simulated.{Simulated}
use Rattle.cell_world.specs.BeltStopping.{BeltHasStopped, HasBrought, IsBeside, StoppedSpared}
use Rattle.cell_world.specs.Belts.{belt_of}
use Rattle.cell_world.proofs.BeltWays.{belt_owned}

stays_stopped : (J K : List Entry) (m : Machine) (s : Mind) (w v : Simulated) → IsBeside J K m w v
    → BeltHasStopped J m s w → BeltHasStopped K m s v
stays_stopped J K m s w v b t =
    record {
      failed = b.failed ∙ t.failed;
      was_failed = t.was_failed;
      was_obeyed = t.was_obeyed;
      plain = b.spared.plain;
      red = b.light ∙ t.red;
      still = λ a e. ap (λ (x : AxisInWorld). moves x.motion) (b.spared.axes a e) ∙ t.still a e;
      read = λ a e. ap (λ (x : AxisInWorld). is_silent_in x.motion) (b.spared.axes a e) ∙ t.read a e;
    }

stays_brought : (J K : List Entry) (m : Machine) (w v : Simulated) → IsBeside J K m w v → HasBrought J m w
    → HasBrought K m v
stays_brought J K m w v b t =
    let ends = b.world t.way t.of in let told = b.book t.way t.of in
    record {
      way = t.way;
      plate = t.plate;
      of = t.of;
      gone = ends.from_end ∙ t.gone;
      there = ends.dest_end ∙ t.there;
      booked = told.0 ∙ t.booked;
      free = told.1 ∙ t.free;
      further = t.further;
      carried = ap (λ (x : AxisInWorld). x.motion) (b.spared.axes (belt_of t.way) (belt_owned t.way ∙ t.of))
          ∙ t.carried;
    }

pub stopped_spared : StoppedSpared
stopped_spared J K m s w v h b = (λ t. stays_stopped J K m s w v b t, λ t. stays_brought J K m w v b t)
