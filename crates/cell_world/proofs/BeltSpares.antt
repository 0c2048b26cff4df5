-- A belt whose axis, light and ends are as before
use Rattle.std.proofs.Common.{◌≡◌, Option, List, refl, sym, ap, ◌∙◌, subst}
use Rattle.cell_types.specs.declared.words.Entry.{Entry}
use Rattle.cell_types.specs.declared.words.Pose.{Pose}
use Rattle.cell_types.specs.Cell.{machine_of_axis}
use Rattle.cell_ports.specs.declared.plan.Plan.{Plan}
use Rattle.cell_turns.specs.Following.{Following}
use Rattle.cell_turns.specs.Moving.{limits_of}
use Rattle.cell_sim.specs.declared.axis.AxisInWorld.{AxisInWorld}
use Rattle.cell_sim.specs.declared.world.Plate.{Plate}
use Rattle.cell_sim.specs.Simulated.{Simulated}
use Rattle.cell_world.specs.Belts.{BeltGoes, BeltRests, BeltSpared, Conveying, EndsAsBefore, belt_of, machine_of}
use Rattle.cell_world.specs.Belts.{name_of, to_deposit_end, to_feed_end, to_table}
use Rattle.cell_world.specs.Sparing.{IsSpared}
use Rattle.cell_world.specs.Tied.{Given, noted_of}

pub its_machine : (c : Conveying) → machine_of_axis (belt_of c) ≡ machine_of c
its_machine to_feed_end = refl
its_machine to_table = refl
its_machine to_deposit_end = refl

goes_spared : (J J' : List Entry) (p : Plan) (c : Conveying) (k : Plate) (g : Given) (f : Option Following)
    (w w' : Simulated) → IsSpared (machine_of c) J J' w w' → EndsAsBefore c w w' → BeltGoes J p c k g f w
    → BeltGoes J' p c k g f w'
goes_spared J J' p c k g f w w' s e t =
    let a = belt_of c in let m = its_machine c in
    record {
      plain = s.plain;
      booked = s.going a m ∙ t.booked;
      home = s.at a m ∙ t.home;
      red = e.light ∙ t.red;
      here = e.from_end ∙ t.here;
      empty = e.dest_end ∙ t.empty;
      goes = ap (λ (x : AxisInWorld). x.motion) (s.axes a m) ∙ t.goes;
      noted = subst (λ (q : Pose). f ≡ noted_of (record {
        axis = a;
        from = q;
        to = name_of c;
        limits = limits_of p a;
      }) g) (sym (s.at a m)) t.noted;
    }

rests_spared : (J J' : List Entry) (c : Conveying) (f : Option Following) (w w' : Simulated)
    → IsSpared (machine_of c) J J' w w' → BeltRests J c f w → BeltRests J' c f w'
rests_spared J J' c f w w' s t =
    let a = belt_of c in let m = its_machine c in
    record {
      plain = s.plain;
      booked = s.going a m ∙ t.booked;
      home = s.at a m ∙ t.home;
      still = ap (λ (x : AxisInWorld). x.motion) (s.axes a m) ∙ t.still;
      unnoted = t.unnoted;
    }

pub belt_spared : BeltSpared
belt_spared J J' p c f w w' s = (λ k g e t. goes_spared J J' p c k g f w w' s e t, λ t. rests_spared J J' c f w w' s t)
