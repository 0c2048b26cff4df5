-- At the opening the machines with switches are as booked
use Rattle.std.proofs.Common.{◌≡◌, true, [], inl, refl}
use Rattle.cell_types.specs.declared.words.Axis.{Axis}
use Rattle.cell_types.specs.declared.words.Axis.TheVariants as axis
use Rattle.cell_types.specs.declared.words.Machine.{Machine}
use Rattle.cell_types.specs.declared.words.Station.{Station}
use Rattle.cell_types.specs.declared.words.Station.TheVariants as station
use Rattle.cell_types.specs.Cell.{home, is_pose_of}
use Rattle.cell_rules.specs.Views.{plate_of}
use Rattle.cell_diagnosis.specs.RestRules.{rest}
use Rattle.cell_diagnosis.specs.declared.verdict.Verdict.TheVariants.{Pending}
use Rattle.cell_measures.specs.declared.durations.Durations.{Durations}
use Rattle.cell_ports.specs.declared.plan.Plan.{Plan}
use Rattle.cell_turns.specs.Minds.{first_mind}
use Rattle.cell_sim.specs.Parts.{axis_at}
use Rattle.cell_world.specs.Going.{IsAtRest}
use Rattle.cell_world.specs.Handing.{HasBooked}
use Rattle.cell_world.specs.Tied.{Rests}
use Rattle.cell_world.specs.Turning.{IsAsBooked}
use Rattle.cell_world.specs.Whole.{opening_for}

pub home_pose : (a : Axis) → is_pose_of a (home a) ≡ true
home_pose axis.FeedBelt = refl
home_pose _ = refl

home_rests : (a : Axis) (p : Plan) (ds : Durations) → Rests (home a) (axis_at (opening_for p ds) a)
home_rests axis.FeedBelt p ds = record { pose = refl; motion = tt }
home_rests _ p ds = record { pose = refl; motion = tt }

home_axis : (a : Axis) (p : Plan) (ds : Durations) → IsAtRest [] (opening_for p ds) a
home_axis a p ds = record { booked = refl; own_pose = home_pose a; rests = home_rests a p ds }

pub no_plate : (t : Station) (p : Plan) (ds : Durations) → HasBooked [] (opening_for p ds) t
unfolding plate_of
no_plate station.FeedIn p ds = refl
no_plate _ p ds = refl

pub none_noted : rest [] ≡ Pending
unfolding rest
none_noted = refl

pub machine_opening : (p : Plan) (m : Machine) (ds : Durations)
    → IsAsBooked [] p m (first_mind [] m) (opening_for p ds)
machine_opening p m ds =
    record {
      healthy = refl;
      unasked = refl;
      was_healthy = refl;
      was_obeyed = refl;
      tied = inl (record {
        plain = record { unwatched = refl; axes = refl; stations = refl };
        rest = λ a e. home_axis a p ds;
        unnoted = refl;
      });
      agreed = none_noted;
    }
