-- The end of a round changes nothing of the cell but what is counted of rounds, and no command fails
use Rattle.std.proofs.Common.{◌≡◌, ℕ, List, length, refl, ◌∙◌}
use Rattle.cell_types.specs.declared.words.Command.TheVariants.{On}
use Rattle.cell_types.specs.declared.words.Entry.{Entry}
use Rattle.cell_types.specs.declared.words.Machine.{Machine}
use Rattle.cell_types.specs.declared.words.Machine.TheVariants as machine
use Rattle.cell_types.specs.declared.words.Station.{Station}
use Rattle.cell_types.specs.declared.words.Station.TheVariants as station
use Rattle.cell_types.specs.Same.{machine_number}
use Rattle.std.specs.Prelude.{slice_set}
use Rattle.cell_sim.specs.Commands.{fails}
use Rattle.cell_sim.specs.Parts.{axis_at, counted, is_machine_moving, plate_at, plate_here}
use Rattle.cell_sim.specs.Readings.{after_round, round_noted, rounds_moved}
use Rattle.cell_sim.specs.Simulated.{Simulated}
use Rattle.cell_world.specs.Belts.{Conveying, EndsAsBefore, dest_of, from_of, light_of, to_deposit_end, to_feed_end}
use Rattle.cell_world.specs.Belts.{to_table}
use Rattle.cell_ports.specs.declared.plan.Plan.{Plan}
use Rattle.cell_world.specs.BeltTurning.{StationsAsBooked}
use Rattle.cell_world.specs.Tie.{IsFairPlan}
use Rattle.cell_world.specs.Going.{IsPlain}
use Rattle.cell_world.specs.Sparing.{IsSpared}
use Rattle.cell_world.specs.Whole.{NoneFails, RoundKept}
use Rattle.cell_world.proofs.BeltWays.{belt_stays}
use Rattle.cell_world.proofs.Four.{kept_as}
use Rattle.cell_world.proofs.Laying.{laying_of, stations_before}
use Rattle.cell_world.proofs.Long.{fair_then}
use Rattle.cell_world.proofs.Spared.{spared_stays}
use Rattle.cell_world.proofs.Steps.{either}
use Rattle.cell_world.proofs.Whole.{cell_plain}

-- a part of the world that isn't of rounds
record IsOutside {X : Type 0} (part : Simulated → X) : Type 0 where
  moving : (n : List ℕ) (w : Simulated) → part (record w { moving_rounds = n }) ≡ part w
  round : (n : ℕ) (w : Simulated) → part (record w { round = n }) ≡ part w

noted_same : {X : Type 0} (part : Simulated → X) → IsOutside part → (m : Machine) (w : Simulated)
    → part (round_noted m w) ≡ part w
noted_same part o m w =
    either part (is_machine_moving w m)
    (record w { moving_rounds = slice_set w.moving_rounds (machine_number m) (counted (rounds_moved w m)) }) w (part w)
    (o.moving (slice_set w.moving_rounds (machine_number m) (counted (rounds_moved w m))) w) refl

round_same : {X : Type 0} (part : Simulated → X) → IsOutside part → (w : Simulated) → part (after_round w) ≡ part w
unfolding after_round
round_same part o w =
    let a = round_noted machine.Feed w in let b = round_noted machine.Table a in
    let c = round_noted machine.Robot b in let d = round_noted machine.Press1 c in
    let e = round_noted machine.Press2 d in let f = round_noted machine.Deposit e in
    o.round (counted f.round) f
    ∙ (noted_same part o machine.Deposit e ∙ (noted_same part o machine.Press2 d
    ∙ (noted_same part o machine.Press1 c ∙ (noted_same part o machine.Robot b
    ∙ (noted_same part o machine.Table a ∙ noted_same part o machine.Feed w)))))

round_plain : (w : Simulated) → IsPlain w → IsPlain (after_round w)
round_plain w t =
    record {
      unwatched = round_same (λ (v : Simulated). v.watch.is_on)
          (record { moving = λ n v. refl; round = λ n v. refl }) w ∙ t.unwatched;
      axes = round_same (λ (v : Simulated). length v.axes) (record { moving = λ n v. refl; round = λ n v. refl }) w
          ∙ t.axes;
      stations = round_same (λ (v : Simulated). length v.plates)
          (record { moving = λ n v. refl; round = λ n v. refl }) w ∙ t.stations;
    }

pub round_collisions : (w : Simulated) → (after_round w).collisions ≡ w.collisions
round_collisions w =
    round_same (λ (v : Simulated). v.collisions) (record { moving = λ n v. refl; round = λ n v. refl }) w

round_here : (w : Simulated) (t : Station) → plate_here (after_round w) t ≡ plate_here w t
round_here w t =
    round_same (λ (v : Simulated). plate_here v t) (record { moving = λ n v. refl; round = λ n v. refl }) w

round_at : (w : Simulated) (t : Station) → plate_at (after_round w) t ≡ plate_at w t
round_at w t =
    round_same (λ (v : Simulated). plate_at v t) (record { moving = λ n v. refl; round = λ n v. refl }) w

round_light : (c : Conveying) (w : Simulated) → light_of c (after_round w) ≡ light_of c w
round_light to_feed_end w =
    round_same (λ (v : Simulated). v.feed_light) (record { moving = λ n v. refl; round = λ n v. refl }) w
round_light to_table w =
    round_same (λ (v : Simulated). v.feed_light) (record { moving = λ n v. refl; round = λ n v. refl }) w
round_light to_deposit_end w =
    round_same (λ (v : Simulated). v.deposit_light) (record { moving = λ n v. refl; round = λ n v. refl }) w

pub round_spares : (J : List Entry) (m : Machine) (w : Simulated) → IsPlain w → IsSpared m J J w (after_round w)
round_spares J m w t =
    record {
      plain = round_plain w t;
      long = round_same (λ (v : Simulated). v.durations) (record { moving = λ n v. refl; round = λ n v. refl }) w;
      at = λ a i. refl;
      going = λ a i. refl;
      axes = λ a i. round_same (λ (v : Simulated). axis_at v a)
          (record { moving = λ n v. refl; round = λ n v. refl }) w;
    }

pub round_fair : (p : Plan) (w : Simulated) → IsFairPlan p w → IsFairPlan p (after_round w)
round_fair p w t =
    fair_then p w (after_round w) (round_same (λ (u : Simulated). u.durations)
    (record { moving = λ n u. refl; round = λ n u. refl }) w) t

pub round_ends : (c : Conveying) (w : Simulated) → EndsAsBefore c w (after_round w)
round_ends c w =
    record { light = round_light c w; from_end = round_here w (from_of c); dest_end = round_here w (dest_of c) }

pub round_stations : (J : List Entry) (p : Plan) (w : Simulated) → StationsAsBooked J p w
    → StationsAsBooked J p (after_round w)
round_stations J p w t =
    stations_before J J p w (after_round w) (λ b. refl) refl refl
    (record {
      part = round_same laying_of (record { moving = λ n u. refl; round = λ n u. refl }) w;
      light = round_light to_deposit_end w;
      laid = λ g. round_at w station.FeedIn;
      taken = λ g. round_at w station.DepEnd;
      booked = λ u h. round_at w u ∙ h;
    }) t

pub round_kept : RoundKept
round_kept l J p minds w t =
    let v = after_round w in let plain = cell_plain l J p minds w t in
    record {
      legal = t.legal;
      fair = round_fair p w t.fair;
      uncleared = round_same (λ (u : Simulated). u.cleared)
          (record { moving = λ n u. refl; round = λ n u. refl }) w ∙ t.uncleared;
      switches = λ m b. kept_as J J m (minds m) refl refl
          (λ i. spared_stays J J p m (minds m).axis w v (round_spares J m w plain) i) (t.switches m b);
      belts = λ m b. kept_as J J m (minds m) refl refl
          (λ i. belt_stays J J p m (minds m).axis w v b (round_spares J m w plain) (λ c k g j o. round_ends c w) i)
          (t.belts m b);
      stations = round_stations J p w t.stations;
    }

pub none_fails : NoneFails
unfolding fails
none_fails w (On a to) = refl
none_fails w c = refl
