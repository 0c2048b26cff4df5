-- The simulated cell as it is: where its axes and plates are, its lights, and what was counted
use Rattle.std.specs.Prelude.{ℕ, Bool, true, false, List, Option, None, map, replicate}
use Rattle.cell_types.specs.declared.words.Axis.{Axis}
use Rattle.cell_types.specs.Cell.{home}
use Rattle.cell_types.specs.Texts.{all_axis}
use Rattle.cell_types.specs.declared.words.Colour.{Colour}
use Rattle.cell_types.specs.declared.words.Colour.TheVariants as colour
use Rattle.cell_measures.specs.declared.durations.Durations.{Durations}
use Rattle.cell_sim.specs.declared.axis.AxisInWorld.{AxisInWorld}
use Rattle.cell_sim.specs.declared.watch.Occasion.{Occasion}
use Rattle.cell_sim.specs.declared.watch.SafetyRule.{SafetyRule}
use Rattle.cell_sim.specs.declared.watch.SafetyRule.TheVariants as rule
use Rattle.cell_sim.specs.declared.watch.Watch.{Watch}
use Rattle.cell_sim.specs.declared.world.Plate.{Plate}

-- a rule's place in the order of rules
abbrev pub rule_number : SafetyRule → ℕ
rule_number rule.ArmInPress = 0
rule_number rule.ArmOverTable = 1
rule_number rule.ArmOverBelt = 2
rule_number rule.TurnWithArmOut = 3
rule_number rule.TableNotReady = 4
rule_number rule.PlateOnPlate = 5
rule_number rule.PlateDropped = 6
rule_number rule.FullEnd = 7
rule_number rule.PressOrder = 8
rule_number rule.NoSuchPose = 9
rule_number rule.LaidOntoFullBelt = 10
rule_number rule.ForgedTwice = 11

-- the nine axes and the plates at the nine stations in the order of their words, a plate with the number at which it
-- was laid; the lights; how many plates are planned, were laid and were taken out by hand from before a press; the
-- collisions; how many plates were forged, taken out under the light, taken out by hand and lost; the plate that was
-- taken out last; the round, and in how many each machine moved; whether the next plate is laid whatever lies there;
-- the watch; and how long motions take
pub record Simulated : Type 0 where
  pub axes : List AxisInWorld
  pub plates : List (Option Plate)
  pub feed_light : Colour
  pub deposit_light : Colour
  pub planned : ℕ
  pub laid : ℕ
  pub cleared : ℕ
  pub collisions : ℕ
  pub forged : ℕ
  pub taken_out : ℕ
  pub removed : ℕ
  pub lost : ℕ
  pub last_taken_out : Option ℕ
  pub round : ℕ
  pub moving_rounds : List ℕ
  pub is_trusting : Bool
  pub watch : Watch
  pub durations : Durations

-- how often each safety rule was broken, in their order
abbrev pub broken : Simulated → List ℕ
broken w = w.watch.counts

-- where each was broken first
abbrev pub firsts : Simulated → List (Option Occasion)
firsts w = w.watch.firsts

-- an axis at home that no command has moved
abbrev pub at_home : Axis → AxisInWorld
at_home a = record { pose = home a; motion = None; commands = 0 }

-- a watch by which no rule is broken yet
abbrev pub new_watch : Bool → Watch
new_watch on =
    record {
      is_on = on;
      counts = replicate 12 0;
      firsts = replicate 12 None;
      standing = replicate 7 false;
    }

-- all motions are as short as they can be
abbrev pub one_each : Durations
one_each = record { rows = replicate 9 (replicate 18 1) }

-- at the opening all axes are at home, no plate is in the cell, the lights are red and nothing was counted
abbrev pub opening_by : Bool → ℕ → Simulated
opening_by watched plates =
    record {
      axes = map at_home all_axis;
      plates = replicate 9 None;
      feed_light = colour.Red;
      deposit_light = colour.Red;
      planned = plates;
      laid = 0;
      cleared = 0;
      collisions = 0;
      forged = 0;
      taken_out = 0;
      removed = 0;
      lost = 0;
      last_taken_out = None;
      round = 1;
      moving_rounds = replicate 6 0;
      is_trusting = false;
      watch = new_watch watched;
      durations = one_each;
    }

abbrev pub opening_with : ℕ → Simulated
opening_with plates = opening_by false plates

abbrev pub watched_opening : ℕ → Simulated
watched_opening plates = opening_by true plates
