-- No turn changes how long motions take, and how many plates were cleared
use Rattle.std.proofs.Common.{◌≡◌, ℕ, Bool, not, ◌&&◌, ◌||◌, ◌+◌, Option, Some, None, List, [], ◌∷◌, refl}
use Rattle.std.proofs.Common.{sym}
use Rattle.std.proofs.Common.{ap, ◌∙◌, subst, ◌≤◌, ◌-◌, if◌then◌else◌}
use Rattle.cell_types.specs.declared.words.Arm.{Arm}
use Rattle.cell_types.specs.declared.words.Axis.{Axis}
use Rattle.cell_types.specs.declared.words.Axis.TheVariants as axis
use Rattle.cell_types.specs.declared.words.Belt.{Belt}
use Rattle.cell_types.specs.declared.words.Belt.TheVariants as belt
use Rattle.cell_types.specs.declared.words.Colour.{Colour}
use Rattle.cell_types.specs.declared.words.Colour.TheVariants as colour
use Rattle.cell_types.specs.declared.words.Command.{Command}
use Rattle.cell_types.specs.declared.words.Command.TheVariants.{Lamp, On, Off, MagnetOn, MagnetOff, AllOff}
use Rattle.cell_types.specs.declared.words.Entry.{Entry}
use Rattle.cell_types.specs.declared.words.Machine.{Machine}
use Rattle.cell_types.specs.declared.words.Machine.TheVariants as machine
use Rattle.cell_types.specs.declared.words.Pose.{Pose}
use Rattle.cell_types.specs.declared.words.Pose.TheVariants as pose
use Rattle.cell_types.specs.declared.words.Station.{Station}
use Rattle.cell_types.specs.declared.words.Station.TheVariants as station
use Rattle.cell_types.specs.Cell.{axes_of, machine_of_axis, station_of_arm}
use Rattle.cell_types.specs.Entries.{command_of}
use Rattle.cell_types.specs.Same.{same_colour, same_pose}
use Rattle.cell_measures.specs.declared.durations.Durations.{Durations}
use Rattle.cell_measures.specs.Times.{duration}
use Rattle.cell_ports.specs.declared.plan.Plan.{Plan}
use Rattle.cell_turns.specs.Moving.{limits_of}
use Rattle.cell_sim.specs.declared.fault.Fault.{Fault}
use Rattle.cell_sim.specs.declared.fault.Fault.TheVariants as fault
use Rattle.cell_sim.specs.declared.fault.PlannedFault.{PlannedFault}
use Rattle.cell_sim.specs.declared.motion.Moving.{Moving}
use Rattle.cell_sim.specs.declared.motion.Path.{Path}
use Rattle.cell_sim.specs.declared.motion.Path.TheVariants.{Poses, Stations}
use Rattle.cell_sim.specs.declared.motion.Phase.{Phase}
use Rattle.cell_sim.specs.declared.motion.Phase.TheVariants.{Seen, Between, Arrived}
use Rattle.cell_sim.specs.declared.watch.SafetyRule.{SafetyRule}
use Rattle.cell_sim.specs.declared.watch.SafetyRule.TheVariants as rule
use Rattle.cell_sim.specs.declared.world.Plate.{Plate}
use Rattle.cell_sim.specs.Commands.{after_command, all_stopped, axis_stopped, fails, feed_lit, gripped, gripped_from}
use Rattle.cell_sim.specs.Commands.{has_arm_at, is_refused, laid_at, laid_down, lit, met, motion_number, obeyed}
use Rattle.cell_sim.specs.Commands.{path_of, set_on, set_out, started, started_with, station_before, told, turned_off}
use Rattle.cell_sim.specs.Commands.{unlit}
use Rattle.cell_sim.specs.Looks.{all_situation, arm_of, broke_by, broken_by_release, broken_by_start, can_lie}
use Rattle.cell_sim.specs.Looks.{carrying_looked, is_belt, is_so, looked, now_so, plate_dropped}
use Rattle.cell_sim.specs.Looks.{plate_of_arm_lost, release_looked, rule_of, situation_looked, start_looked, was_so}
use Rattle.cell_sim.specs.Moves.{goal_of, moves, next_phase, same_number}
use Rattle.cell_sim.specs.Parts.{axis_at, broke, collided, has_plate, in_turn, plate_at}
use Rattle.cell_sim.specs.Parts.{plate_here, plate_lost, plate_moved, with_motion, with_plate, with_pose}
use Rattle.cell_sim.specs.Readings.{advanced, after_reading, arrived, at_its_end, axis_skipped}
use Rattle.cell_sim.specs.Readings.{by_the_hands, command_of as begun_by, forged_there, forges, full_belt_broke}
use Rattle.cell_sim.specs.Readings.{gone_on, is_feed_empty, is_plate_left, is_reading_missing, is_silent_in, laid_in}
use Rattle.cell_sim.specs.Readings.{left_with, next_laid, passed, plate_laid, plate_taken, put_down, read_on}
use Rattle.cell_sim.specs.Readings.{stations_left}
use Rattle.cell_sim.specs.Script.{fault_in}
use Rattle.cell_sim.specs.Simulated.{Simulated}
use Rattle.cell_world.specs.Starting.{after_entry, after_order, further_in}
use Rattle.cell_world.specs.Tie.{IsFairPlan}
use Rattle.cell_world.specs.Turning.{DurationsStay, after_turn}
use Rattle.cell_world.proofs.Steps.{either}

abbrev long : Simulated → Durations × ℕ
long w = (w.durations, w.cleared)

-- where one of two things is done, neither of which changes it
one_of : (b : Bool) (v u w : Simulated) → long v ≡ long w → long u ≡ long w → long (if b then v else u) ≡ long w
one_of b v u w h k = either long b v u (long w) h k

each_long : {A : Type 0} (step : A → Simulated → Simulated) → ((a : A) (w : Simulated) → long (step a w) ≡ long w)
    → (xs : List A) (w : Simulated) → long (in_turn step xs w) ≡ long w
each_long step h [] w = refl
each_long step h (x ∷ xs) w = each_long step h xs (step x w) ∙ h x w

-- WHAT IS LOOKED AT

broke_long : (r : SafetyRule) (c : Option Command) (w : Simulated) → long (broke r c w) ≡ long w
unfolding broke
broke_long r c w = refl

lost_long : (s : Station) (w : Simulated) → long (plate_lost s w) ≡ long w
lost_long s w = one_of (has_plate w s) _ w w refl refl

arm_long : (a : Option Arm) (w : Simulated) → long (plate_of_arm_lost a w) ≡ long w
arm_long None w = refl
arm_long (Some a) w = lost_long (station_of_arm a) w

looked_long : (c : Option Command) (w : Simulated) → long (looked c w) ≡ long w
unfolding looked situation_looked
looked_long c w =
    one_of w.watch.is_on (in_turn (situation_looked c) all_situation w) w w
    (each_long (situation_looked c) (λ s v. one_of (is_so v s && not (was_so v.watch s))
    (plate_of_arm_lost (arm_of s) (broke (rule_of s) c (record v { watch = now_so s (is_so v s) v.watch })))
    (record v { watch = now_so s (is_so v s) v.watch }) v
    (arm_long (arm_of s) (broke (rule_of s) c (record v { watch = now_so s (is_so v s) v.watch }))
    ∙ broke_long (rule_of s) c (record v { watch = now_so s (is_so v s) v.watch })) refl) all_situation w) refl

by_long : (o : Option SafetyRule) (c : Command) (w : Simulated) → long (broke_by o c w) ≡ long w
by_long None c w = refl
by_long (Some r) c w = broke_long r (Some c) w

start_long : (a : Axis) (to : Pose) (w : Simulated) → long (start_looked a to w) ≡ long w
unfolding start_looked
start_long a to w =
    one_of w.watch.is_on (broke_by (broken_by_start w a to) (On a to) w) w w
    (by_long (broken_by_start w a to) (On a to) w) refl

dropped_long : (a : Arm) (o : Option SafetyRule) (w : Simulated) → long (plate_dropped a o w) ≡ long w
dropped_long a None w = refl
dropped_long a (Some r) w =
    lost_long (station_of_arm a) (broke r (Some (MagnetOff a)) w) ∙ broke_long r (Some (MagnetOff a)) w

release_long : (a : Arm) (s : Option Station) (w : Simulated) → long (release_looked a s w) ≡ long w
unfolding release_looked
release_long a s w =
    one_of w.watch.is_on (plate_dropped a (broken_by_release w a s) w) w w
    (dropped_long a (broken_by_release w a s) w) refl

carrying_long : (from to : Station) (w : Simulated) → long (carrying_looked from to w) ≡ long w
unfolding carrying_looked
carrying_long from to w =
    one_of (w.watch.is_on && not (can_lie w to)) (plate_lost from w) w w (lost_long from w) refl

moved_long : (from to : Station) (w : Simulated) → long (plate_moved from to w) ≡ long w
moved_long from to w =
    one_of (has_plate w to) w (with_plate to (plate_here w from) (with_plate from None w)) w refl refl

-- A READING

forged_long : (a : Axis) (s : Station) (o : Option Plate) (w : Simulated) → long (forged_there a s o w) ≡ long w
forged_long a s None w = refl
forged_long a s (Some p) w =
    one_of p.is_forged (broke rule.ForgedTwice (Some (On a pose.Top)) w) _ w
    (broke_long rule.ForgedTwice (Some (On a pose.Top)) w) refl

forges_long : (a : Axis) (w : Simulated) → long (forges a w) ≡ long w
unfolding forges
forges_long axis.PressOne w = forged_long axis.PressOne station.Press1 (plate_here w station.Press1) w
forges_long axis.PressTwo w = forged_long axis.PressTwo station.Press2 (plate_here w station.Press2) w
forges_long a w = refl

end_long : (a : Axis) (to : Pose) (w : Simulated) → long (at_its_end a to w) ≡ long w
end_long a to w =
    one_of (same_pose to pose.Top) (forges a (with_pose a to w)) (with_pose a to w) w
    (forges_long a (with_pose a to w)) refl

arrived_long : (a : Axis) (path : Path) (w : Simulated) → long (arrived a path w) ≡ long w
unfolding arrived
arrived_long a (Poses from to) w = end_long a to w
arrived_long a (Stations from to k) w =
    one_of (same_number (plate_at w from) k) (plate_moved from to (carrying_looked from to w)) w w
    (moved_long from to (carrying_looked from to w) ∙ carrying_long from to w) refl

left_long : (f : Option Fault) (a : Axis) (w : Simulated) → long (left_with f a w) ≡ long w
unfolding left_with
left_long (Some fault.LosePlate) a w = each_long plate_lost lost_long (stations_left a) w
left_long f a w = refl

passed_long : (a : Axis) (m : Moving) (p q : Phase) (w : Simulated) → long (passed a m p q w) ≡ long w
passed_long a m Seen (Between n) w = left_long m.fault a w
passed_long a m (Between n) Arrived w =
    looked_long (begun_by a (goal_of a m)) (arrived a m.path w) ∙ arrived_long a m.path w
passed_long a m p q w = refl

gone_long : (a : Axis) (o : Option Moving) (w : Simulated) → long (gone_on a o w) ≡ long w
gone_long a None w = refl
gone_long a (Some m) w =
    passed_long a m m.phase (next_phase m) (with_motion a (Some (record m { phase = next_phase m })) w)

advanced_long : (a : Axis) (w : Simulated) → long (advanced a w) ≡ long w
unfolding advanced
advanced_long a w =
    one_of (moves (axis_at w a).motion) (gone_on a (axis_at w a).motion w) w w
    (gone_long a (axis_at w a).motion w) refl

skipped_long : (a : Axis) (w : Simulated) → long (axis_skipped a w) ≡ long w
unfolding axis_skipped
skipped_long a w = one_of (is_silent_in (axis_at w a).motion) _ w w refl refl

read_long : (m : Machine) (w : Simulated) → long (read_on m w) ≡ long w
unfolding read_on
read_long m w =
    one_of (is_reading_missing w m) (in_turn axis_skipped (axes_of m) w) (in_turn advanced (axes_of m) w) w
    (each_long axis_skipped skipped_long (axes_of m) w) (each_long advanced advanced_long (axes_of m) w)

down_long : (k : ℕ) (w : Simulated) → long (put_down k w) ≡ long w
down_long k w = one_of (has_plate w station.FeedIn) _ _ w refl refl

full_long : (b : Bool) (w : Simulated) → long (full_belt_broke b w) ≡ long w
full_long b w =
    one_of b w (broke rule.LaidOntoFullBelt (Some (Lamp belt.Feed colour.Green)) w) w refl
    (broke_long rule.LaidOntoFullBelt (Some (Lamp belt.Feed colour.Green)) w)

laid_long : (k : ℕ) (b : Bool) (w : Simulated) → long (laid_in k b w) ≡ long w
unfolding laid_in
laid_long k b w = down_long k (full_belt_broke b w) ∙ full_long b w

hands_long : (m : Machine) (w : Simulated) → long (by_the_hands w m) ≡ long w
unfolding plate_laid plate_taken
hands_long machine.Feed w =
    one_of (same_colour w.feed_light colour.Green && (is_plate_left w && (is_feed_empty w || w.is_trusting)))
    (laid_in (w.laid + 1) (is_feed_empty w) (next_laid w)) w w
    (laid_long (w.laid + 1) (is_feed_empty w) (next_laid w)) refl
hands_long machine.Deposit w =
    one_of (same_colour w.deposit_light colour.Green && has_plate w station.DepEnd) _ w w refl refl
hands_long m w = refl

read_keeps : (w : Simulated) (m : Machine) → long (after_reading w m) ≡ long w
unfolding after_reading
read_keeps w m = read_long m (by_the_hands w m) ∙ hands_long m w

pub reading_long : (w : Simulated) (m : Machine) → (after_reading w m).durations ≡ w.durations
reading_long w m = ap (λ (x : Durations × ℕ). x.0) (read_keeps w m)

-- A COMMAND

lit_long : (b : Belt) (c : Colour) (w : Simulated) → long (lit b c w) ≡ long w
unfolding feed_lit
lit_long belt.Feed c w = refl
lit_long belt.Deposit c w = refl

told_long : (a : Axis) (w : Simulated) → long (told a w) ≡ long w
unfolding told
told_long a w = refl

met_long : (a : Axis) (w : Simulated) → long (met a w) ≡ long w
unfolding met
met_long a w = one_of (has_arm_at w (machine_of_axis a)) (collided w) w w refl refl

out_long : (a : Axis) (to : Pose) (f : Option Fault) (o : Option Path) (w : Simulated)
    → long (set_out a to f o w) ≡ long w
unfolding set_out
out_long a to f None w = refl
out_long a to f (Some path) w = refl

with_long : (a : Axis) (to : Pose) (f : Option Fault) (w : Simulated) → long (started_with a to f w) ≡ long w
with_long a to f w =
    let v = start_looked a to (met a w) in
    one_of (is_refused f) w (set_on a to f v) w refl
    (out_long a to f (path_of v a to) v ∙ (start_long a to (met a w) ∙ met_long a w))

started_long : (fs : List PlannedFault) (a : Axis) (to : Pose) (w : Simulated) → long (started fs a to w) ≡ long w
unfolding started
started_long fs a to w = with_long a to (fault_in a (motion_number w a) fs) (told a w) ∙ told_long a w

off_long : (a : Axis) (w : Simulated) → long (turned_off a w) ≡ long w
off_long a w = one_of (is_belt a) (with_motion a None w) w w refl refl

grip_long : (a : Arm) (o : Option Station) (w : Simulated) → long (gripped_from a o w) ≡ long w
grip_long a None w = refl
grip_long a (Some s) w = moved_long s (station_of_arm a) w

gripped_long : (a : Arm) (w : Simulated) → long (gripped a w) ≡ long w
unfolding gripped
gripped_long a w = grip_long a (station_before w a) w

lay_long : (a : Arm) (o : Option Station) (w : Simulated) → long (laid_at a o w) ≡ long w
lay_long a None w = release_long a None (collided w)
lay_long a (Some s) w =
    one_of (has_plate w s) (release_looked a (Some s) (collided w)) (plate_moved (station_of_arm a) s w) w
    (release_long a (Some s) (collided w)) (moved_long (station_of_arm a) s w)

down_by_long : (a : Arm) (w : Simulated) → long (laid_down a w) ≡ long w
unfolding laid_down
down_by_long a w = lay_long a (station_before w a) w

unlit_long : (m : Machine) (w : Simulated) → long (unlit m w) ≡ long w
unlit_long machine.Feed w = lit_long belt.Feed colour.Red w
unlit_long machine.Deposit w = lit_long belt.Deposit colour.Red w
unlit_long m w = refl

stopped_long : (m : Machine) (w : Simulated) → long (all_stopped m w) ≡ long w
unfolding all_stopped
stopped_long m w = each_long axis_stopped (λ a v. refl) (axes_of m) (unlit m w) ∙ unlit_long m w

obeyed_long : (fs : List PlannedFault) (w : Simulated) (c : Command) → long (obeyed fs w c) ≡ long w
obeyed_long fs w (Lamp b c) = lit_long b c w
obeyed_long fs w (On a to) = started_long fs a to w
obeyed_long fs w (Off a) = off_long a w
obeyed_long fs w (MagnetOn a) = gripped_long a w
obeyed_long fs w (MagnetOff a) = down_by_long a w
obeyed_long fs w (AllOff m) = stopped_long m w

command_long : (fs : List PlannedFault) (w : Simulated) (c : Command) → long (after_command fs w c) ≡ long w
unfolding after_command
command_long fs w c =
    one_of (fails fs w c) (obeyed fs w c) (looked (Some c) (obeyed fs w c)) w (obeyed_long fs w c)
    (looked_long (Some c) (obeyed fs w c) ∙ obeyed_long fs w c)

order_long : (w : Simulated) (o : Option Command) → long (after_order w o) ≡ long w
order_long w None = refl
order_long w (Some c) = command_long [] w c

turn_keeps : (w : Simulated) (m : Machine) (e : Option Entry) → long (after_turn w m e) ≡ long w
turn_keeps w m None = read_keeps w m
turn_keeps w m (Some x) = order_long (after_reading w m) (command_of x) ∙ read_keeps w m

pub turn_long : (w : Simulated) (m : Machine) (e : Option Entry) → (after_turn w m e).durations ≡ w.durations
turn_long w m e = ap (λ (x : Durations × ℕ). x.0) (turn_keeps w m e)

pub entry_long : (w : Simulated) (x : Entry) → (after_entry w x).durations ≡ w.durations
entry_long w x = ap (λ (y : Durations × ℕ). y.0) (order_long w (command_of x))

pub turn_clears : (w : Simulated) (m : Machine) (e : Option Entry) → (after_turn w m e).cleared ≡ w.cleared
turn_clears w m e = ap (λ (x : Durations × ℕ). x.1) (turn_keeps w m e)

pub stays_so : DurationsStay
stays_so w m e = (turn_long w m e, turn_clears w m e)

-- the plan's limits allow it then as before
pub fair_then : (p : Plan) (w v : Simulated) → v.durations ≡ w.durations → IsFairPlan p w → IsFairPlan p v
fair_then p w v h t =
    subst (λ (ds : Durations). (a : Axis) (to : Pose) → (2 ≤ (limits_of p a).leave)
    × ((duration ds (record { axis = a; to = to }) - 1) + 3 ≤ (limits_of p a).limit)) (sym h) t

-- nor does what a motion takes there, of which so much is left beyond a reading
pub further_then : (w v : Simulated) (a : Axis) (to : Pose) → v.durations ≡ w.durations
    → further_in v a to ≡ further_in w a to
further_then w v a to h = ap (λ (d : Durations). duration d (record { axis = a; to = to }) - 1) h
