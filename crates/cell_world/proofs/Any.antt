-- One reading more of an axis with switches, whichever it is
use Rattle.std.proofs.Common.{◌≡◌, ◌≢◌, true, false, Option, Some, None, List, [], ◌∷◌, ◌++◌, length}
use Rattle.std.proofs.Common.{ℕ, zero, suc, ◌+◌, refl, arith, sym, ap, ◌∙◌, length-set, if◌then◌else◌, subst}
use Rattle.std.specs.Option.{option_map}
use Rattle.cell_types.specs.declared.words.Axis.{Axis}
use Rattle.cell_types.specs.declared.words.Axis.TheVariants as axis
use Rattle.cell_types.specs.declared.words.Pose.{Pose}
use Rattle.cell_types.specs.declared.words.Entry.{Entry}
use Rattle.cell_types.specs.declared.words.Pose.TheVariants as pose
use Rattle.cell_types.specs.Same.{axis_number}
use Rattle.cell_types.specs.declared.words.Command.{Command}
use Rattle.cell_types.specs.Cell.{axes_of, is_pose_of, machine_of_axis}
use Rattle.cell_rules.specs.Views.{at_of, going_of}
use Rattle.cell_diagnosis.specs.declared.reading.Reading.{Reading}
use Rattle.cell_diagnosis.specs.Readings.{Seen, seen, no_bits, bit, axis_bits}
use Rattle.cell_diagnosis.specs.declared.motion.Motion.{Motion}
use Rattle.cell_ports.specs.declared.plan.Plan.{Plan}
use Rattle.cell_turns.specs.Following.{Following}
use Rattle.cell_turns.specs.Moving.{motion_of_machine}
use Rattle.cell_turns.specs.Observed.{axis_noted, followed, with_reading}
use Rattle.cell_sim.specs.Moves.{switch_bit}
use Rattle.cell_sim.specs.declared.axis.AxisInWorld.{AxisInWorld}
use Rattle.cell_sim.specs.declared.motion.Moving.{Moving}
use Rattle.cell_sim.specs.declared.motion.Path.TheVariants.{Poses}
use Rattle.cell_sim.specs.declared.motion.Phase.TheVariants.{Seen as IsSeen, Between, Arrived}
use Rattle.cell_sim.specs.Simulated.{Simulated}
use Rattle.cell_sim.specs.Parts.{axis_at, in_turn, with_motion, broke}
use Rattle.cell_sim.specs.Readings.{advanced, after_reading, is_reading_missing, read_on, shown, shown_now, shown_on}
use Rattle.cell_sim.specs.Readings.{switches_of, by_the_hands}
use Rattle.cell_sim.specs.declared.watch.SafetyRule.{SafetyRule}
use Rattle.cell_sim.specs.Looks.{is_belt}
use Rattle.cell_world.specs.Tied.{Given, none, one, more, further_of, motion_along, motion_by, next_given, noted_of}
use Rattle.cell_world.specs.Tied.{only, under_way, Goes, IsFair, Rests, RestsBy}
use Rattle.cell_world.proofs.Steps.{unless, readings_of, followed_as, seen_of, at_same, at_other, went, went_watch}
use Rattle.cell_world.proofs.Steps.{more_arrived, more_pending, motion_then, noted_more}
use Rattle.cell_world.proofs.Steps.{goes_on, stays, rest_silent, axes_at, below_nine, made, rests_as, went_left}
use Rattle.cell_world.specs.Agreeing.{bits_at}
use Rattle.cell_world.specs.Going.{AxisGoes, AxisCame, AxisStays, AxisGoesOn, IsPlain, OthersRest}

pub broke_axes : (r : SafetyRule) (c : Option Command) (w : Simulated) → (broke r c w).axes ≡ w.axes
unfolding broke
broke_axes r c w = refl

went_axes : (a : Axis) (at to : Pose) (g : Given) (w : Simulated) → (went a at to g w).axes ≡ (made a at to g w).axes
went_axes a at to g w =
    went_left (λ (v : Simulated). v.axes) (record { broken = broke_axes; plates = λ s o n v. refl }) a at to g w

broke_stations : (r : SafetyRule) (c : Option Command) (w : Simulated) → length (broke r c w).plates ≡ length w.plates
unfolding broke
broke_stations r c w = refl

made_stations : (a : Axis) (at to : Pose) (g : Given) (w : Simulated)
    → length (made a at to g w).plates ≡ length w.plates
unfolding made
made_stations a at to (none n) w = refl
made_stations a at to (one n) w = refl
made_stations a at to (more n zero) w = refl
made_stations a at to (more n (suc k)) w = refl

went_stations : (a : Axis) (at to : Pose) (g : Given) (w : Simulated)
    → length (went a at to g w).plates ≡ length w.plates
went_stations a at to g w =
    went_left (λ (v : Simulated). length v.plates)
    (record { broken = broke_stations; plates = λ s o n v. length-set _ _ _ }) a at to g w
    ∙ made_stations a at to g w

nine_made : (a : Axis) (at to : Pose) (g : Given) (w : Simulated) → length (made a at to g w).axes ≡ length w.axes
unfolding made
nine_made a at to (none n) w = length-set _ _ _
nine_made a at to (one n) w = length-set _ _ _
nine_made a at to (more n (suc k)) w = length-set _ _ _
nine_made a at to (more n zero) w = length-set _ _ _ ∙ length-set _ _ _

pub went_nine : (a : Axis) (at to : Pose) (g : Given) (w : Simulated) → length (went a at to g w).axes ≡ length w.axes
went_nine a at to g w = ap (λ (xs : List AxisInWorld). length xs) (went_axes a at to g w) ∙ nine_made a at to g w

other_made : (a b : Axis) (at to : Pose) (g : Given) (w : Simulated) → axis_number b ≢ axis_number a
    → axis_at (made a at to g w) b ≡ axis_at w b
unfolding made
other_made a b at to (none n) w h = at_other w a b _ h
other_made a b at to (one n) w h = at_other w a b _ h
other_made a b at to (more n (suc k)) w h = at_other w a b _ h
other_made a b at to (more n zero) w h =
    at_other (with_motion a (Some (motion_along (Poses at to) (n + 0) Arrived)) w) a b _ h ∙ at_other w a b _ h

pub other_went : (a b : Axis) (at to : Pose) (g : Given) (w : Simulated) → axis_number b ≢ axis_number a
    → axis_at (went a at to g w) b ≡ axis_at w b
other_went a b at to g w h = axes_at (went a at to g w) (made a at to g w) b (went_axes a at to g w)
    ∙ other_made a b at to g w h

abbrev pub moved : Pose → Pose → Given → AxisInWorld → AxisInWorld
moved at to (none n) x = record x { motion = Some (motion_along (Poses at to) n IsSeen) }
moved at to (one n) x = record x { motion = Some (motion_along (Poses at to) n (Between n)) }
moved at to (more n zero) x = record x { pose = to; motion = Some (motion_along (Poses at to) (n + 0) Arrived) }
moved at to (more n (suc k)) x = record x { motion = Some (motion_along (Poses at to) (n + suc k) (Between k)) }

moved_goes : (at to : Pose) (g h : Given) (x : AxisInWorld) → next_given g ≡ Some h → x.pose ≡ at
    → Goes at to h (moved at to g x)
moved_goes at to (none n) h x e p =
    record { pose = p; motion = ap (λ (m : Moving). Some m) (motion_then (Poses at to) (none n) h e) }
moved_goes at to (one n) h x e p =
    record { pose = p; motion = ap (λ (m : Moving). Some m) (motion_then (Poses at to) (one n) h e) }
moved_goes at to (more n zero) h x e p = cc e
moved_goes at to (more n (suc k)) h x e p =
    record { pose = p; motion = ap (λ (m : Moving). Some m) (motion_then (Poses at to) (more n (suc k)) h e) }

same_made : (a : Axis) (at to : Pose) (g : Given) (w : Simulated) → length w.axes ≡ 9
    → axis_at (made a at to g w) a ≡ moved at to g (axis_at w a)
unfolding made
same_made a at to (none n) w nine = at_same w a _ (below_nine a _ nine)
same_made a at to (one n) w nine = at_same w a _ (below_nine a _ nine)
same_made a at to (more n (suc k)) w nine = at_same w a _ (below_nine a _ nine)
same_made a at to (more n zero) w nine =
    let w1 = with_motion a (Some (motion_along (Poses at to) (n + 0) Arrived)) w in
    let n1 : length w1.axes ≡ 9 = length-set _ _ _ ∙ nine in
    at_same w1 a _ (below_nine a _ n1)
    ∙ ap (λ (x : AxisInWorld). record x { pose = to }) (at_same w a _ (below_nine a _ nine))

pub same_went : (a : Axis) (at to : Pose) (g : Given) (w : Simulated) → length w.axes ≡ 9
    → axis_at (went a at to g w) a ≡ moved at to g (axis_at w a)
same_went a at to g w nine = axes_at (went a at to g w) (made a at to g w) a (went_axes a at to g w)
    ∙ same_made a at to g w nine

-- all other axes of its machine rest in the world
abbrev pub Others : List Entry → Axis → Simulated → Type 0
Others J a w = (b : Axis) → machine_of_axis b ≡ machine_of_axis a → axis_number b ≢ axis_number a
    → Rests (at_of J b) (axis_at w b)

pub others_of : (J : List Entry) (a : Axis) (w : Simulated) → OthersRest J w a → Others J a w
others_of J a w o b m h = (o b m h).rests

abbrev Way : Pose → Pose → Given → Axis → Simulated → Type 0
Way at to g a w = (axis_at w a).motion ≡ Some (under_way (Poses at to) g)

-- an axis that rests stays where it is, before and after the other went on
waits : (J : List Entry) (b : Axis) (w : Simulated) → Rests (at_of J b) (axis_at w b) → advanced b w ≡ w
waits J b w r = stays b w (at_of J b) r.motion

waits_then : (J : List Entry) (a b : Axis) (at to : Pose) (g : Given) (w : Simulated) → axis_number b ≢ axis_number a
    → Rests (at_of J b) (axis_at w b) → advanced b (went a at to g w) ≡ went a at to g w
waits_then J a b at to g w h r =
    let o = other_went a b at to g w h in
    stays b (went a at to g w) (at_of J b) (subst (λ (x : AxisInWorld). RestsBy (at_of J b) x.motion) (sym o) r.motion)

all_advance : (J : List Entry) (a : Axis) (at to : Pose) (g : Given) (w : Simulated) → w.watch.is_on ≡ false
    → is_belt a ≡ false → Others J a w
    → Way at to g a w → in_turn advanced (axes_of (machine_of_axis a)) w ≡ went a at to g w
all_advance J axis.FeedBelt at to g w u s o h = cc s
all_advance J axis.DepositBelt at to g w u s o h = cc s
all_advance J axis.TableLift at to g w u s o h =
    let rTableTurn = o axis.TableTurn refl (omega arith) in
    ap (λ (v : Simulated). advanced axis.TableTurn (v)) (goes_on axis.TableLift w at to g u h)
    ∙ (waits_then J axis.TableLift axis.TableTurn at to g w (omega arith) rTableTurn)
all_advance J axis.TableTurn at to g w u s o h =
    let rTableLift = o axis.TableLift refl (omega arith) in
    ap (λ (v : Simulated). advanced axis.TableTurn (v)) (waits J axis.TableLift w rTableLift)
    ∙ (goes_on axis.TableTurn w at to g u h)
all_advance J axis.RobotTurn at to g w u s o h =
    let rArmOne = o axis.ArmOne refl (omega arith) in
    let rArmTwo = o axis.ArmTwo refl (omega arith) in
    ap (λ (v : Simulated). advanced axis.ArmTwo (advanced axis.ArmOne (v))) (goes_on axis.RobotTurn w at to g u h)
    ∙ (ap (λ (v : Simulated). advanced axis.ArmTwo (v)) (waits_then J axis.RobotTurn axis.ArmOne at to g w
    (omega arith) rArmOne)
    ∙ (waits_then J axis.RobotTurn axis.ArmTwo at to g w (omega arith) rArmTwo))
all_advance J axis.ArmOne at to g w u s o h =
    let rRobotTurn = o axis.RobotTurn refl (omega arith) in
    let rArmTwo = o axis.ArmTwo refl (omega arith) in
    ap (λ (v : Simulated). advanced axis.ArmTwo (advanced axis.ArmOne (v))) (waits J axis.RobotTurn w rRobotTurn)
    ∙ (ap (λ (v : Simulated). advanced axis.ArmTwo (v)) (goes_on axis.ArmOne w at to g u h)
    ∙ (waits_then J axis.ArmOne axis.ArmTwo at to g w (omega arith) rArmTwo))
all_advance J axis.ArmTwo at to g w u s o h =
    let rRobotTurn = o axis.RobotTurn refl (omega arith) in
    let rArmOne = o axis.ArmOne refl (omega arith) in
    ap (λ (v : Simulated). advanced axis.ArmTwo (advanced axis.ArmOne (v))) (waits J axis.RobotTurn w rRobotTurn)
    ∙ (ap (λ (v : Simulated). advanced axis.ArmTwo (v)) (waits J axis.ArmOne w rArmOne)
    ∙ (goes_on axis.ArmTwo w at to g u h))
all_advance J axis.PressOne at to g w u s o h =
    goes_on axis.PressOne w at to g u h
all_advance J axis.PressTwo at to g w u s o h =
    goes_on axis.PressTwo w at to g u h

pub none_silent : (J : List Entry) (a : Axis) (at to : Pose) (g : Given) (w : Simulated) → is_belt a ≡ false
    → Others J a w → Way at to g a w → is_reading_missing w (machine_of_axis a) ≡ false
none_silent J axis.FeedBelt at to g w s o h = cc s
none_silent J axis.DepositBelt at to g w s o h = cc s
none_silent J axis.TableLift at to g w s o h =
    let qTableTurn = rest_silent (at_of J axis.TableTurn) (axis_at w axis.TableTurn).motion (o axis.TableTurn refl
    (omega arith)).motion in
    rw (qTableTurn, h) refl
none_silent J axis.TableTurn at to g w s o h =
    let qTableLift = rest_silent (at_of J axis.TableLift) (axis_at w axis.TableLift).motion (o axis.TableLift refl
    (omega arith)).motion in
    rw (qTableLift, h) refl
none_silent J axis.RobotTurn at to g w s o h =
    let qArmOne = rest_silent (at_of J axis.ArmOne) (axis_at w axis.ArmOne).motion (o axis.ArmOne refl
    (omega arith)).motion in
    let qArmTwo = rest_silent (at_of J axis.ArmTwo) (axis_at w axis.ArmTwo).motion (o axis.ArmTwo refl
    (omega arith)).motion in
    rw (qArmOne, qArmTwo, h) refl
none_silent J axis.ArmOne at to g w s o h =
    let qRobotTurn = rest_silent (at_of J axis.RobotTurn) (axis_at w axis.RobotTurn).motion (o axis.RobotTurn refl
    (omega arith)).motion in
    let qArmTwo = rest_silent (at_of J axis.ArmTwo) (axis_at w axis.ArmTwo).motion (o axis.ArmTwo refl
    (omega arith)).motion in
    rw (qRobotTurn, qArmTwo, h) refl
none_silent J axis.ArmTwo at to g w s o h =
    let qRobotTurn = rest_silent (at_of J axis.RobotTurn) (axis_at w axis.RobotTurn).motion (o axis.RobotTurn refl
    (omega arith)).motion in
    let qArmOne = rest_silent (at_of J axis.ArmOne) (axis_at w axis.ArmOne).motion (o axis.ArmOne refl
    (omega arith)).motion in
    rw (qRobotTurn, qArmOne, h) refl
none_silent J axis.PressOne at to g w s o h =
    rw h refl
none_silent J axis.PressTwo at to g w s o h =
    rw h refl

pub no_hands : (a : Axis) (w : Simulated) → is_belt a ≡ false → by_the_hands w (machine_of_axis a) ≡ w
no_hands axis.FeedBelt w s = cc s
no_hands axis.DepositBelt w s = cc s
no_hands a w s = refl

read_any : (J : List Entry) (a : Axis) (at to : Pose) (g : Given) (w : Simulated) → w.watch.is_on ≡ false
    → is_belt a ≡ false → Others J a w → Way at to g a w → read_on (machine_of_axis a) w ≡ went a at to g w
unfolding read_on
read_any J a at to g w u s o h =
    unless (is_reading_missing w (machine_of_axis a)) _ _ (none_silent J a at to g w s o h)
    ∙ all_advance J a at to g w u s o h

pub after_any : (J : List Entry) (a : Axis) (at to : Pose) (g : Given) (w : Simulated) → w.watch.is_on ≡ false
    → is_belt a ≡ false → Others J a w → Way at to g a w → after_reading w (machine_of_axis a) ≡ went a at to g w
unfolding after_reading
after_any J a at to g w u s o h =
    ap (λ (v : Simulated). read_on (machine_of_axis a) v) (no_hands a w s) ∙ read_any J a at to g w u s o h

pub shown_any : (J : List Entry) (a : Axis) (at to : Pose) (g : Given) (w : Simulated) → w.watch.is_on ≡ false
    → is_belt a ≡ false → Others J a w → Way at to g a w
    → shown w (machine_of_axis a) ≡ Some (shown_now (went a at to g w) (machine_of_axis a))
unfolding shown shown_on
shown_any J a at to g w u s o h =
    ap (λ (v : Simulated). if is_reading_missing v (machine_of_axis a) then None
    else Some (shown_now (read_on (machine_of_axis a) v) (machine_of_axis a))) (no_hands a w s)
    ∙ (unless (is_reading_missing w (machine_of_axis a)) _ _ (none_silent J a at to g w s o h)
    ∙ ap (λ (v : Simulated). Some (shown_now v (machine_of_axis a))) (read_any J a at to g w u s o h))

pub bits_shown : (a : Axis) (to : Pose) (w : Simulated) → is_belt a ≡ false
    → axis_bits a to (shown_now w (machine_of_axis a)) ≡ bits_at a (switches_of w a)
bits_shown axis.FeedBelt to w s = cc s
bits_shown axis.DepositBelt to w s = cc s
bits_shown a to w s = refl

pub no_bit : (a : Axis) → bits_at a 0 ≡ no_bits
unfolding bit
no_bit axis.FeedBelt = refl
no_bit axis.TableLift = refl
no_bit axis.TableTurn = refl
no_bit axis.RobotTurn = refl
no_bit axis.ArmOne = refl
no_bit axis.ArmTwo = refl
no_bit axis.PressOne = refl
no_bit axis.PressTwo = refl
no_bit axis.DepositBelt = refl

pub bits_only : (a : Axis) (p : Pose) → is_belt a ≡ false → is_pose_of a p ≡ true → bits_at a (switch_bit p) ≡ only p
unfolding bit
bits_only axis.FeedBelt p s h = cc s
bits_only axis.DepositBelt p s h = cc s
bits_only axis.TableLift pose.Low s h = refl
bits_only axis.TableLift pose.High s h = refl
bits_only axis.TableLift p s h = cc h
bits_only axis.TableTurn pose.Belt s h = refl
bits_only axis.TableTurn pose.Robot s h = refl
bits_only axis.TableTurn p s h = cc h
bits_only axis.RobotTurn pose.Table1 s h = refl
bits_only axis.RobotTurn pose.P1Load s h = refl
bits_only axis.RobotTurn pose.P1Unload s h = refl
bits_only axis.RobotTurn pose.P2Load s h = refl
bits_only axis.RobotTurn pose.P2Unload s h = refl
bits_only axis.RobotTurn pose.Deposit2 s h = refl
bits_only axis.RobotTurn p s h = cc h
bits_only axis.ArmOne pose.In s h = refl
bits_only axis.ArmOne pose.Out s h = refl
bits_only axis.ArmOne p s h = cc h
bits_only axis.ArmTwo pose.In s h = refl
bits_only axis.ArmTwo pose.Out s h = refl
bits_only axis.ArmTwo p s h = cc h
bits_only axis.PressOne pose.Middle s h = refl
bits_only axis.PressOne pose.Top s h = refl
bits_only axis.PressOne pose.Bottom s h = refl
bits_only axis.PressOne p s h = cc h
bits_only axis.PressTwo pose.Middle s h = refl
bits_only axis.PressTwo pose.Top s h = refl
bits_only axis.PressTwo pose.Bottom s h = refl
bits_only axis.PressTwo p s h = cc h

-- the switches of the axis then
switch_moved : (a : Axis) (at to : Pose) (g : Given) (w : Simulated) → is_belt a ≡ false → length w.axes ≡ 9
    → is_pose_of a at ≡ true → is_pose_of a to ≡ true
    → Some (bits_at a (switches_of (went a at to g w) a)) ≡ seen_of at to g
switch_moved a at to (none n) w s nine h k =
    let l = same_went a at to (none n) w nine in let b = bits_only a at s h in rw l (ap (λ x. Some x) b)
switch_moved a at to (one n) w s nine h k =
    let l = same_went a at to (one n) w nine in let b = no_bit a in rw l (ap (λ x. Some x) b)
switch_moved a at to (more n (suc i)) w s nine h k =
    let l = same_went a at to (more n (suc i)) w nine in let b = no_bit a in rw l (ap (λ x. Some x) b)
switch_moved a at to (more n zero) w s nine h k =
    let l = same_went a at to (more n zero) w nine in let b = bits_only a to s k in rw l (ap (λ x. Some x) b)

seen_any : (J : List Entry) (p : Plan) (a : Axis) (to : Pose) (g : Given) (w : Simulated) → is_belt a ≡ false
    → length w.axes ≡ 9 → is_pose_of a (at_of J a) ≡ true → is_pose_of a to ≡ true
    → seen (motion_by J p a to) (Some (shown_now (went a (at_of J a) to g w) (machine_of_axis a)))
    ≡ seen_of (at_of J a) to g
unfolding seen
seen_any J p a to g w s nine h k =
    ap (λ x. Some x) (bits_shown a to (went a (at_of J a) to g w) s) ∙ switch_moved a (at_of J a) to g w s nine h k

-- the axis alone of its machine goes in the book
pub moves_as : (J : List Entry) (p : Plan) (a : Axis) (to : Pose) (w : Simulated) → is_belt a ≡ false
    → going_of J a ≡ Some to → OthersRest J w a → motion_of_machine J p (machine_of_axis a) ≡ Some (motion_by J p a to)
moves_as J p axis.FeedBelt to w s h o = cc s
moves_as J p axis.DepositBelt to w s h o = cc s
moves_as J p axis.TableLift to w s h o = rw h refl
moves_as J p axis.TableTurn to w s h o =
    let b = (o axis.TableLift refl (omega arith)).booked in rw (b, h) refl
moves_as J p axis.RobotTurn to w s h o = rw h refl
moves_as J p axis.ArmOne to w s h o =
    let b = (o axis.RobotTurn refl (omega arith)).booked in rw (b, h) refl
moves_as J p axis.ArmTwo to w s h o =
    let b = (o axis.RobotTurn refl (omega arith)).booked in
    let c = (o axis.ArmOne refl (omega arith)).booked in
    rw (b, c, h) refl
moves_as J p axis.PressOne to w s h o = rw h refl
moves_as J p axis.PressTwo to w s h o = rw h refl

noted_any : (J : List Entry) (p : Plan) (a : Axis) (to : Pose) (g : Given) (f : Option Following) (w : Simulated)
    → is_belt a ≡ false → AxisGoes J p a to g f w
    → axis_noted J (machine_of_axis a) p f (shown w (machine_of_axis a))
    ≡ Some (record {
      motion = motion_by J p a to;
      readings = readings_of (motion_by J p a to) g ++ seen_of (at_of J a) to g ∷ [];
    })
noted_any J p a to g f w s t =
    let m = motion_by J p a to in let n = machine_of_axis a in
    ap (λ (x : Option Following). option_map (with_reading (shown w n)) (followed x (motion_of_machine J p n))) t.noted
    ∙ (ap (λ (x : Option Motion). option_map (with_reading (shown w n)) (followed (noted_of m g) x))
    (moves_as J p a to w s t.booked t.others)
    ∙ (ap (λ (x : Option Following). option_map (with_reading (shown w n)) x) (followed_as m g)
    ∙ (ap (λ (r : Option Reading). Some (with_reading r (record { motion = m; readings = readings_of m g })))
    (shown_any J a (at_of J a) to g w t.plain.unwatched s (others_of J a w t.others) t.goes.motion)
    ∙ ap (λ (x : Seen). Some (record { motion = m; readings = readings_of m g ++ x ∷ [] }))
    (seen_any J p a to g w s t.plain.axes t.from_pose t.to_pose))))

-- the world is as plain as before, and the others rest as before
went_plain : (a : Axis) (at to : Pose) (g : Given) (w : Simulated) → IsPlain w → IsPlain (went a at to g w)
went_plain a at to g w t =
    record {
      unwatched = went_watch a at to g w ∙ t.unwatched;
      axes = went_nine a at to g w ∙ t.axes;
      stations = went_stations a at to g w ∙ t.stations;
    }

others_then : (J : List Entry) (a : Axis) (at to : Pose) (g : Given) (w : Simulated) → OthersRest J w a
    → OthersRest J (went a at to g w) a
others_then J a at to g w o b m h =
    rests_as J J (went a at to g w) w b refl refl (other_went a b at to g w h) (o b m h)

goes_any : (J : List Entry) (p : Plan) (a : Axis) (to : Pose) (g g' : Given) (f f' : Option Following) (w : Simulated)
    → AxisGoes J p a to g f w → f' ≡ noted_of (motion_by J p a to) g'
    → Goes (at_of J a) to g' (moved (at_of J a) to g (axis_at w a))
    → AxisGoes J p a to g' f' (went a (at_of J a) to g w)
goes_any J p a to g g' f f' w t e goes =
    record {
      plain = went_plain a (at_of J a) to g w t.plain;
      booked = t.booked;
      from_pose = t.from_pose;
      to_pose = t.to_pose;
      goes = subst (λ (x : AxisInWorld). Goes (at_of J a) to g' x) (sym (same_went a (at_of J a) to g w t.plain.axes))
          goes;
      others = others_then J a (at_of J a) to g w t.others;
      noted = e;
    }

-- what the watch has noted then
abbrev Noted : List Entry → Plan → Axis → Option Following → Simulated → Option Following
Noted J p a f w = axis_noted J (machine_of_axis a) p f (shown w (machine_of_axis a))

stays_on : (J : List Entry) (p : Plan) (a : Axis) (to : Pose) (g h : Given) (f : Option Following) (w : Simulated)
    → next_given g ≡ Some h → is_belt a ≡ false → IsFair (motion_by J p a to) (further_of g) → AxisGoes J p a to g f w
    → AxisStays J p a to h (Noted J p a f w) (after_reading w (machine_of_axis a))
stays_on J p a to g h f w e s fair t =
    let m = motion_by J p a to in
    let n = noted_any J p a to g f w s t ∙ noted_more m g h e in
    let v = after_any J a (at_of J a) to g w t.plain.unwatched s (others_of J a w t.others) t.goes.motion in
    subst (λ (y : Simulated). AxisStays J p a to h (Noted J p a f w) y) (sym v)
    (subst (λ (x : Option Following). AxisStays J p a to h x (went a (at_of J a) to g w)) (sym n)
    (record {
      pending = more_pending m g h e fair;
      goes = goes_any J p a to g h f (noted_of m h) w t refl
          (moved_goes (at_of J a) to g h (axis_at w a) e t.goes.pose);
    }))

comes_to : (J : List Entry) (p : Plan) (a : Axis) (to : Pose) (i : ℕ) (f : Option Following) (w : Simulated)
    → is_belt a ≡ false → IsFair (motion_by J p a to) (i + 0) → AxisGoes J p a to (more i zero) f w
    → AxisCame J p a to (Noted J p a f w) (after_reading w (machine_of_axis a))
comes_to J p a to i f w s fair t =
    let g = more i zero in let m = motion_by J p a to in
    let n = noted_any J p a to g f w s t in
    let v = after_any J a (at_of J a) to g w t.plain.unwatched s (others_of J a w t.others) t.goes.motion in
    subst (λ (y : Simulated). AxisCame J p a to (Noted J p a f w) y) (sym v)
    (subst (λ (x : Option Following). AxisCame J p a to x (went a (at_of J a) to g w)) (sym n)
    (record {
      plain = went_plain a (at_of J a) to g w t.plain;
      booked = t.booked;
      to_pose = t.to_pose;
      came = subst (λ (x : AxisInWorld). Rests to x) (sym (same_went a (at_of J a) to g w t.plain.axes))
          (record { pose = refl; motion = (at_of J a, i + 0, refl) });
      others = others_then J a (at_of J a) to g w t.others;
      verdict = more_arrived m g refl fair;
    }))

pub any_goes : AxisGoesOn
any_goes J p a to (none n) f w s fair t = stays_on J p a to (none n) (one n) f w refl s fair t
any_goes J p a to (one n) f w s fair t = stays_on J p a to (one n) (more 0 n) f w refl s fair t
any_goes J p a to (more n (suc k)) f w s fair t =
    stays_on J p a to (more n (suc k)) (more (suc n) k) f w refl s fair t
any_goes J p a to (more n zero) f w s fair t = comes_to J p a to n f w s fair t
