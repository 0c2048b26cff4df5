-- What AllOff does with a machine's motions, what the operator's hands do, and a reading with axes that stand still
use Rattle.std.proofs.Common.{◌≡◌, ◌≢◌, ◌⊎◌, inl, inr, true, false, Option, Some, None, List, [], ◌∷◌}
use Rattle.std.proofs.Common.{length}
use Rattle.std.proofs.Common.{refl, sym, ap, ◌∙◌, subst, length-set}
use Rattle.cell_types.specs.declared.words.Axis.{Axis}
use Rattle.cell_types.specs.declared.words.Axis.TheVariants as axis
use Rattle.cell_types.specs.declared.words.Command.TheVariants.{AllOff}
use Rattle.cell_types.specs.declared.words.Machine.{Machine}
use Rattle.cell_types.specs.declared.words.Machine.TheVariants as machine
use Rattle.cell_types.specs.Cell.{axes_of, home, machine_of_axis}
use Rattle.cell_sim.specs.declared.axis.AxisInWorld.{AxisInWorld}
use Rattle.cell_sim.specs.declared.motion.Moving.{Moving}
use Rattle.cell_sim.specs.Commands.{after_command, all_stopped, axis_stopped, fails, stopped_motion, unlit}
use Rattle.cell_sim.specs.Hands.{after_home, axis_homed}
use Rattle.cell_sim.specs.Looks.{looked}
use Rattle.cell_sim.specs.Moves.{moves}
use Rattle.cell_sim.specs.Parts.{axis_at, in_turn, with_axis}
use Rattle.cell_sim.specs.Readings.{advanced, after_reading, is_reading_missing, is_silent_in, read_on}
use Rattle.cell_sim.specs.Simulated.{Simulated}
use Rattle.cell_world.specs.Agreeing.{has_belt}
use Rattle.cell_world.specs.Going.{IsPlain}
use Rattle.cell_world.proofs.Hand.{homed_part}
use Rattle.cell_world.proofs.Leaves.{apart_number}
use Rattle.cell_world.proofs.Machines.{hands_off}
use Rattle.cell_world.proofs.Steps.{at_other, at_same, below_nine, each_axis, unless, unlooked}

-- AN AXIS WHOSE MOTION IS STOPPED

-- it is where it was, is read as it was, and stands still where it did
pub record IsAsStill (x y : AxisInWorld) : Type 0 where
  pub pose : y.pose ≡ x.pose
  pub read : is_silent_in y.motion ≡ is_silent_in x.motion
  pub still : moves x.motion ≡ false → moves y.motion ≡ false

abbrev stopped : AxisInWorld → AxisInWorld
stopped x = record x { motion = stopped_motion x.motion }

still_motion : (o : Option Moving) → moves (stopped_motion o) ≡ false
still_motion None = refl
still_motion (Some m) = refl

read_motion : (o : Option Moving) → is_silent_in (stopped_motion o) ≡ is_silent_in o
read_motion None = refl
read_motion (Some m) = refl

stopped_so : (x : AxisInWorld) → IsAsStill x (stopped x)
stopped_so x =
    record { pose = refl; read = read_motion x.motion; still = λ h. still_motion x.motion }

as_it_was : (x y : AxisInWorld) → y ≡ x → IsAsStill x y
as_it_was x y h =
    subst (λ (z : AxisInWorld). IsAsStill x z) (sym h) (record { pose = refl; read = refl; still = λ i. i })

then_still : (x y z : AxisInWorld) → IsAsStill x y → IsAsStill y z → IsAsStill x z
then_still x y z s t =
    record { pose = t.pose ∙ s.pose; read = t.read ∙ s.read; still = λ h. t.still (s.still h) }

pub it_stopped : (a : Axis) (w : Simulated) → IsPlain w → axis_at (axis_stopped a w) a ≡ stopped (axis_at w a)
it_stopped a w t = at_same w a (stopped (axis_at w a)) (below_nine a (length w.axes) t.axes)

one_stopped : (a b : Axis) (w : Simulated) → IsPlain w → IsAsStill (axis_at w b) (axis_at (axis_stopped a w) b)
one_stopped a b w t =
    each_axis (λ (c : Axis). IsAsStill (axis_at w c) (axis_at (axis_stopped a w) c)) a b
    (subst (λ (z : AxisInWorld). IsAsStill (axis_at w a) z) (sym (it_stopped a w t)) (stopped_so (axis_at w a)))
    (λ d. as_it_was (axis_at w b) (axis_at (axis_stopped a w) b) (at_other w a b (stopped (axis_at w a)) d))

-- ALL OF A LIST

-- what no axis tells stays
pub stopped_part : {X : Type 0} (part : Simulated → X)
    → ((a : Axis) (x : AxisInWorld) (u : Simulated) → part (with_axis a x u) ≡ part u) → (xs : List Axis)
    (w : Simulated) → part (in_turn axis_stopped xs w) ≡ part w
stopped_part part h [] w = refl
stopped_part part h (a ∷ xs) w =
    stopped_part part h xs (axis_stopped a w) ∙ h a (stopped (axis_at w a)) w

pub stopped_plain : (xs : List Axis) (w : Simulated) → IsPlain w → IsPlain (in_turn axis_stopped xs w)
stopped_plain xs w t =
    record {
      unwatched = stopped_part (λ (v : Simulated). v.watch.is_on) (λ a x u. refl) xs w ∙ t.unwatched;
      axes = stopped_part (λ (v : Simulated). length v.axes) (λ a x u. length-set _ _ _) xs w ∙ t.axes;
      stations = stopped_part (λ (v : Simulated). length v.plates) (λ a x u. refl) xs w ∙ t.stations;
    }

pub all_as_still : (xs : List Axis) (b : Axis) (w : Simulated) → IsPlain w
    → IsAsStill (axis_at w b) (axis_at (in_turn axis_stopped xs w) b)
all_as_still [] b w t = as_it_was (axis_at w b) (axis_at w b) refl
all_as_still (a ∷ xs) b w t =
    let v = axis_stopped a w in
    then_still (axis_at w b) (axis_at v b) (axis_at (in_turn axis_stopped xs v) b) (one_stopped a b w t)
    (all_as_still xs b v (stopped_plain (a ∷ []) w t))

abbrev IsOneOf : Axis → List Axis → Type 0
IsOneOf a [] = ⊥
IsOneOf a (b ∷ xs) = (a ≡ b) ⊎ IsOneOf a xs

one_still : (xs : List Axis) (a : Axis) (w : Simulated) → IsPlain w → IsOneOf a xs
    → moves (axis_at (in_turn axis_stopped xs w) a).motion ≡ false
one_still [] a w t h = absurd h
one_still (b ∷ xs) a w t (inl e) =
    let v = axis_stopped b w in
    (all_as_still xs a v (stopped_plain (b ∷ []) w t)).still
    (subst (λ (c : Axis). moves (axis_at v c).motion ≡ false) (sym e)
    (ap (λ (x : AxisInWorld). moves x.motion) (it_stopped b w t) ∙ still_motion (axis_at w b).motion))
one_still (b ∷ xs) a w t (inr i) = one_still xs a (axis_stopped b w) (stopped_plain (b ∷ []) w t) i

its_own : (a : Axis) → IsOneOf a (axes_of (machine_of_axis a))
its_own axis.FeedBelt = inl refl
its_own axis.TableLift = inl refl
its_own axis.TableTurn = inr (inl refl)
its_own axis.RobotTurn = inl refl
its_own axis.ArmOne = inr (inl refl)
its_own axis.ArmTwo = inr (inr (inl refl))
its_own axis.PressOne = inl refl
its_own axis.PressTwo = inl refl
its_own axis.DepositBelt = inl refl

pub all_still : (m : Machine) (a : Axis) (w : Simulated) → IsPlain w → machine_of_axis a ≡ m
    → moves (axis_at (in_turn axis_stopped (axes_of m) w) a).motion ≡ false
all_still m a w t e =
    one_still (axes_of m) a w t (subst (λ (n : Machine). IsOneOf a (axes_of n)) e (its_own a))

unlit_none : (m : Machine) (w : Simulated) → has_belt m ≡ false → unlit m w ≡ w
unlit_none machine.Feed w b = let x : true ≡ false = b in cc x
unlit_none machine.Deposit w b = let x : true ≡ false = b in cc x
unlit_none m w b = refl

-- the command
pub stop_does : (m : Machine) (w : Simulated) → has_belt m ≡ false → IsPlain w
    → after_command [] w (AllOff m) ≡ in_turn axis_stopped (axes_of m) w
unfolding after_command fails all_stopped
stop_does m w b t =
    let v = in_turn axis_stopped (axes_of m) w in
    ap (λ (u : Simulated). looked (Some (AllOff m)) (in_turn axis_stopped (axes_of m) u)) (unlit_none m w b)
    ∙ unlooked (Some (AllOff m)) v (stopped_plain (axes_of m) w t).unwatched

-- AXES THAT ARE PUT AT HOME

pub record IsHome (a : Axis) (x : AxisInWorld) : Type 0 where
  pub pose : x.pose ≡ home a
  pub still : x.motion ≡ None

abbrev homed : Axis → AxisInWorld → AxisInWorld
homed a x = record x { pose = home a; motion = None }

it_homed : (a : Axis) (w : Simulated) → IsPlain w → axis_at (axis_homed a w) a ≡ homed a (axis_at w a)
it_homed a w t = at_same w a (homed a (axis_at w a)) (below_nine a (length w.axes) t.axes)

home_now : (a : Axis) (w : Simulated) → IsPlain w → IsHome a (axis_at (axis_homed a w) a)
home_now a w t = subst (IsHome a) (sym (it_homed a w t)) (record { pose = refl; still = refl })

home_still : (a b : Axis) (w : Simulated) → IsPlain w → IsHome b (axis_at w b) → IsHome b (axis_at (axis_homed a w) b)
home_still a b w t =
    each_axis (λ (c : Axis). IsHome c (axis_at w c) → IsHome c (axis_at (axis_homed a w) c)) a b
    (λ h. home_now a w t)
    (λ d h. subst (IsHome b) (sym (at_other w a b (homed a (axis_at w a)) d)) h)

pub homed_plain : (xs : List Axis) (w : Simulated) → IsPlain w → IsPlain (in_turn axis_homed xs w)
homed_plain xs w t =
    record {
      unwatched = homed_part (λ (v : Simulated). v.watch.is_on) (λ a x u. refl) xs w ∙ t.unwatched;
      axes = homed_part (λ (v : Simulated). length v.axes) (λ a x u. length-set _ _ _) xs w ∙ t.axes;
      stations = homed_part (λ (v : Simulated). length v.plates) (λ a x u. refl) xs w ∙ t.stations;
    }

home_through : (xs : List Axis) (b : Axis) (w : Simulated) → IsPlain w → IsHome b (axis_at w b)
    → IsHome b (axis_at (in_turn axis_homed xs w) b)
home_through [] b w t h = h
home_through (a ∷ xs) b w t h =
    home_through xs b (axis_homed a w) (homed_plain (a ∷ []) w t) (home_still a b w t h)

home_in : (xs : List Axis) (a : Axis) (w : Simulated) → IsPlain w → IsOneOf a xs
    → IsHome a (axis_at (in_turn axis_homed xs w) a)
home_in [] a w t h = absurd h
home_in (b ∷ xs) a w t (inl e) =
    home_through xs a (axis_homed b w) (homed_plain (b ∷ []) w t)
    (subst (λ (c : Axis). IsHome c (axis_at (axis_homed b w) c)) (sym e) (home_now b w t))
home_in (b ∷ xs) a w t (inr i) = home_in xs a (axis_homed b w) (homed_plain (b ∷ []) w t) i

pub all_home : (m : Machine) (a : Axis) (w : Simulated) → IsPlain w → machine_of_axis a ≡ m
    → IsHome a (axis_at (in_turn axis_homed (axes_of m) w) a)
all_home m a w t e =
    home_in (axes_of m) a w t (subst (λ (n : Machine). IsOneOf a (axes_of n)) e (its_own a))

-- an axis of another machine stays
abbrev AllOf : Machine → List Axis → Type 0
AllOf m [] = Unit {0}
AllOf m (a ∷ xs) = (machine_of_axis a ≡ m) × AllOf m xs

all_its : (m : Machine) → AllOf m (axes_of m)
all_its machine.Feed = (refl, tt)
all_its machine.Table = (refl, (refl, tt))
all_its machine.Robot = (refl, (refl, (refl, tt)))
all_its machine.Press1 = (refl, tt)
all_its machine.Press2 = (refl, tt)
all_its machine.Deposit = (refl, tt)

other_through : (m : Machine) (xs : List Axis) (b : Axis) (w : Simulated) → AllOf m xs → machine_of_axis b ≢ m
    → axis_at (in_turn axis_homed xs w) b ≡ axis_at w b
other_through m [] b w h d = refl
other_through m (a ∷ xs) b w h d =
    other_through m xs b (axis_homed a w) h.1 d
    ∙ at_other w a b (homed a (axis_at w a)) (apart_number a b (λ e. d (sym e ∙ h.0)))

pub other_home : (m : Machine) (b : Axis) (w : Simulated) → machine_of_axis b ≢ m
    → axis_at (in_turn axis_homed (axes_of m) w) b ≡ axis_at w b
other_home m b w d = other_through m (axes_of m) b w (all_its m) d

-- the act
pub home_does : (m : Machine) (w : Simulated) → IsPlain w → after_home m w ≡ in_turn axis_homed (axes_of m) w
unfolding after_home
home_does m w t =
    unlooked None (in_turn axis_homed (axes_of m) w) (homed_plain (axes_of m) w t).unwatched

-- A READING WHERE ALL STANDS STILL

abbrev pub StandsStill : Machine → Simulated → Type 0
StandsStill m w =
    (a : Axis) → machine_of_axis a ≡ m
    → (moves (axis_at w a).motion ≡ false) × (is_silent_in (axis_at w a).motion ≡ false)

pub none_silent : (m : Machine) (w : Simulated) → StandsStill m w → is_reading_missing w m ≡ false
none_silent machine.Feed w h = let x = (h axis.FeedBelt refl).1 in rw x refl
none_silent machine.Table w h =
    let x = (h axis.TableLift refl).1 in let y = (h axis.TableTurn refl).1 in rw (x, y) refl
none_silent machine.Robot w h =
    let x = (h axis.RobotTurn refl).1 in let y = (h axis.ArmOne refl).1 in let z = (h axis.ArmTwo refl).1 in
    rw (x, y, z) refl
none_silent machine.Press1 w h = let x = (h axis.PressOne refl).1 in rw x refl
none_silent machine.Press2 w h = let x = (h axis.PressTwo refl).1 in rw x refl
none_silent machine.Deposit w h = let x = (h axis.DepositBelt refl).1 in rw x refl

stay : (a : Axis) (w : Simulated) → moves (axis_at w a).motion ≡ false → advanced a w ≡ w
unfolding advanced
stay a w h = unless (moves (axis_at w a).motion) _ w h

pub all_stay : (m : Machine) (w : Simulated) → StandsStill m w → in_turn advanced (axes_of m) w ≡ w
all_stay machine.Feed w h = stay axis.FeedBelt w (h axis.FeedBelt refl).0
all_stay machine.Table w h =
    ap (λ (v : Simulated). advanced axis.TableTurn v) (stay axis.TableLift w (h axis.TableLift refl).0)
    ∙ stay axis.TableTurn w (h axis.TableTurn refl).0
all_stay machine.Robot w h =
    ap (λ (v : Simulated). advanced axis.ArmTwo (advanced axis.ArmOne v))
    (stay axis.RobotTurn w (h axis.RobotTurn refl).0)
    ∙ (ap (λ (v : Simulated). advanced axis.ArmTwo v) (stay axis.ArmOne w (h axis.ArmOne refl).0)
    ∙ stay axis.ArmTwo w (h axis.ArmTwo refl).0)
all_stay machine.Press1 w h = stay axis.PressOne w (h axis.PressOne refl).0
all_stay machine.Press2 w h = stay axis.PressTwo w (h axis.PressTwo refl).0
all_stay machine.Deposit w h = stay axis.DepositBelt w (h axis.DepositBelt refl).0

pub read_still : (m : Machine) (w : Simulated) → has_belt m ≡ false → StandsStill m w → after_reading w m ≡ w
unfolding after_reading read_on
read_still m w b h =
    ap (λ (v : Simulated). read_on m v) (hands_off m w b)
    ∙ (unless (is_reading_missing w m) _ _ (none_silent m w h) ∙ all_stay m w h)
