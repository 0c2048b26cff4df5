-- The tie of a machine with switches, through readings and entries
use Rattle.std.proofs.Common.{◌≡◌, ◌≢◌, ℕ, ◌==◌, zero, suc, Some, true, false, inl, inr, Option, None, refl, sym, ap}
use Rattle.std.proofs.Common.{◌∙◌}
use Rattle.std.proofs.Common.{subst, get_or, eqb-true}
use Rattle.std.specs.Option.{option_map}
use Rattle.std.specs.Prelude.{List}
use Rattle.cell_types.specs.declared.words.Axis.{Axis}
use Rattle.cell_types.specs.declared.words.Axis.TheVariants as axis
use Rattle.cell_types.specs.declared.words.Machine.{Machine}
use Rattle.cell_types.specs.declared.words.Machine.TheVariants as machine
use Rattle.cell_types.specs.declared.words.Pose.{Pose}
use Rattle.cell_types.specs.declared.words.Pose.TheVariants as pose
use Rattle.cell_types.specs.declared.words.Entry.{Entry}
use Rattle.cell_types.specs.declared.words.Entry.TheVariants.{Started}
use Rattle.cell_types.specs.Cell.{axes_of, is_pose_of, machine_of_axis, poses}
use Rattle.cell_rules.specs.Views.{at_of}
use Rattle.cell_diagnosis.specs.declared.motion.Motion.{Motion}
use Rattle.cell_diagnosis.specs.declared.reading.Reading.{Reading}
use Rattle.cell_diagnosis.specs.Readings.{place_in_axis}
use Rattle.cell_ports.specs.declared.plan.Plan.{Plan}
use Rattle.cell_turns.specs.Following.{Following}
use Rattle.cell_turns.specs.Moving.{motion_of_machine}
use Rattle.cell_turns.specs.Observed.{axis_noted, followed, with_reading}
use Rattle.cell_sim.specs.Looks.{is_belt}
use Rattle.cell_sim.specs.Parts.{axis_at, in_turn}
use Rattle.cell_sim.specs.Readings.{advanced, after_reading, by_the_hands, is_reading_missing, read_on, shown}
use Rattle.cell_sim.specs.Simulated.{Simulated}
use Rattle.cell_world.specs.Tied.{Given, none, one, more, IsFair, further_of, motion_by, next_given}
use Rattle.cell_world.specs.Going.{AxisStays, AxisWent, IsAtRest}
use Rattle.cell_world.specs.Starting.{after_entry, further_in, one_more, MachineRests}
use Rattle.cell_world.specs.Agreeing.{has_belt}
use Rattle.cell_world.specs.Tie.{MachineEnds, MachineGoesOn, MachineStarts}
use Rattle.cell_world.specs.Tie.{TiedStands, WentOn}
use Rattle.cell_world.proofs.Long.{entry_long, further_then, reading_long}
use Rattle.cell_world.proofs.Steps.{each_axis, fair_more, further_more, not_true, rest_silent, stays, unless}
use Rattle.cell_world.proofs.Any.{any_goes}
use Rattle.cell_world.proofs.Entries.{at_before}
use Rattle.cell_world.proofs.Starts.{axis_ends, axis_starts}

no_belt_of : (a : Axis) → has_belt (machine_of_axis a) ≡ false → is_belt a ≡ false
no_belt_of axis.FeedBelt h = h
no_belt_of axis.DepositBelt h = h
no_belt_of a h = refl

pub no_belt : (a : Axis) (m : Machine) → machine_of_axis a ≡ m → has_belt m ≡ false → is_belt a ≡ false
no_belt a m e h = no_belt_of a (ap has_belt e ∙ h)

-- a machine that rests moves nothing, in the book and in the world
abbrev AllRest : List Entry → Machine → Simulated → Type 0
AllRest J m w = (a : Axis) → machine_of_axis a ≡ m → IsAtRest J w a

pub no_motion : (J : List Entry) (p : Plan) (m : Machine) (w : Simulated) → has_belt m ≡ false → AllRest J m w
    → motion_of_machine J p m ≡ None
no_motion J p machine.Feed w b r = cc b
no_motion J p machine.Deposit w b r = cc b
no_motion J p machine.Table w b r =
    let x = (r axis.TableLift refl).booked in let y = (r axis.TableTurn refl).booked in rw (x, y) refl
no_motion J p machine.Robot w b r =
    let x = (r axis.RobotTurn refl).booked in let y = (r axis.ArmOne refl).booked in
    let z = (r axis.ArmTwo refl).booked in rw (x, y, z) refl
no_motion J p machine.Press1 w b r = let x = (r axis.PressOne refl).booked in rw x refl
no_motion J p machine.Press2 w b r = let x = (r axis.PressTwo refl).booked in rw x refl

pub silent_no : (J : List Entry) (m : Machine) (w : Simulated) → has_belt m ≡ false → AllRest J m w
    → is_reading_missing w m ≡ false
silent_no J machine.Feed w b r = cc b
silent_no J machine.Deposit w b r = cc b
silent_no J machine.Table w b r =
    let x = rest_silent _ _ (r axis.TableLift refl).rests.motion in
    let y = rest_silent _ _ (r axis.TableTurn refl).rests.motion in rw (x, y) refl
silent_no J machine.Robot w b r =
    let x = rest_silent _ _ (r axis.RobotTurn refl).rests.motion in
    let y = rest_silent _ _ (r axis.ArmOne refl).rests.motion in
    let z = rest_silent _ _ (r axis.ArmTwo refl).rests.motion in rw (x, y, z) refl
silent_no J machine.Press1 w b r = let x = rest_silent _ _ (r axis.PressOne refl).rests.motion in rw x refl
silent_no J machine.Press2 w b r = let x = rest_silent _ _ (r axis.PressTwo refl).rests.motion in rw x refl

stay : (J : List Entry) (a : Axis) (w : Simulated) → IsAtRest J w a → advanced a w ≡ w
stay J a w r = stays a w (at_of J a) r.rests.motion

all_stay : (J : List Entry) (m : Machine) (w : Simulated) → has_belt m ≡ false → AllRest J m w
    → in_turn advanced (axes_of m) w ≡ w
all_stay J machine.Feed w b r = cc b
all_stay J machine.Deposit w b r = cc b
all_stay J machine.Table w b r =
    ap (λ (v : Simulated). advanced axis.TableTurn v) (stay J axis.TableLift w (r axis.TableLift refl))
    ∙ stay J axis.TableTurn w (r axis.TableTurn refl)
all_stay J machine.Robot w b r =
    ap (λ (v : Simulated). advanced axis.ArmTwo (advanced axis.ArmOne v))
    (stay J axis.RobotTurn w (r axis.RobotTurn refl))
    ∙ (ap (λ (v : Simulated). advanced axis.ArmTwo v) (stay J axis.ArmOne w (r axis.ArmOne refl))
    ∙ stay J axis.ArmTwo w (r axis.ArmTwo refl))
all_stay J machine.Press1 w b r = stay J axis.PressOne w (r axis.PressOne refl)
all_stay J machine.Press2 w b r = stay J axis.PressTwo w (r axis.PressTwo refl)

pub hands_off : (m : Machine) (w : Simulated) → has_belt m ≡ false → by_the_hands w m ≡ w
hands_off machine.Feed w b = cc b
hands_off machine.Deposit w b = cc b
hands_off m w b = refl

pub rest_after : (J : List Entry) (m : Machine) (w : Simulated) → has_belt m ≡ false → AllRest J m w
    → after_reading w m ≡ w
unfolding after_reading read_on
rest_after J m w b r =
    ap (λ (v : Simulated). read_on m v) (hands_off m w b)
    ∙ (unless (is_reading_missing w m) _ _ (silent_no J m w b r) ∙ all_stay J m w b r)

pub nothing_noted : (J : List Entry) (p : Plan) (m : Machine) (f : Option Following) (w : Simulated)
    (r : Option Reading) → has_belt m ≡ false → MachineRests J m f w → axis_noted J m p f r ≡ None
nothing_noted J p m f w r b t =
    ap (λ (x : Option Following). option_map (with_reading r) (followed x (motion_of_machine J p m))) t.unnoted
    ∙ ap (λ (o : Option Motion). option_map (with_reading r) (followed None o)) (no_motion J p m w b t.rest)

stays_tied : (J : List Entry) (p : Plan) (a : Axis) (to : Pose) (g h : Given) (f : Option Following) (w : Simulated)
    → next_given g ≡ Some h → IsFair (motion_by J p a to) (further_of g) → further_of g ≡ further_in w a to
    → AxisStays J p a to h f w → WentOn J p (machine_of_axis a) f w
stays_tied J p a to g h f w e fair long t =
    inl (
      t.pending,
      inr (record {
        mover = a;
        to = to;
        given = h;
        of = refl;
        long = sym (further_more g h e) ∙ long;
        fair = fair_more (motion_by J p a to) g h e fair;
        goes = t.goes;
      }),
    )

-- a reading leaves a machine that rests at rest
pub rests_read : (J : List Entry) (p : Plan) (m : Machine) (f : Option Following) (w : Simulated)
    → has_belt m ≡ false → MachineRests J m f w
    → MachineRests J m (axis_noted J m p f (shown w m)) (after_reading w m)
rests_read J p m f w b t =
    subst (λ (v : Simulated). MachineRests J m (axis_noted J m p f (shown w m)) v) (sym (rest_after J m w b t.rest))
    (record { plain = t.plain; rest = t.rest; unnoted = nothing_noted J p m f w (shown w m) b t })

axis_went : (J : List Entry) (p : Plan) (a : Axis) (to : Pose) (g : Given) (f : Option Following) (w : Simulated)
    → IsFair (motion_by J p a to) (further_of g) → further_of g ≡ further_in w a to
    → AxisWent J p a to (next_given g) f w → WentOn J p (machine_of_axis a) f w
axis_went J p a to (none n) f w fair long t = stays_tied J p a to (none n) (one n) f w refl fair long t
axis_went J p a to (one n) f w fair long t = stays_tied J p a to (one n) (more 0 n) f w refl fair long t
axis_went J p a to (more n (suc k)) f w fair long t =
    stays_tied J p a to (more n (suc k)) (more (suc n) k) f w refl fair long t
axis_went J p a to (more n zero) f w fair long t = inr (record { mover = a; to = to; of = refl; came = t })

pub machine_goes : MachineGoesOn
machine_goes J p m f w b (inl t) =
    subst (λ (v : Simulated). WentOn J p m (axis_noted J m p f (shown w m)) v) (sym (rest_after J m w b t.rest))
    (subst (λ (x : Option Following). WentOn J p m x w) (sym (nothing_noted J p m f w (shown w m) b t))
    (inl (refl, inl (record { plain = t.plain; rest = t.rest; unnoted = refl }))))
machine_goes J p m f w b (inr t) =
    let n = machine_of_axis t.mover in
    subst (λ (x : Machine). WentOn J p x (axis_noted J x p f (shown w x)) (after_reading w x)) t.of
    (axis_went J p t.mover t.to t.given (axis_noted J n p f (shown w n)) (after_reading w n) t.fair
    (t.long ∙ sym (further_then w (after_reading w n) t.mover t.to (reading_long w n)))
    (any_goes J p t.mover t.to t.given f w (no_belt t.mover m t.of b) t.fair t.goes))

-- the poses of an axis are told apart by their places
back : (a : Axis) (p : Pose) → is_belt a ≡ false → is_pose_of a p ≡ true
    → get_or (poses a) (place_in_axis p) pose.Rest ≡ p
back axis.FeedBelt p s h = cc s
back axis.DepositBelt p s h = cc s
back axis.TableLift pose.Low s h = refl
back axis.TableLift pose.High s h = refl
back axis.TableLift p s h = cc h
back axis.TableTurn pose.Belt s h = refl
back axis.TableTurn pose.Robot s h = refl
back axis.TableTurn p s h = cc h
back axis.RobotTurn pose.Table1 s h = refl
back axis.RobotTurn pose.P1Load s h = refl
back axis.RobotTurn pose.P1Unload s h = refl
back axis.RobotTurn pose.P2Load s h = refl
back axis.RobotTurn pose.P2Unload s h = refl
back axis.RobotTurn pose.Deposit2 s h = refl
back axis.RobotTurn p s h = cc h
back axis.ArmOne pose.In s h = refl
back axis.ArmOne pose.Out s h = refl
back axis.ArmOne p s h = cc h
back axis.ArmTwo pose.In s h = refl
back axis.ArmTwo pose.Out s h = refl
back axis.ArmTwo p s h = cc h
back axis.PressOne pose.Middle s h = refl
back axis.PressOne pose.Top s h = refl
back axis.PressOne pose.Bottom s h = refl
back axis.PressOne p s h = cc h
back axis.PressTwo pose.Middle s h = refl
back axis.PressTwo pose.Top s h = refl
back axis.PressTwo pose.Bottom s h = refl
back axis.PressTwo p s h = cc h

pub elsewhere : (a : Axis) (p q : Pose) → is_belt a ≡ false → is_pose_of a p ≡ true → is_pose_of a q ≡ true → p ≢ q
    → (place_in_axis p == place_in_axis q) ≡ false
elsewhere a p q s h k n =
    not_true (place_in_axis p == place_in_axis q) (λ e. n (sym (back a p s h)
    ∙ (ap (λ (i : ℕ). get_or (poses a) i pose.Rest) (eqb-true (place_in_axis p) (place_in_axis q) e) ∙ back a q s k)))

pub machine_starts : MachineStarts
machine_starts J p a to f w s plan h n t =
    let at = at_before J (Started a to) a refl in
    inr (record {
      mover = a;
      to = to;
      given = none (further_in w a to);
      of = refl;
      long = sym (further_then w (after_entry w (Started a to)) a to (entry_long w (Started a to)));
      fair = record {
        elsewhere = ap (λ (q : Pose). place_in_axis to == place_in_axis q) at
            ∙ elsewhere a to (at_of J a) s h (t.rest a refl).own_pose n;
        leave = (plan a to).0;
        limit = (plan a to).1;
      };
      goes = axis_starts J p a to f w s h t;
    })

pub machine_ends : MachineEnds
machine_ends J p m f w e b c h =
    inl (subst (λ (x : Machine). MachineRests (one_more J e) x None (after_entry w e)) c.of
    (axis_ends J p c.mover c.to f w e (no_belt c.mover m c.of b) c.came h))

pub tied_stands : TiedStands
tied_stands J p m f w (inl t) a e = (t.rest a e).rests.pose
tied_stands J p m f w (inr t) a e =
    each_axis (λ (c : Axis). (axis_at w c).pose ≡ at_of J c) t.mover a t.goes.goes.pose
    (λ d. (t.goes.others a (e ∙ sym t.of) d).rests.pose)
