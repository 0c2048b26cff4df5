-- What one more answer of the port adds to what a machine's watch stands for
use Rattle.std.proofs.Common.{◌≡◌, ℕ, Bool, true, false, not, ◌&&◌, ◌||◌, Option, Some, None, List, [], ◌∷◌, ◌++◌}
use Rattle.std.proofs.Common.{IfSome, if◌then◌else◌, refl, sym, ap, ◌∙◌, subst, append_assoc, append-nil}
use Rattle.std.proofs.lemmas.List.{map-append}
use Rattle.std.specs.Option.{option_map, option_or, option_and_then}
use Rattle.std.specs.List.{slice_get}
use Rattle.cell_types.specs.declared.words.Machine.{Machine}
use Rattle.cell_types.specs.declared.words.Machine.TheVariants as machine
use Rattle.cell_types.specs.declared.words.Axis.{Axis}
use Rattle.cell_types.specs.declared.words.Axis.TheVariants as axis
use Rattle.cell_types.specs.declared.words.Pose.{Pose}
use Rattle.cell_types.specs.declared.words.Belt.TheVariants as belt
use Rattle.cell_types.specs.declared.words.Colour.TheVariants as colour
use Rattle.cell_types.specs.declared.words.Cause.{Cause}
use Rattle.cell_types.specs.declared.words.Entry.{Entry}
use Rattle.cell_types.specs.Cell.{machine_of_axis, axes_of}
use Rattle.cell_types.specs.Same.{same_axis, same_pose, same_colour}
use Rattle.cell_rules.specs.Views.{at_of, going_of, lamp_of}
use Rattle.cell_rules.proofs.Safe.Facts.{axis_same, pose_same}
use Rattle.cell_diagnosis.specs.declared.motion.Motion.{Motion}
use Rattle.cell_diagnosis.specs.declared.reading.Reading.{Reading}
use Rattle.cell_diagnosis.specs.declared.expect.Expect.{Expect}
use Rattle.cell_diagnosis.specs.declared.verdict.Verdict.{Verdict}
use Rattle.cell_diagnosis.specs.declared.verdict.Verdict.TheVariants.{Pending, Arrived, Fault}
use Rattle.cell_diagnosis.specs.Readings.{bit, seen}
use Rattle.cell_diagnosis.specs.AxisRules.{verdict}
use Rattle.cell_diagnosis.specs.RestFacts.{Noted, noted}
use Rattle.cell_diagnosis.specs.RestRules.{rest}
use Rattle.cell_ports.specs.declared.plan.Plan.{Plan}
use Rattle.cell_turns.specs.declared.watch.Memory.{Memory}
use Rattle.cell_turns.specs.Moving.{limits_of, motion_on, motion_of_axis, motion_of_machine}
use Rattle.cell_turns.specs.Signs.{shows_sign}
use Rattle.cell_turns.specs.Following.{Following}
use Rattle.cell_turns.specs.Minds.{Mind}
use Rattle.cell_turns.specs.Observed.{same_motion, followed, with_reading, axis_noted, axis_verdict, rest_noted}
use Rattle.cell_turns.specs.Turns.{begins_anew, opens_sign, ends_motion, mind_after}
use Rattle.cell_turns.proofs.Rooms.{own_axis}
use Rattle.cell_workers.specs.Evidence.{MotionShows, RestShows, Watched, readings_of, seen_all, signals, SignShows}
use Rattle.cell_workers.specs.Evidence.{ShowsArrival, ShowsFault}
use Rattle.cell_workers.specs.Traces.{AxisTrace, RestTrace, SignTrace, Traces}

and_one : (a b : Bool) → (a && b) ≡ true → a ≡ true
and_one true b h = refl
and_one false b h = cc

and_two : (a b : Bool) → (a && b) ≡ true → b ≡ true
and_two true b h = h
and_two false b h = cc

-- the motion that the journal shows

-- it is of an axis of the machine, with the plan's limits, and the axis is going there
pub record OwnMotion (J : List Entry) (p : Plan) (m : Machine) (mo : Motion) : Type 0 where
  pub own : machine_of_axis mo.axis ≡ m
  pub limits : mo.limits ≡ limits_of p mo.axis
  pub going : going_of J mo.axis ≡ Some mo.to

own_on : (J : List Entry) (p : Plan) (a : Axis) (o : Option Pose) → going_of J a ≡ o
    → IfSome (option_map (λ to. record { axis = a; from = at_of J a; to = to; limits = limits_of p a }) o)
    (OwnMotion J p (machine_of_axis a))
own_on J p a None e = tt
own_on J p a (Some to) e = record { own = refl; limits = refl; going = e }

own_or : (J : List Entry) (p : Plan) (m : Machine) (x y : Option Motion) → IfSome x (OwnMotion J p m)
    → IfSome y (OwnMotion J p m) → IfSome (option_or x y) (OwnMotion J p m)
own_or J p m None y h k = k
own_or J p m (Some mo) y h k = h

own_at : (J : List Entry) (p : Plan) (a : Axis) → IfSome (motion_on J p a) (OwnMotion J p (machine_of_axis a))
own_at J p a = own_on J p a (going_of J a) refl

own_axis_motion : (J : List Entry) (p : Plan) (m : Machine) (i : ℕ) → IfSome (motion_of_axis J p m i) (OwnMotion J p m)
own_axis_motion J p m i = go (slice_get (axes_of m) i) (own_axis m i)
  where
    go : (o : Option Axis) → IfSome o (λ a. machine_of_axis a ≡ m)
        → IfSome (option_and_then (motion_on J p) o) (OwnMotion J p m)
    go None own = tt
    go (Some a) own = subst (λ (n : Machine). IfSome (motion_on J p a) (OwnMotion J p n)) own (own_at J p a)

-- a machine has three axes at most, and its motion is that of the first one that moves
pub own_motion : (J : List Entry) (p : Plan) (m : Machine) → IfSome (motion_of_machine J p m) (OwnMotion J p m)
own_motion J p m =
    own_or J p m (option_or (motion_of_axis J p m 0) (motion_of_axis J p m 1)) (motion_of_axis J p m 2)
    (own_or J p m (motion_of_axis J p m 0) (motion_of_axis J p m 1) (own_axis_motion J p m 0) (own_axis_motion J p m 1))
    (own_axis_motion J p m 2)

-- the axis watch

-- what is followed with the reading r, as the answers so far and r; it is the motion that the journal shows
pub record NextTrace (m : Machine) (p : Plan) (got : List (Option Reading)) (r : Option Reading)
    (before : Option Following) (mo : Motion) (f : Following) : Type 0 where
  pub early : List (Option Reading)
  pub run : List (Option Reading)
  pub cut : got ≡ early ++ run
  pub readings : f.readings ≡ seen_all f.motion run ++ seen f.motion r ∷ []
  pub own : machine_of_axis f.motion.axis ≡ m
  pub limits : f.motion.limits ≡ limits_of p f.motion.axis
  pub axis : f.motion.axis ≡ mo.axis
  pub to : f.motion.to ≡ mo.to
  pub pending : axis_verdict before ≡ Pending → verdict f.motion (seen_all f.motion run) ≡ Pending

verdict_nil : (mo : Motion) → verdict mo [] ≡ Pending
unfolding verdict
verdict_nil mo = refl

-- the watch begins anew
begun : (J : List Entry) (m : Machine) (p : Plan) (got : List (Option Reading)) (r : Option Reading)
    (before : Option Following) (mo : Motion) → OwnMotion J p m mo
    → NextTrace m p got r before mo (with_reading r (record { motion = mo; readings = [] }))
begun J m p got r before mo o = record {
  early = got;
  run = [];
  cut = sym (append-nil got);
  readings = refl;
  own = o.own;
  limits = o.limits;
  axis = refl;
  to = refl;
  pending = λ _. verdict_nil mo;
}

-- the same motion is followed on with this reading, and for another one the watch begins anew
next_of : (J : List Entry) (m : Machine) (p : Plan) (got : List (Option Reading)) (r : Option Reading)
    (before : Option Following) (mo : Motion) → AxisTrace m p got before → OwnMotion J p m mo
    → IfSome (option_map (with_reading r) (followed before (Some mo))) (NextTrace m p got r before mo)
next_of J m p got r None mo t o = begun J m p got r None mo o
next_of J m p got r (Some f) mo t o = go (same_motion f.motion mo) refl
  where
    go : (b : Bool) → same_motion f.motion mo ≡ b
        → IfSome (option_map (with_reading r) (if b then Some f else Some (record { motion = mo; readings = [] })))
        (NextTrace m p got r (Some f) mo)
    go false e = begun J m p got r (Some f) mo o
    go true e =
        let rest = and_two (same_axis f.motion.axis mo.axis)
        (same_pose f.motion.from mo.from && same_pose f.motion.to mo.to) e in
        record {
          early = t.early;
          run = t.run;
          cut = t.cut;
          readings = ap (λ l. l ++ seen f.motion r ∷ []) t.readings;
          own = t.own;
          limits = t.limits;
          axis = axis_same f.motion.axis mo.axis
              (and_one (same_axis f.motion.axis mo.axis)
              (same_pose f.motion.from mo.from && same_pose f.motion.to mo.to) e);
          to = pose_same f.motion.to mo.to (and_two (same_pose f.motion.from mo.from) (same_pose f.motion.to mo.to)
              rest);
          pending = λ h. ap (λ l. verdict f.motion l) (sym t.readings) ∙ h;
        }

-- the motion has one reading more, and so have the answers
traced : (m : Machine) (p : Plan) (got : List (Option Reading)) (r : Option Reading) (before : Option Following)
    (mo : Motion) (F : Option Following) → IfSome F (NextTrace m p got r before mo) → AxisTrace m p (got ++ r ∷ []) F
traced m p got r before mo None t = tt
traced m p got r before mo (Some f) t = record {
  early = t.early;
  run = t.run ++ r ∷ [];
  cut = ap (λ l. l ++ r ∷ []) t.cut ∙ append_assoc t.early t.run (r ∷ []);
  readings = t.readings ∙ sym (map-append (seen f.motion) t.run (r ∷ []));
  own = t.own;
  limits = t.limits;
}

-- the verdict was pending before this reading, so this reading is what decided it
shown : (m : Machine) (p : Plan) (got : List (Option Reading)) (r : Option Reading) (before : Option Following)
    (mo : Motion) (f : Following) (v : Verdict) → NextTrace m p got r before mo f → axis_verdict before ≡ Pending
    → verdict f.motion f.readings ≡ v → MotionShows p (got ++ r ∷ []) f.motion v
shown m p got r before mo f v t calm is = record {
  early = t.early;
  run = t.run;
  last = r;
  cut = ap (λ l. l ++ r ∷ []) t.cut ∙ append_assoc t.early t.run (r ∷ []);
  limits = t.limits;
  pending = t.pending calm;
  decided = ap (λ l. verdict f.motion l) (map-append (seen f.motion) t.run (r ∷ []) ∙ sym t.readings) ∙ is;
}

fault_shown : (m : Machine) (p : Plan) (got : List (Option Reading)) (r : Option Reading) (before : Option Following)
    (mo : Motion) (F : Option Following) (c : Cause) → IfSome F (NextTrace m p got r before mo)
    → axis_verdict before ≡ Pending → axis_verdict F ≡ Fault c → ShowsFault p (got ++ r ∷ []) m c
fault_shown m p got r before mo None c t calm is = cc
fault_shown m p got r before mo (Some f) c t calm is = record {
  motion = f.motion;
  own = t.own;
  shows =
      shown m p got r before mo f (Fault c) t calm is;
}

arrival_shown : (m : Machine) (p : Plan) (got : List (Option Reading)) (r : Option Reading) (before : Option Following)
    (mo : Motion) (F : Option Following) → IfSome F (NextTrace m p got r before mo) → axis_verdict before ≡ Pending
    → axis_verdict F ≡ Arrived → ShowsArrival p (got ++ r ∷ []) mo.axis mo.to
arrival_shown m p got r before mo None t calm is = cc
arrival_shown m p got r before mo (Some f) t calm is = record {
  motion = f.motion;
  axis = t.axis;
  pose = t.to;
  shows =
      shown m p got r before mo f Arrived t calm is;
}

-- where the journal shows no motion, none is followed
followed_none : (f : Option Following) → followed f None ≡ None
followed_none None = refl
followed_none (Some f) = refl

pub axis_traced : (J : List Entry) (m : Machine) (p : Plan) (got : List (Option Reading)) (r : Option Reading)
    (f : Option Following) → AxisTrace m p got f → AxisTrace m p (got ++ r ∷ []) (axis_noted J m p f r)
axis_traced J m p got r f t = go (motion_of_machine J p m) (own_motion J p m)
  where
    go : (o : Option Motion) → IfSome o (OwnMotion J p m)
        → AxisTrace m p (got ++ r ∷ []) (option_map (with_reading r) (followed f o))
    go None h = subst (λ (o : Option Following). AxisTrace m p (got ++ r ∷ []) (option_map (with_reading r) o))
        (sym (followed_none f)) tt
    go (Some mo) h = traced m p got r f mo (option_map (with_reading r) (followed f (Some mo)))
        (next_of J m p got r f mo t h)

-- where no motion is followed there is no verdict, so the fault is one of a motion
pub axis_faults : (J : List Entry) (m : Machine) (p : Plan) (got : List (Option Reading)) (r : Option Reading)
    (f : Option Following) (c : Cause) → AxisTrace m p got f → axis_verdict f ≡ Pending
    → axis_verdict (axis_noted J m p f r) ≡ Fault c → ShowsFault p (got ++ r ∷ []) m c
axis_faults J m p got r f c t calm is = go (motion_of_machine J p m) (own_motion J p m) is
  where
    differ : Pending ≡ Fault c → ⊥
    differ q = cc

    go : (o : Option Motion) → IfSome o (OwnMotion J p m)
        → axis_verdict (option_map (with_reading r) (followed f o)) ≡ Fault c → ShowsFault p (got ++ r ∷ []) m c
    go None h e = absurd (differ (ap (λ (o : Option Following). axis_verdict (option_map (with_reading r) o))
        (sym (followed_none f)) ∙ e))
    go (Some mo) h e = fault_shown m p got r f mo (option_map (with_reading r) (followed f (Some mo))) c
        (next_of J m p got r f mo t h) calm e

pub axis_arrives : (J : List Entry) (m : Machine) (p : Plan) (got : List (Option Reading)) (r : Option Reading)
    (f : Option Following) (mo : Motion) → AxisTrace m p got f → axis_verdict f ≡ Pending
    → motion_of_machine J p m ≡ Some mo → axis_verdict (axis_noted J m p f r) ≡ Arrived
    → ShowsArrival p (got ++ r ∷ []) mo.axis mo.to
axis_arrives J m p got r f mo t calm motion is =
    let own : OwnMotion J p m mo = subst (λ (o : Option Motion). IfSome o (OwnMotion J p m)) motion (own_motion J p m)
    in
    arrival_shown m p got r f mo (option_map (with_reading r) (followed f (Some mo))) (next_of J m p got r f mo t own)
    calm
    (ap (λ (o : Option Motion). axis_verdict (option_map (with_reading r) (followed f o))) (sym motion) ∙ is)

-- where no motion is followed there is no verdict
pub axis_idle : (J : List Entry) (m : Machine) (p : Plan) (r : Option Reading) (f : Option Following)
    → motion_of_machine J p m ≡ None → axis_verdict (axis_noted J m p f r) ≡ Pending
axis_idle J m p r f motion = ap (λ (o : Option Motion). axis_verdict (option_map (with_reading r) (followed f o)))
    motion ∙ ap (λ (o : Option Following). axis_verdict (option_map (with_reading r) o)) (followed_none f)

-- the rest watch

rest_traced : (m : Machine) (got : List (Option Reading)) (r : Option Reading) (x : Expect) (L : List Noted)
    → RestTrace m got L → RestTrace m (got ++ r ∷ []) (L ++ noted m x r ∷ [])
rest_traced m got r x L t = record {
  early = t.early;
  run = t.run ++ (x, r) ∷ [];
  cut = ap (λ l. l ++ r ∷ []) t.cut ∙ append_assoc t.early (readings_of t.run) (r ∷ [])
      ∙ ap (λ l. t.early ++ l) (sym (map-append (λ (w : Watched). w.1) t.run ((x, r) ∷ [])));
  readings = ap (λ l. l ++ noted m x r ∷ []) t.readings
      ∙ sym (map-append (λ (w : Watched). noted m w.0 w.1) t.run ((x, r) ∷ []));
}

-- its readings begin after all answers so far, and there are none yet
rest_anew : (m : Machine) (got : List (Option Reading)) → RestTrace m got []
rest_anew m got = record { early = got; run = []; cut = sym (append-nil got); readings = refl }

pub rest_shown : (m : Machine) (got : List (Option Reading)) (r : Option Reading) (x : Expect) (L : List Noted)
    (v : Verdict) → RestTrace m got L → rest L ≡ Pending → rest (L ++ noted m x r ∷ []) ≡ v
    → RestShows m (got ++ r ∷ []) v
rest_shown m got r x L v t calm is = record {
  early = t.early;
  run = t.run;
  last = (x, r);
  cut = ap (λ l. l ++ r ∷ []) t.cut ∙ append_assoc t.early (readings_of t.run) (r ∷ [])
      ∙ ap (λ l. t.early ++ l) (sym (map-append (λ (w : Watched). w.1) t.run ((x, r) ∷ [])));
  pending = ap rest (sym t.readings) ∙ calm;
  decided = ap rest (map-append (λ (w : Watched). noted m w.0 w.1) t.run ((x, r) ∷ [])
      ∙ ap (λ l. l ++ noted m x r ∷ []) (sym t.readings)) ∙ is;
}

-- signs

-- a sign is a signal under a green light, and the answers tell the signal without the light
signal : (J : List Entry) (m : Machine) (r : Option Reading) → shows_sign J m r ≡ true → signals m r ≡ true
signal J machine.Feed (Some r) h = and_one (bit r.presence 0) (same_colour (lamp_of J belt.Feed) colour.Green) h
signal J machine.Deposit (Some r) h = and_one (not (bit r.presence 1))
    (same_colour (lamp_of J belt.Deposit) colour.Green) h
signal J machine.Feed None h = cc
signal J machine.Deposit None h = cc
signal J machine.Table r h = cc
signal J machine.Robot r h = cc
signal J machine.Press1 r h = cc
signal J machine.Press2 r h = cc

-- the last reading opened the sign, and this one closes it
pub sign_shown : (J : List Entry) (m : Machine) (got : List (Option Reading)) (r : Option Reading) (sign : Bool)
    → (sign ≡ true → SignTrace m got) → (sign && shows_sign J m r) ≡ true → SignShows m (got ++ r ∷ [])
sign_shown J m got r sign t h =
    let was = t (and_one sign (shows_sign J m r) h) in
    record {
      early = was.early;
      first = was.last;
      last = r;
      cut = ap (λ l. l ++ r ∷ []) was.cut;
      opens = was.opens;
      closes = signal J m r (and_two sign (shows_sign J m r) h);
    }

-- this reading is the first of the two that a sign takes
opened : (J : List Entry) (m : Machine) (got : List (Option Reading)) (kept : Memory) (r : Option Reading)
    → opens_sign J m kept r ≡ true → SignTrace m (got ++ r ∷ [])
opened J m got kept r h = record {
  early = got;
  last = r;
  cut = refl;
  opens = signal J m r (and_two (not kept.sign) (shows_sign J m r)
      (and_two (not (begins_anew J m kept)) (not kept.sign && shows_sign J m r) h));
}

-- a turn

-- a watch that begins anew stands for no answers, so nothing is asked of it
either_axis : (m : Machine) (p : Plan) (got : List (Option Reading)) (b : Bool) (F : Option Following)
    → AxisTrace m p got F → AxisTrace m p got (if b then None else F)
either_axis m p got true F t = tt
either_axis m p got false F t = t

either_rest : (m : Machine) (got : List (Option Reading)) (b : Bool) (L : List Noted) → RestTrace m got L
    → RestTrace m got (if b then [] else L)
either_rest m got true L t = rest_anew m got
either_rest m got false L t = t

-- what the watch stands for goes back to the answers again
pub traces_after : (J : List Entry) (m : Machine) (p : Plan) (got : List (Option Reading)) (s : Mind)
    (r : Option Reading) (e : Option Entry) → Traces m p got s → Traces m p (got ++ r ∷ []) (mind_after J m p s r e)
unfolding mind_after
traces_after J m p got s r e t = record {
  axis = either_axis m p (got ++ r ∷ []) (begins_anew J m s.memory || ends_motion e) (axis_noted J m p s.axis r)
      (axis_traced J m p got r s.axis t.axis);
  rest = either_rest m (got ++ r ∷ []) (begins_anew J m s.memory) (rest_noted J m s.memory s.rest r)
      (rest_traced m got r _ s.rest t.rest);
  sign = λ h. opened J m got s.memory r h;
}

-- no answer was given yet, so no sign is half shown
pub traces_first : (m : Machine) (p : Plan) (memory : Memory) → memory.sign ≡ false
    → Traces m p [] (record { axis = None; rest = []; memory = memory })
traces_first m p memory none = record { axis = tt; rest = rest_anew m []; sign = λ h. absurd (differ (sym none ∙ h)) }
  where
    differ : false ≡ true → ⊥
    differ q = cc
