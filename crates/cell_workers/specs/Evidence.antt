-- The readings on which the entries of a machine's worker rest
use Rattle.std.specs.Prelude.{◌≡◌, ◌⊎◌, Bool, true, false, not, Option, Some, List, [], ◌∷◌, ◌++◌, map}
use Rattle.cell_types.specs.declared.words.Machine.{Machine}
use Rattle.cell_types.specs.declared.words.Machine.TheVariants as machine
use Rattle.cell_types.specs.declared.words.Station.{Station}
use Rattle.cell_types.specs.declared.words.Axis.{Axis}
use Rattle.cell_types.specs.declared.words.Pose.{Pose}
use Rattle.cell_types.specs.declared.words.Pose.TheVariants as pose
use Rattle.cell_types.specs.declared.words.Cause.{Cause}
use Rattle.cell_types.specs.declared.words.Cause.TheVariants as cause
use Rattle.cell_types.specs.declared.words.Entry.{Entry}
use Rattle.cell_types.specs.declared.words.Entry.TheVariants.{Admitted, Arrived as ArrivedAt, Conveyed, Forged}
use Rattle.cell_types.specs.declared.words.Entry.TheVariants.{Delivered, Declared, Reinstated}
use Rattle.cell_types.specs.declared.cell.BeltMotion.{BeltMotion}
use Rattle.cell_types.specs.Cell.{machine_of_axis, press_axis, motion_to}
use Rattle.cell_diagnosis.specs.declared.motion.Motion.{Motion}
use Rattle.cell_diagnosis.specs.declared.reading.Reading.{Reading}
use Rattle.cell_diagnosis.specs.declared.expect.Expect.{Expect}
use Rattle.cell_diagnosis.specs.declared.verdict.Verdict.{Verdict}
use Rattle.cell_diagnosis.specs.declared.verdict.Verdict.TheVariants.{Pending, Arrived, Fault}
use Rattle.cell_diagnosis.specs.Readings.{bit, Seen, seen}
use Rattle.cell_diagnosis.specs.AxisRules.{verdict}
use Rattle.cell_diagnosis.specs.RestFacts.{Noted, noted}
use Rattle.cell_diagnosis.specs.RestRules.{rest}
use Rattle.cell_ports.specs.declared.plan.Plan.{Plan}
use Rattle.cell_turns.specs.Moving.{limits_of}

-- readings as the watch of a motion sees them
abbrev pub seen_all : Motion → List (Option Reading) → List Seen
seen_all mo rs = map (seen mo) rs

-- the answers `got` end with consecutive readings whose verdict for this motion, with the plan's limits, is v. Before
-- the last of them it is Pending.
pub record MotionShows (p : Plan) (got : List (Option Reading)) (mo : Motion) (v : Verdict) : Type 0 where
  pub early : List (Option Reading)
  pub run : List (Option Reading)
  pub last : Option Reading
  pub cut : got ≡ early ++ (run ++ last ∷ [])
  pub limits : mo.limits ≡ limits_of p mo.axis
  pub pending : verdict mo (seen_all mo run) ≡ Pending
  pub decided : verdict mo (seen_all mo (run ++ last ∷ [])) ≡ v

-- a reading with an Expect
abbrev pub Watched : Type 0
Watched = Expect × Option Reading

abbrev pub readings_of : List Watched → List (Option Reading)
readings_of ws = map (λ (w : Watched). w.1) ws

-- as the rest watch of a machine notes them
abbrev pub noted_all : Machine → List Watched → List Noted
noted_all m ws = map (λ (w : Watched). noted m w.0 w.1) ws

-- the answers end with consecutive readings whose verdict for machine m at rest, for some Expects, is v. Before the
-- last of them it is Pending.
pub record RestShows (m : Machine) (got : List (Option Reading)) (v : Verdict) : Type 0 where
  pub early : List (Option Reading)
  pub run : List Watched
  pub last : Watched
  pub cut : got ≡ early ++ readings_of (run ++ last ∷ [])
  pub pending : rest (noted_all m run) ≡ Pending
  pub decided : rest (noted_all m (run ++ last ∷ [])) ≡ v

-- a present reading that shows FeedIn, or doesn't show DepEnd
abbrev pub signals : Machine → Option Reading → Bool
signals machine.Feed (Some r) = bit r.presence 0
signals machine.Deposit (Some r) = not (bit r.presence 1)
signals _ _ = false

-- the answers end with two such readings
pub record SignShows (m : Machine) (got : List (Option Reading)) : Type 0 where
  pub early : List (Option Reading)
  pub first : Option Reading
  pub last : Option Reading
  pub cut : got ≡ (early ++ first ∷ []) ++ last ∷ []
  pub opens : signals m first ≡ true
  pub closes : signals m last ≡ true

-- they end with a motion of this axis to this pose, from some pose
pub record ShowsArrival (p : Plan) (got : List (Option Reading)) (a : Axis) (to : Pose) : Type 0 where
  pub motion : Motion
  pub axis : motion.axis ≡ a
  pub pose : motion.to ≡ to
  pub shows : MotionShows p got motion Arrived

-- they end with a motion of an axis of m that has this fault
pub record ShowsFault (p : Plan) (got : List (Option Reading)) (m : Machine) (c : Cause) : Type 0 where
  pub motion : Motion
  pub own : machine_of_axis motion.axis ≡ m
  pub shows : MotionShows p got motion (Fault c)

-- a belt's motion that ends at this station
pub record ShowsConveyance (p : Plan) (got : List (Option Reading)) (a : Axis) (dest : Station) : Type 0 where
  pub motion : BeltMotion
  pub belt : motion_to a dest ≡ Some motion
  pub arrival : ShowsArrival p got a motion.to

pub record ShowsForging (p : Plan) (got : List (Option Reading)) (press : Machine) : Type 0 where
  pub axis : Axis
  pub press_axis : press_axis press ≡ Some axis
  pub arrival : ShowsArrival p got axis pose.Top

-- a cause that readings show
abbrev pub is_diagnosed : Cause → Bool
is_diagnosed cause.CommandFault = false
is_diagnosed cause.OperatorStop = false
is_diagnosed _ = true

-- the answers, of which the last was just read, are evidence of the entry
abbrev pub Backed : Plan → List (Option Reading) → Entry → Type 0
Backed p got (ArrivedAt a at) = ShowsArrival p got a at
Backed p got (Conveyed a k dest) = ShowsConveyance p got a dest
Backed p got (Forged press k) = ShowsForging p got press
Backed p got (Admitted k) = SignShows machine.Feed got
Backed p got (Reinstated k) = SignShows machine.Feed got
Backed p got (Delivered k) = SignShows machine.Deposit got
Backed p got (Declared m c) = is_diagnosed c ≡ true → ShowsFault p got m c ⊎ RestShows m got (Fault c)
Backed p got _ = Unit {0}

-- each entry was booked at a reading of its own, in order, and the answers up to that one are its evidence
pub data Backs (p : Plan) : List (Option Reading) → List Entry → Type 0 where
  begun : Backs p [] []
  idled : {rs : List (Option Reading)} {es : List Entry} (r : Option Reading) → Backs p rs es
      → Backs p (rs ++ r ∷ []) es
  based : {rs : List (Option Reading)} {es : List Entry} (r : Option Reading) (e : Entry) → Backs p rs es
      → Backed p (rs ++ r ∷ []) e → Backs p (rs ++ r ∷ []) (es ++ e ∷ [])
