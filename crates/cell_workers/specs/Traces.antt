-- How what a machine's watch stands for goes back to its port's answers. No journal is named, so this holds on while
-- others book.
use Rattle.std.specs.Prelude.{◌≡◌, ◌⊎◌, true, Option, Some, None, List, [], ◌∷◌, ◌++◌}
use Rattle.cell_types.specs.declared.words.Machine.{Machine}
use Rattle.cell_types.specs.Cell.{machine_of_axis}
use Rattle.cell_diagnosis.specs.declared.reading.Reading.{Reading}
use Rattle.cell_diagnosis.specs.declared.verdict.Verdict.TheVariants.{Pending}
use Rattle.cell_diagnosis.specs.RestFacts.{Noted}
use Rattle.cell_diagnosis.specs.RestRules.{rest}
use Rattle.cell_ports.specs.declared.plan.Plan.{Plan}
use Rattle.cell_turns.specs.declared.watch.Watch.{Watch}
use Rattle.cell_turns.specs.Moving.{limits_of}
use Rattle.cell_turns.specs.Following.{Following}
use Rattle.cell_turns.specs.Minds.{Mind, FitsMind}
use Rattle.cell_turns.specs.Observed.{axis_verdict}
use Rattle.cell_workers.specs.Evidence.{Watched, readings_of, noted_all, seen_all, signals}

-- the readings of a motion that is followed are the last answers; it is one of m's, with the plan's limits
pub record FollowedTrace (m : Machine) (p : Plan) (got : List (Option Reading)) (f : Following) : Type 0 where
  pub early : List (Option Reading)
  pub run : List (Option Reading)
  pub cut : got ≡ early ++ run
  pub readings : f.readings ≡ seen_all f.motion run
  pub own : machine_of_axis f.motion.axis ≡ m
  pub limits : f.motion.limits ≡ limits_of p f.motion.axis

abbrev pub AxisTrace : Machine → Plan → List (Option Reading) → Option Following → Type 0
AxisTrace m p got None = Unit {0}
AxisTrace m p got (Some f) = FollowedTrace m p got f

-- the readings of the rest watch are the last answers, with some Expects
pub record RestTrace (m : Machine) (got : List (Option Reading)) (L : List Noted) : Type 0 where
  pub early : List (Option Reading)
  pub run : List Watched
  pub cut : got ≡ early ++ readings_of run
  pub readings : L ≡ noted_all m run

-- the last answer may be the first of a sign's two
pub record SignTrace (m : Machine) (got : List (Option Reading)) : Type 0 where
  pub early : List (Option Reading)
  pub last : Option Reading
  pub cut : got ≡ early ++ last ∷ []
  pub opens : signals m last ≡ true

pub record Traces (m : Machine) (p : Plan) (got : List (Option Reading)) (s : Mind) : Type 0 where
  pub axis : AxisTrace m p got s.axis
  pub rest : RestTrace m got s.rest
  pub sign : s.memory.sign ≡ true → SignTrace m got

-- no verdict was given yet that the next turn would give again, but for a machine that was booked failed
abbrev pub Calm : Mind → Type 0
Calm s = (s.memory.failed ≡ true) ⊎ ((axis_verdict s.axis ≡ Pending) × (rest s.rest ≡ Pending))

-- a watch that saw these answers
pub record Saw (m : Machine) (p : Plan) (got : List (Option Reading)) (w : Watch) : Type 0 where
  pub mind : Mind
  pub fits : FitsMind w mind
  pub traces : Traces m p got mind
  pub calm : Calm mind
