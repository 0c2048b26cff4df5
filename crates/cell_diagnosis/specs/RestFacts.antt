-- What the rules of the rest watch ask of one reading and the Expect given with it
use Rattle.std.specs.Prelude.{ℕ, Bool, true, false, not, ◌&&◌, ◌||◌, ◌==◌, nat_le, Option, Some, None, List, [], ◌∷◌}
use Rattle.std.specs.Prelude.{get_or, slice_index}
use Rattle.cell_types.specs.declared.words.Machine.{Machine}
use Rattle.cell_types.specs.declared.words.Machine.TheVariants as machine
use Rattle.cell_types.specs.declared.words.Pose.{Pose}
use Rattle.cell_diagnosis.specs.declared.reading.Reading.{Reading}
use Rattle.cell_diagnosis.specs.declared.expect.Expect.{Expect}
use Rattle.cell_diagnosis.specs.declared.rest_facts.RestFacts.{RestFacts}
use Rattle.cell_diagnosis.specs.Readings.{bit, no_bits, two_bits, three_bits, six_bits}
use Rattle.cell_diagnosis.specs.AxisFacts.{is_shown, count_shown}

-- What is expected: per axis the pose that it must show alone, or None; per presence bit of the machine, whether it
-- must be set and whether it isn't looked at. An axis that the machine lacks, or that has no switches, isn't looked at.
pub record Expected : Type 0 where
  pub poses : List (Option Pose)
  pub must : List Bool
  pub may : List Bool

-- the truth values that a reading shows: per axis six switches, and the presence bits of the machine
pub record Shown : Type 0 where
  pub axes : List (List Bool)
  pub presence : List Bool

-- a reading, None where it is missing, with what is expected of it
pub record Noted : Type 0 where
  pub expected : Expected
  pub shown : Option Shown

-- the poses that are expected of a machine's axes, those of belts left out
abbrev pub machine_poses : Machine → List (Option Pose) → List (Option Pose)
machine_poses machine.Feed ps = None ∷ None ∷ None ∷ []
machine_poses machine.Table ps = get_or ps 0 None ∷ get_or ps 1 None ∷ None ∷ []
machine_poses machine.Robot ps = get_or ps 0 None ∷ get_or ps 1 None ∷ get_or ps 2 None ∷ []
machine_poses machine.Press1 ps = get_or ps 0 None ∷ None ∷ None ∷ []
machine_poses machine.Press2 ps = get_or ps 0 None ∷ None ∷ None ∷ []
machine_poses machine.Deposit ps = None ∷ None ∷ None ∷ []

-- the switches of a machine's axes, in their order
abbrev pub machine_axes : Machine → List ℕ → List (List Bool)
machine_axes machine.Feed sw = no_bits ∷ no_bits ∷ no_bits ∷ []
machine_axes machine.Table sw = two_bits (slice_index sw 0) ∷ two_bits (slice_index sw 1) ∷ no_bits ∷ []
machine_axes machine.Robot sw =
    six_bits (slice_index sw 0) ∷ two_bits (slice_index sw 1) ∷ two_bits (slice_index sw 2) ∷ []
machine_axes machine.Press1 sw = three_bits (slice_index sw 0) ∷ no_bits ∷ no_bits ∷ []
machine_axes machine.Press2 sw = three_bits (slice_index sw 0) ∷ no_bits ∷ no_bits ∷ []
machine_axes machine.Deposit sw = no_bits ∷ no_bits ∷ no_bits ∷ []

-- the presence bits of a machine: its stations in order, and of Feed the sensor at the table
abbrev pub machine_presence : Machine → ℕ → List Bool
machine_presence machine.Feed byte = bit byte 0 ∷ bit byte 1 ∷ bit byte 2 ∷ []
machine_presence machine.Table byte = bit byte 0 ∷ false ∷ false ∷ []
machine_presence machine.Robot byte = bit byte 0 ∷ bit byte 1 ∷ false ∷ []
machine_presence machine.Press1 byte = bit byte 0 ∷ false ∷ false ∷ []
machine_presence machine.Press2 byte = bit byte 0 ∷ false ∷ false ∷ []
machine_presence machine.Deposit byte = bit byte 0 ∷ bit byte 1 ∷ false ∷ []

abbrev pub shown_by : Machine → Option Reading → Option Shown
shown_by m None = None
shown_by m (Some r) = Some (record { axes = machine_axes m r.switches; presence = machine_presence m r.presence })

-- a reading and its Expect as the watch of this machine notes them
unfoldable pub noted : Machine → Expect → Option Reading → Noted
noted m e r = record {
  expected = record {
    poses = machine_poses m e.poses;
    must = machine_presence m e.must;
    may =
        machine_presence m e.may;
  };
  shown = shown_by m r;
}

abbrev pub is_absent : Option Shown → Bool
is_absent None = true
is_absent (Some s) = false

-- the reading isn't missing, and what it shows passes the test
abbrev pub on_shown : (Shown → Bool) → Option Shown → Bool
on_shown test None = false
on_shown test (Some s) = test s

abbrev pub axis_at : ℕ → Shown → List Bool
axis_at j s = get_or s.axes j []

abbrev pub is_set : ℕ → List Bool → Bool
is_set k bits = get_or bits k false

-- a pose is expected, and these switches don't show it alone
abbrev pub pose_disagrees : Option Pose → List Bool → Bool
pose_disagrees None bits = false
pose_disagrees (Some p) bits = not (is_shown p bits && count_shown bits == 1)

unfoldable pub is_unread : Noted → Bool
is_unread n = is_absent n.shown

-- axis j doesn't show alone the pose that is expected
unfoldable pub disagrees : ℕ → Noted → Bool
disagrees j n = on_shown (λ s. pose_disagrees (get_or n.expected.poses j None) (axis_at j s)) n.shown

-- axis j shows two switches or more
unfoldable pub shows_several_at : ℕ → Noted → Bool
shows_several_at j n = on_shown (λ s. nat_le 2 (count_shown (axis_at j s))) n.shown

-- presence bit k must be set, is looked at and is clear
unfoldable pub is_lost : ℕ → Noted → Bool
is_lost k n =
    on_shown (λ s. is_set k n.expected.must && (not (is_set k n.expected.may) && not (is_set k s.presence))) n.shown

-- presence bit k must be clear, is looked at and is set
unfoldable pub is_strange : ℕ → Noted → Bool
is_strange k n =
    on_shown (λ s. not (is_set k n.expected.must) && (not (is_set k n.expected.may) && is_set k s.presence)) n.shown

-- one of the three axes, or of the three presence bits, passes the test
abbrev pub any_of_three : (ℕ → Bool) → Bool
any_of_three test = test 0 || (test 1 || test 2)

-- the reading isn't missing, and no part of it disagrees
unfoldable pub agrees : Noted → Bool
agrees n =
    not (is_unread n) && (not (any_of_three (λ j. disagrees j n))
    && (not (any_of_three (λ k. is_lost k n)) && not (any_of_three (λ k. is_strange k n))))

-- a test of each of the three axes, or presence bits
abbrev pub of_three : (ℕ → Bool) → List Bool
of_three test = test 0 ∷ test 1 ∷ test 2 ∷ []

-- what the rules ask of a reading
abbrev pub rest_facts_of : Noted → RestFacts
rest_facts_of n = record {
  missing = is_unread n;
  agrees = agrees n;
  disagrees = of_three (λ j. disagrees j n);
  several = of_three (λ j. shows_several_at j n);
  lost = of_three (λ k. is_lost k n);
  strange = of_three (λ k. is_strange k n);
}
