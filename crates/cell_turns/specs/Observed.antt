-- What a turn observes: the readings of both watches with this one, and what they say
use Rattle.std.specs.Prelude.{◌&&◌, Bool, Option, Some, None, List, [], ◌∷◌, ◌++◌, if◌then◌else◌}
use Rattle.std.specs.Option.{option_map}
use Rattle.cell_types.specs.declared.words.Machine.{Machine}
use Rattle.cell_types.specs.declared.words.Entry.{Entry}
use Rattle.cell_types.specs.Same.{same_axis, same_pose}
use Rattle.cell_diagnosis.specs.declared.motion.Motion.{Motion}
use Rattle.cell_diagnosis.specs.declared.reading.Reading.{Reading}
use Rattle.cell_diagnosis.specs.declared.verdict.Verdict.{Verdict}
use Rattle.cell_diagnosis.specs.declared.verdict.Verdict.TheVariants.{Pending}
use Rattle.cell_diagnosis.specs.Readings.{seen}
use Rattle.cell_diagnosis.specs.AxisRules.{verdict}
use Rattle.cell_diagnosis.specs.RestFacts.{Noted, noted}
use Rattle.cell_diagnosis.specs.RestRules.{rest}
use Rattle.cell_ports.specs.declared.plan.Plan.{Plan}
use Rattle.cell_turns.specs.declared.watch.Memory.{Memory}
use Rattle.cell_turns.specs.declared.turns.decide.Findings.{Findings}
use Rattle.cell_turns.specs.Moving.{motion_of_machine}
use Rattle.cell_turns.specs.Visits.{is_unvisited}
use Rattle.cell_turns.specs.Expected.{expected_of}
use Rattle.cell_turns.specs.Signs.{shows_sign}
use Rattle.cell_turns.specs.Following.{Following}
use Rattle.cell_turns.specs.Minds.{Mind}

-- the axis watch's readings

abbrev pub same_motion : Motion → Motion → Bool
same_motion a b = same_axis a.axis b.axis && (same_pose a.from b.from && same_pose a.to b.to)

-- what follows the motion that the book shows: the watch begins anew where it follows another, or none
abbrev pub followed : Option Following → Option Motion → Option Following
followed _ None = None
followed None (Some m) = Some (record { motion = m; readings = [] })
followed (Some f) (Some m) = if same_motion f.motion m then Some f else Some (record { motion = m; readings = [] })

abbrev pub with_reading : Option Reading → Following → Following
with_reading r f = record { motion = f.motion; readings = f.readings ++ seen f.motion r ∷ [] }

-- the motion that is followed, with this reading
abbrev pub axis_noted : List Entry → Machine → Plan → Option Following → Option Reading → Option Following
axis_noted J m p f r = option_map (with_reading r) (followed f (motion_of_machine J p m))

abbrev pub axis_verdict : Option Following → Verdict
axis_verdict None = Pending
axis_verdict (Some f) = verdict f.motion f.readings

-- the rest watch's readings, with this one
abbrev pub rest_noted : List Entry → Machine → Memory → List Noted → Option Reading → List Noted
rest_noted J m kept L r = L ++ noted m (expected_of J m (is_unvisited J m kept)) r ∷ []

-- what is found, the verdicts being those of the readings so far and this one
abbrev pub findings : List Entry → Machine → Plan → Mind → Option Reading → Findings
findings J m p s r =
    record {
      motion = motion_of_machine J p m;
      at_axis = axis_verdict (axis_noted J m p s.axis r);
      at_rest = rest (rest_noted J m s.memory s.rest r);
      sign = shows_sign J m r;
    }
