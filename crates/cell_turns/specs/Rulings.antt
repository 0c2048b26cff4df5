-- What a turn decides: the first of nine points that applies
use Rattle.std.specs.Prelude.{ℕ, ◌+◌, ◌&&◌, nat_lt, Option, Some, None, List, [], ◌∷◌, if◌then◌else◌}
use Rattle.std.specs.Option.{option_map}
use Rattle.std.specs.List.{count_by}
use Rattle.cell_types.specs.declared.words.Machine.{Machine}
use Rattle.cell_types.specs.declared.words.Machine.TheVariants as machine
use Rattle.cell_types.specs.declared.words.Station.TheVariants as station
use Rattle.cell_types.specs.declared.words.Axis.{Axis}
use Rattle.cell_types.specs.declared.words.Pose.{Pose}
use Rattle.cell_types.specs.declared.words.Pose.TheVariants as pose
use Rattle.cell_types.specs.declared.words.Cause.{Cause}
use Rattle.cell_types.specs.declared.words.Cause.TheVariants as cause
use Rattle.cell_types.specs.declared.words.Entry.{Entry}
use Rattle.cell_types.specs.declared.words.Entry.TheVariants.{Admitted, Arrived as ArrivedAt, Conveyed, Forged}
use Rattle.cell_types.specs.declared.words.Entry.TheVariants.{Delivered, Declared, Reinstated}
use Rattle.cell_types.specs.declared.cell.BeltMotion.{BeltMotion}
use Rattle.cell_types.specs.declared.cell.Press.{Press}
use Rattle.cell_types.specs.Cell.{home, machine_of_axis, motion_named, press_of}
use Rattle.cell_types.specs.Limits.{max_plates}
use Rattle.cell_types.specs.Same.{same_pose}
use Rattle.cell_rules.specs.Last.{when}
use Rattle.cell_rules.specs.Views.{is_failed, is_asked, is_admitted, plate_of, expected_of}
use Rattle.cell_diagnosis.specs.declared.motion.Motion.{Motion}
use Rattle.cell_diagnosis.specs.declared.reading.Reading.{Reading}
use Rattle.cell_diagnosis.specs.declared.verdict.Verdict.{Verdict}
use Rattle.cell_diagnosis.specs.declared.verdict.Verdict.TheVariants.{Arrived, Fault}
use Rattle.cell_ports.specs.declared.plan.Plan.{Plan}
use Rattle.cell_turns.specs.declared.watch.Memory.{Memory}
use Rattle.cell_turns.specs.declared.turns.decide.Findings.{Findings}
use Rattle.cell_turns.specs.declared.turns.decide.Ruling.{Ruling}
use Rattle.cell_turns.specs.declared.turns.decide.Ruling.TheVariants.{Nothing, Books, PastLast, Proposes}
use Rattle.cell_turns.specs.Minds.{Mind}
use Rattle.cell_turns.specs.Observed.{findings}

-- what is booked where a motion has ended

abbrev pub conveyed : List Entry → Axis → BeltMotion → Option Entry
conveyed J a belt = option_map (λ k. Conveyed a k belt.dest) (plate_of J belt.from)

abbrev pub forged : List Entry → Press → Option Entry
forged J press = option_map (λ k. Forged press.machine k) (plate_of J press.station)

-- the belts are the axes whose home is Rest; their motions have names, and no other of them ends
abbrev pub arrived : Axis → Pose → Option Entry
arrived a to = if same_pose (home a) pose.Rest then None else Some (ArrivedAt a to)

abbrev pub ended : List Entry → Axis → Pose → Option BeltMotion → Option Press → Option Entry
ended J a to (Some belt) press = conveyed J a belt
ended J a to None (Some press) = if same_pose to pose.Top then forged J press else arrived a to
ended J a to None None = arrived a to

-- Conveyed for a belt, Forged for a press at Top, else Arrived. A healthy machine that moves carries the plate.
abbrev pub ending : List Entry → Axis → Pose → Option Entry
ending J a to = ended J a to (motion_named a to) (press_of (machine_of_axis a))

-- what is booked where a sign was seen: the expected plate, laid back, or the next one, whose number is at most the
-- greatest; or the delivery of the plate at DepEnd
abbrev pub next_plate : ℕ → Ruling
next_plate k = if nat_lt max_plates k then PastLast else Books (Admitted k)

abbrev pub laid_in : Option ℕ → ℕ → Ruling
laid_in (Some k) next = Books (Reinstated k)
laid_in None next = next_plate next

abbrev pub books : Option Entry → Ruling
books (Some e) = Books e
books None = Proposes

abbrev pub signed : List Entry → Machine → Ruling
signed J machine.Feed = laid_in (expected_of J) (count_by is_admitted J + 1)
signed J machine.Deposit = books (option_map (λ k. Delivered k) (plate_of J station.DepEnd))
signed J _ = Proposes

-- the points

abbrev pub declares : Machine → Cause → Ruling
declares m why = Books (Declared m why)

-- a watch found a fault
abbrev pub fault_found : Machine → Verdict → Option Ruling
fault_found m (Fault why) = Some (declares m why)
fault_found m _ = None

-- the motion has ended
abbrev pub end_found : List Entry → Option Motion → Verdict → Option Ruling
end_found J None at_axis = None
end_found J (Some motion) Arrived = Some (books (ending J motion.axis motion.to))
end_found J (Some motion) _ = None

-- the ruling of the first point that applies
abbrev pub first_ruling : List (Option Ruling) → Ruling
first_ruling [] = Nothing
first_ruling (Some k ∷ points) = k
first_ruling (None ∷ points) = first_ruling points

-- what a turn of m decides by what was kept of its last turn and by what it found:
-- one, the machine is booked failed; two, its last command failed; three, a stop is asked; four, it was booked failed
-- at its last turn; five, the axis watch found a fault; six, the rest watch found one; seven, the motion has ended;
-- eight, this reading and the last one show a sign; nine, whatever else
abbrev pub ruling_by : List Entry → Machine → Memory → Findings → Ruling
ruling_by J m kept found =
    first_ruling
    (when (is_failed J m) Nothing
    ∷ when kept.command_failed (declares m cause.CommandFault)
    ∷ when (is_asked J m) (declares m cause.OperatorStop)
    ∷ when kept.failed Proposes
    ∷ fault_found m found.at_axis
    ∷ fault_found m found.at_rest
    ∷ end_found J found.motion found.at_axis
    ∷ when (kept.sign && found.sign) (signed J m)
    ∷ Some Proposes
    ∷ [])

-- what a turn of m decides at this reading
unfoldable pub ruling : List Entry → Machine → Plan → Mind → Option Reading → Ruling
ruling J m p s r = ruling_by J m s.memory (findings J m p s r)
