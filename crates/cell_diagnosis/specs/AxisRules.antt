-- The verdict on a list of readings of a motion, oldest first. Each rule is said of the readings so far, at the last of
-- them.
use Rattle.std.specs.Prelude.{Bool, ◌&&◌, ◌==◌, List, [], length, if◌then◌else◌}
use Rattle.std.specs.List.{list_any, list_all}
use Rattle.cell_types.specs.declared.words.Cause.TheVariants as cause
use Rattle.cell_diagnosis.specs.declared.motion.Motion.{Motion}
use Rattle.cell_diagnosis.specs.declared.verdict.Verdict.{Verdict}
use Rattle.cell_diagnosis.specs.declared.verdict.Verdict.TheVariants.{Pending, Arrived, Fault}
use Rattle.cell_diagnosis.specs.Readings.{Seen}
use Rattle.cell_diagnosis.specs.Ends.{last_are, before_last}
use Rattle.cell_diagnosis.specs.AxisFacts.{is_missing, shows, lacks, shows_alone, shows_exactly, shows_several}
use Rattle.cell_diagnosis.specs.AxisFacts.{shows_stray}
use Rattle.cell_diagnosis.specs.Verdicts.{verdict_after}

-- `to` alone, and an earlier reading that isn't missing lacks `to`
unfoldable pub has_arrived : Motion → List Seen → Bool
has_arrived m L = last_are 1 (shows_alone m.to) L && list_any (lacks m.to) (before_last L)

-- it is the second reading, and both show `to`
unfoldable pub is_stuck_at_end : Motion → List Seen → Bool
is_stuck_at_end m L = length L == 2 && last_are 2 (shows m.to) L

-- this reading and the one before show exactly `from` and `to`
unfoldable pub is_stuck : Motion → List Seen → Bool
is_stuck m L = last_are 2 (shows_exactly m.from m.to) L

-- both show two switches or more
unfoldable pub is_contradictory : List Seen → Bool
is_contradictory L = last_are 2 shows_several L

-- both show a single switch, each outside `from`, `to` and the passing poses
unfoldable pub is_stray : Motion → List Seen → Bool
is_stray m L = last_are 2 (shows_stray m) L

-- three readings in a row are missing
unfoldable pub is_silent : List Seen → Bool
is_silent L = last_are 3 is_missing L

-- it is reading number LEAVE, and all readings show `from` alone
unfoldable pub has_not_left : Motion → List Seen → Bool
has_not_left m L = length L == m.limits.leave && list_all (shows_alone m.from) L

-- it is reading number LIMIT
unfoldable pub is_late : Motion → List Seen → Bool
is_late m L = length L == m.limits.limit

-- what the first rule says that applies at the last reading
unfoldable pub judged : Motion → List Seen → Verdict
judged m L =
    if has_arrived m L then Arrived
    else if is_stuck_at_end m L then Fault cause.StuckSwitch
    else if is_stuck m L then Fault cause.StuckSwitch
    else if is_contradictory L then Fault cause.Contradictory
    else if is_stray m L then Fault cause.StrayPosition
    else if is_silent L then Fault cause.Silent
    else if has_not_left m L then Fault cause.NoDeparture
    else if is_late m L then Fault cause.MissingMotion
    else Pending

-- what the rules say at the first reading at which one applies
unfoldable pub verdict : Motion → List Seen → Verdict
verdict m L = verdict_after (judged m) [] L
