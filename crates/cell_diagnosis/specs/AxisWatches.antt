-- An axis watch: what it shows, what it keeps of the readings, and the list of readings that it fits
use Rattle.std.specs.Prelude.{◌≡◌, ◌+◌, min, ◌&&◌, ◌==◌, Option, List, length, if◌then◌else◌}
use Rattle.std.specs.List.{list_any, list_all}
use Rattle.cell_types.specs.declared.words.Cause.TheVariants as cause
use Rattle.cell_diagnosis.specs.declared.motion.Motion.{Motion}
use Rattle.cell_diagnosis.specs.declared.reading.Reading.{Reading}
use Rattle.cell_diagnosis.specs.declared.verdict.Verdict.{Verdict}
use Rattle.cell_diagnosis.specs.declared.verdict.Verdict.TheVariants.{Pending, Arrived, Fault}
use Rattle.cell_diagnosis.specs.declared.axis_facts.AxisFacts.{AxisFacts}
use Rattle.cell_diagnosis.specs.declared.axis_watch.AxisWatch.{AxisWatch}
use Rattle.cell_diagnosis.specs.Readings.{Seen, seen}
use Rattle.cell_diagnosis.specs.Ends.{last_are}
use Rattle.cell_diagnosis.specs.AxisFacts.{is_missing, shows, lacks, shows_alone, shows_exactly, shows_several}
use Rattle.cell_diagnosis.specs.AxisFacts.{shows_stray}
use Rattle.cell_diagnosis.specs.AxisRules.{verdict}

-- the motion that a watch follows
abbrev pub motion_of : AxisWatch → Motion
motion_of w = w.motion

-- what a watch answered last; Pending before its first reading
abbrev pub answer_of : AxisWatch → Verdict
answer_of w = w.verdict

-- a reading as this watch sees it
abbrev pub seen_by : AxisWatch → Option Reading → Seen
seen_by w r = seen (motion_of w) r

-- what the rules ask of a reading
abbrev pub facts_of : Motion → Seen → AxisFacts
facts_of m r = record {
  missing = is_missing r;
  shows_to = shows m.to r;
  lacks_to = lacks m.to r;
  from_alone = shows_alone m.from r;
  to_alone = shows_alone m.to r;
  from_and_to = shows_exactly m.from m.to r;
  several = shows_several r;
  stray = shows_stray m r;
}

-- the same of the last reading of a list, and false where there is none
unfoldable pub last_facts : Motion → List Seen → AxisFacts
last_facts m L = record {
  missing = last_are 1 is_missing L;
  shows_to = last_are 1 (shows m.to) L;
  lacks_to = last_are 1 (lacks m.to) L;
  from_alone = last_are 1 (shows_alone m.from) L;
  to_alone = last_are 1 (shows_alone m.to) L;
  from_and_to = last_are 1 (shows_exactly m.from m.to) L;
  several = last_are 1 shows_several L;
  stray = last_are 1 (shows_stray m) L;
}

-- what the first rule says that applies, by what a watch keeps and the next reading
abbrev pub ruling : AxisWatch → AxisFacts → Verdict
ruling w next =
    if next.to_alone && w.lacked_to then Arrived
    else if w.count == 1 && (w.last.shows_to && next.shows_to) then Fault cause.StuckSwitch
    else if w.last.from_and_to && next.from_and_to then Fault cause.StuckSwitch
    else if w.last.several && next.several then Fault cause.Contradictory
    else if w.last.stray && next.stray then Fault cause.StrayPosition
    else if w.two_missing && next.missing then Fault cause.Silent
    else if w.count + 1 == w.motion.limits.leave && (w.only_from && next.from_alone) then Fault cause.NoDeparture
    else if w.count + 1 == w.motion.limits.limit then Fault cause.MissingMotion
    else Pending

-- what a watch keeps is what the list says, and its answer is the list's verdict
pub record Fits (w : AxisWatch) (L : List Seen) : Type 0 where
  pub count : w.count ≡ min (length L) 65535
  pub last : w.last ≡ last_facts w.motion L
  pub two_missing : w.two_missing ≡ last_are 2 is_missing L
  pub lacked_to : w.lacked_to ≡ list_any (lacks w.motion.to) L
  pub only_from : w.only_from ≡ list_all (shows_alone w.motion.from) L
  pub verdict : w.verdict ≡ verdict w.motion L
