-- A rest watch: what it shows, what it keeps of the readings, and the list of readings that it fits
use Rattle.std.specs.Prelude.{◌≡◌, ℕ, Bool, true, false, ◌&&◌, Option, Some, List, if◌then◌else◌}
use Rattle.cell_types.specs.declared.words.Cause.TheVariants as cause
use Rattle.cell_types.specs.declared.words.Machine.{Machine}
use Rattle.cell_diagnosis.specs.declared.expect.Expect.{Expect}
use Rattle.cell_diagnosis.specs.declared.reading.Reading.{Reading}
use Rattle.cell_diagnosis.specs.declared.verdict.Verdict.{Verdict}
use Rattle.cell_diagnosis.specs.declared.verdict.Verdict.TheVariants.{Pending, Fault}
use Rattle.cell_diagnosis.specs.declared.rest_facts.RestFacts.{RestFacts}
use Rattle.cell_diagnosis.specs.declared.rest_watch.RestWatch.{RestWatch}
use Rattle.cell_diagnosis.specs.Ends.{last_are}
use Rattle.cell_diagnosis.specs.Verdicts.{then_verdict}
use Rattle.cell_diagnosis.specs.RestFacts.{Noted, noted, is_unread, agrees, disagrees, shows_several_at, is_lost}
use Rattle.cell_diagnosis.specs.RestFacts.{is_strange, is_set, any_of_three, of_three, rest_facts_of}
use Rattle.cell_diagnosis.specs.RestRules.{rest}

-- the machine that a watch watches
abbrev pub machine_of : RestWatch → Machine
machine_of w = w.machine

-- what a watch answered last; Pending before its first reading
abbrev pub rest_answer_of : RestWatch → Verdict
rest_answer_of w = w.verdict

-- a reading and its Expect as this watch notes them
abbrev pub noted_by : RestWatch → Expect → Option Reading → Noted
noted_by w e r = noted (machine_of w) e r

-- the same of the last reading of a list, and false where there is none
unfoldable pub last_rest_facts : List Noted → RestFacts
last_rest_facts L = record {
  missing = last_are 1 is_unread L;
  agrees = last_are 1 agrees L;
  disagrees = of_three (λ j. last_are 1 (disagrees j) L);
  several = of_three (λ j. last_are 1 (shows_several_at j) L);
  lost = of_three (λ k. last_are 1 (is_lost k) L);
  strange = of_three (λ k. last_are 1 (is_strange k) L);
}

abbrev pub both_at : ℕ → List Bool → List Bool → Bool
both_at j last next = is_set j last && is_set j next

abbrev pub axis_ruling : ℕ → RestFacts → RestFacts → Verdict
axis_ruling j last next =
    if both_at j last.disagrees next.disagrees
    then (if both_at j last.several next.several then Fault cause.Contradictory else Fault cause.LostPosition)
    else Pending

abbrev pub plate_ruling : RestFacts → RestFacts → Verdict
plate_ruling last next =
    if any_of_three (λ k. both_at k last.lost next.lost) then Fault cause.PlateLost
    else if any_of_three (λ k. both_at k last.strange next.strange) then Fault cause.StrangePlate
    else Pending

-- what the first rule says that applies, by what a watch keeps and the next reading
abbrev pub rest_ruling : Bool → RestFacts → RestFacts → Verdict
rest_ruling two_missing last next =
    if two_missing && next.missing then Fault cause.Silent
    else then_verdict (axis_ruling 0 last next)
    (then_verdict (axis_ruling 1 last next) (then_verdict (axis_ruling 2 last next) (plate_ruling last next)))

-- what a watch keeps is what the list says, and its answer is the list's verdict; facts that agree are those of the
-- reading that it keeps, before which not two were missing
pub record RestFits (w : RestWatch) (L : List Noted) : Type 0 where
  pub last : w.last ≡ last_rest_facts L
  pub two_missing : w.two_missing ≡ last_are 2 is_unread L
  pub verdict : w.verdict ≡ rest L
  pub kept : w.last.agrees ≡ true → w.last ≡ rest_facts_of (noted_by w w.expect (Some w.reading))
  pub present : w.last.agrees ≡ true → w.two_missing ≡ false
