-- The verdict on a list of readings of a machine at rest, oldest first, each with the Expect given with it. Each rule
-- is said of the readings so far, at the last of them.
use Rattle.std.specs.Prelude.{ℕ, Bool, List, [], if◌then◌else◌}
use Rattle.cell_types.specs.declared.words.Cause.TheVariants as cause
use Rattle.cell_diagnosis.specs.declared.verdict.Verdict.{Verdict}
use Rattle.cell_diagnosis.specs.declared.verdict.Verdict.TheVariants.{Pending, Fault}
use Rattle.cell_diagnosis.specs.Ends.{last_are}
use Rattle.cell_diagnosis.specs.Verdicts.{then_verdict, verdict_after}
use Rattle.cell_diagnosis.specs.RestFacts.{Noted, is_unread, disagrees, shows_several_at, is_lost, is_strange}
use Rattle.cell_diagnosis.specs.RestFacts.{any_of_three}

-- three readings in a row are missing
unfoldable pub is_silent_at_rest : List Noted → Bool
is_silent_at_rest L = last_are 3 is_unread L

-- axis j disagrees in this reading and the one before; the cause depends on whether both show two switches or more
unfoldable pub axis_fault : ℕ → List Noted → Verdict
axis_fault j L =
    if last_are 2 (disagrees j) L
    then (if last_are 2 (shows_several_at j) L then Fault cause.Contradictory else Fault cause.LostPosition)
    else Pending

-- a presence bit that must be set is clear in both
unfoldable pub is_plate_lost : List Noted → Bool
is_plate_lost L = any_of_three (λ k. last_are 2 (is_lost k) L)

-- a presence bit that must be clear is set in both
unfoldable pub is_plate_strange : List Noted → Bool
is_plate_strange L = any_of_three (λ k. last_are 2 (is_strange k) L)

unfoldable pub plate_fault : List Noted → Verdict
plate_fault L =
    if is_plate_lost L then Fault cause.PlateLost
    else if is_plate_strange L then Fault cause.StrangePlate
    else Pending

-- what the first rule says that applies at the last reading: silence, then the axes, the lowest first, then the plates
unfoldable pub judged_at_rest : List Noted → Verdict
judged_at_rest L =
    if is_silent_at_rest L then Fault cause.Silent
    else then_verdict (axis_fault 0 L) (then_verdict (axis_fault 1 L) (then_verdict (axis_fault 2 L) (plate_fault L)))

-- what the rules say at the first reading at which one applies
unfoldable pub rest : List Noted → Verdict
rest L = verdict_after judged_at_rest [] L
