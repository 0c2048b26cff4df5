-- What is told of a run's end
use Rattle.std.specs.Prelude.{ℕ, List, [], ◌++◌, Option, Result, Ok, Err, drop}
use Rattle.std.specs.Io.KnownBytes.{Appends}
use Rattle.cell_types.specs.declared.words.Entry.{Entry}
use Rattle.cell_types.specs.Limits.{max_entries, max_plates}
use Rattle.cell_rows.specs.Rows.{rows_of}
use Rattle.cell_rows.specs.Scripts.{Reading, lines_of}
use Rattle.cell_rows.specs.declared.script.LineError.{LineError}
use Rattle.cell_sim.specs.Script.{next_fault}
use Rattle.cell_rules.specs.declared.limits.BookLimits.{BookLimits}
use Rattle.operator_desk.specs.Lines.{line_of}
use Rattle.cell_ports.specs.declared.plan.Plan.{Plan}
use Rattle.cell_workers.specs.declared.ends.End.{End}
use Rattle.cell_explain.specs.Limit.{limit_of}
use Rattle.cell_explain.specs.Counts.{laid_back_of, unadmitted_of}
use Rattle.cell_explain.specs.Failures.{failures_of}
use Rattle.cell_explain.specs.Plates.{plates_of}
use Rattle.cell_explain.specs.Places.{HasLine}
use Rattle.cell_explain.specs.Waiting.{Leaves, waiting_of}
use Rattle.cell_explain.specs.Missed.{missed_of}

-- the greatest limits that any run may have
abbrev pub greatest : BookLimits
greatest = record { entries = max_entries; plates = max_plates }

-- the limits of a run by this plan
abbrev pub limits_of : Plan → BookLimits
limits_of plan = record { entries = plan.journal_limit; plates = plan.plates }

-- the lines of a script's reading: none, where it can't be read
abbrev pub lines_read : {L : Type 0} → Result (List L) LineError → List L
lines_read (Ok lines) = lines
lines_read (Err e) = []

-- the lines of a script's text
abbrev pub script_lines : {L : Type 0} → Reading L → List ℕ → List L
script_lines read text = lines_read (lines_of read (rows_of text))

-- what is told of the run as a whole: the limit that ended it, the plates that weren't admitted, and those that were
-- laid back
abbrev pub run_of : List Entry → End → Plan → List ℕ
run_of J e plan = limit_of J e plan ++ (unadmitted_of J plan.plates ++ laid_back_of J)

-- so many lines of the operator's script are done by some entries, and the next one stands in this line of its text
abbrev pub IsUndone : List ℕ → List Entry → ℕ → ℕ → Type 0
IsUndone operator J n at =
    Leaves (script_lines line_of operator) J (drop n (script_lines line_of operator)) × HasLine operator n at

-- what is told of the end of a run by this plan, by its journal, how many entries that had before the run, and the
-- texts of its two scripts: the run as a whole, the failed machines, the plates that stand in the cell, the first line
-- of the operator's script that isn't done and where it stands, and the faults that were never reached
abbrev pub ending_of : List Entry → ℕ → End → Plan → List ℕ → List ℕ → ℕ → ℕ → List ℕ
ending_of J before e plan faults operator n at =
    run_of J e plan ++ (failures_of J ++ (plates_of (limits_of plan) J
    ++ (waiting_of (limits_of plan) J n at (script_lines line_of operator)
    ++ missed_of (drop before J) (script_lines next_fault faults))))

-- that was written, with the first line of the operator's script that isn't done by the run's own entries
abbrev pub TellsEnding : List Entry → ℕ → End → Plan → List ℕ → List ℕ → Option (List ℕ) → Option (List ℕ) → Type 0
TellsEnding J before e plan faults operator old new =
    (n : ℕ) × (at : ℕ) × IsUndone operator (drop before J) n at
    × Appends old new (ending_of J before e plan faults operator n at)
