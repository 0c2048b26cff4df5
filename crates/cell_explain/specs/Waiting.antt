-- What is told of the operator's script
use Rattle.std.specs.Prelude.{◌≡◌, ℕ, ◌+◌, List, [], ◌∷◌, ◌++◌, Option, Some, None, codes, decimal}
use Rattle.std.specs.Prelude.{if◌then◌else◌, slice_get}
use Rattle.cell_types.specs.declared.words.Entry.{Entry}
use Rattle.cell_types.specs.declared.words.Entry.TheVariants.{StopAsked, Quarantined, Repaired, Expected}
use Rattle.cell_types.specs.declared.words.Station.{Station}
use Rattle.cell_rules.specs.Views.{count_of, plate_of}
use Rattle.cell_rules.specs.declared.limits.BookLimits.{BookLimits}
use Rattle.cell_rules.specs.declared.refusal.Refusal.{Refusal}
use Rattle.cell_rules.specs.Legal.{first_of}
use Rattle.operator_desk.specs.declared.line.Line.{Line}
use Rattle.operator_desk.specs.declared.line.Trigger.{Trigger}
use Rattle.operator_desk.specs.declared.line.Trigger.TheVariants as trigger
use Rattle.operator_desk.specs.declared.line.Task.{Task}
use Rattle.operator_desk.specs.declared.line.Task.TheVariants as task
use Rattle.operator_desk.specs.Next.{holds, left_after}
use Rattle.cell_sentences.specs.Names.{station_name, the_machine}
use Rattle.cell_sentences.specs.Sentences.{refusal_sentence}
use Rattle.cell_explain.specs.Words.{are, plates, were}

-- the task of which an entry of the operator is
abbrev pub task_of : Entry → Option Task
task_of (StopAsked m) = Some (task.Stop m)
task_of (Quarantined k s) = Some (task.Clear s)
task_of (Repaired m) = Some (task.Repair m)
task_of (Expected k) = Some (task.Expect k)
task_of _ = None

-- the first of these lines asks for an entry
abbrev pub AskFor : List Line → Entry → Type 0
AskFor [] e = ⊥
AskFor (line ∷ rest) e = task_of e ≡ Some line.task

-- these of a script's lines are left after some entries: before the first all are; an entry that the first line left
-- asks for does that line; and any other entry does none
pub data Leaves (script : List Line) : List Entry → List Line → Type 0 where
  all : Leaves script [] script
  does : {J : List Entry} {lines : List Line} (e : Entry) → Leaves script J lines → AskFor lines e
      → Leaves script (J ++ e ∷ []) (left_after lines)
  passes : {J : List Entry} {lines : List Line} (e : Entry) → Leaves script J lines → (AskFor lines e → ⊥)
      → Leaves script (J ++ e ∷ []) lines

-- that so many plates are waited for, of which so many are there
abbrev pub plates_wait : ℕ → List ℕ → ℕ → List ℕ → List ℕ
plates_wait n what count verb = codes "it waits for "
    ++ (decimal n ++ (plates n ++ (what ++ (decimal count ++ (verb ++ 10 ∷ [])))))

-- what a trigger that doesn't hold waits for
abbrev pub trigger_wait : List Entry → Trigger → List ℕ
trigger_wait J trigger.Always = codes "its time has come\n"
trigger_wait J (trigger.Admitted n) = plates_wait n (codes " to be admitted, and ") (count_of J).admitted
    (are (count_of J).admitted)
trigger_wait J (trigger.Delivered n) = plates_wait n (codes " to be delivered, and ") (count_of J).delivered
    (are (count_of J).delivered)
trigger_wait J (trigger.Quarantined n) = plates_wait n (codes " to be taken into quarantine, and ")
    (count_of J).quarantined (were (count_of J).quarantined)
trigger_wait J (trigger.Failed m) = codes "it waits for a failure of " ++ (the_machine m ++ 10 ∷ [])

-- what refuses an entry of the operator's, or that nothing does
abbrev pub refusal_line : Option Refusal → List ℕ
refusal_line None = codes "nothing refuses it\n"
refusal_line (Some why) = refusal_sentence why ++ 10 ∷ []

-- that a plate is waited for at a station, which has none
abbrev pub empty_line : Station → List ℕ
empty_line s = codes "it waits for a plate at " ++ (station_name s ++ codes ", and none is there\n")

-- what the clearing of a station waits for: that the entry of its plate isn't refused, or for a plate
abbrev pub clear_wait : BookLimits → List Entry → Station → Option ℕ → List ℕ
clear_wait l J s None = empty_line s
clear_wait l J s (Some k) = refusal_line (first_of l J (Quarantined k s))

-- what a task waits for whose trigger holds, by the run's limits
abbrev pub task_wait : BookLimits → List Entry → Task → List ℕ
task_wait l J (task.Stop m) = refusal_line (first_of l J (StopAsked m))
task_wait l J (task.Clear s) = clear_wait l J s (plate_of J s)
task_wait l J (task.Repair m) = refusal_line (first_of l J (Repaired m))
task_wait l J (task.Expect k) = refusal_line (first_of l J (Expected k))

-- what a line waits for: its trigger, and then its task
abbrev pub line_wait : BookLimits → List Entry → Line → List ℕ
line_wait l J line = if holds J line.when then task_wait l J line.task else trigger_wait J line.when

-- what is told of the first line that isn't done, where there is one: the line of the text, the number of its record,
-- and what it waits for
abbrev pub undone_line : BookLimits → List Entry → ℕ → ℕ → Option Line → List ℕ
undone_line l J at n None = []
undone_line l J at n (Some line) = codes "line "
    ++ (decimal at ++ (codes ", record "
    ++ (decimal n ++ (codes " of the operator's script isn't done: " ++ line_wait l J line))))

-- what is told of the script, of which so many lines are done: the first that isn't, which stands in this line of its
-- text, and what that waits for
abbrev pub waiting_of : BookLimits → List Entry → ℕ → ℕ → List Line → List ℕ
waiting_of l J n at lines = undone_line l J at (n + 1) (slice_get lines n)
