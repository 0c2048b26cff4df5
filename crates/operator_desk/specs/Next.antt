-- What the operator does next
use Rattle.std.specs.Prelude.{Bool, true, nat_le, List, [], ◌∷◌, Option, Some, None, option_map, if◌then◌else◌}
use Rattle.std.specs.Option.{option_and_then}
use Rattle.cell_types.specs.declared.words.Entry.{Entry}
use Rattle.cell_types.specs.declared.words.Entry.TheVariants.{StopAsked, Quarantined, Repaired, Expected}
use Rattle.cell_rules.specs.Views.{count_of, is_failed, plate_of}
use Rattle.cell_rules.specs.History.{History}
use Rattle.cell_rules.specs.Legal.{allowed}
use Rattle.operator_desk.specs.declared.action.Action.{Action}
use Rattle.operator_desk.specs.declared.action.Action.TheVariants as action
use Rattle.operator_desk.specs.declared.line.Line.{Line}
use Rattle.operator_desk.specs.declared.line.Trigger.{Trigger}
use Rattle.operator_desk.specs.declared.line.Trigger.TheVariants as trigger
use Rattle.operator_desk.specs.declared.line.Task.{Task}
use Rattle.operator_desk.specs.declared.line.Task.TheVariants as task

-- the entry by which an action is booked
abbrev pub entry_of : Action → Entry
entry_of (action.Stop m) = StopAsked m
entry_of (action.Clear s k) = Quarantined k s
entry_of (action.Repair m) = Repaired m
entry_of (action.Expect k) = Expected k

-- whether a trigger holds of a journal
unfoldable pub holds : List Entry → Trigger → Bool
holds J trigger.Always = true
holds J (trigger.Admitted n) = nat_le n (count_of J).admitted
holds J (trigger.Delivered n) = nat_le n (count_of J).delivered
holds J (trigger.Quarantined n) = nat_le n (count_of J).quarantined
holds J (trigger.Failed m) = is_failed J m

-- the action of a task: the plate that a station has is taken out, so there is none where it has no plate
unfoldable pub action_of : List Entry → Task → Option Action
action_of J (task.Stop m) = Some (action.Stop m)
action_of J (task.Clear s) = option_map (λ k. action.Clear s k) (plate_of J s)
action_of J (task.Repair m) = Some (action.Repair m)
action_of J (task.Expect k) = Some (action.Expect k)

-- an action, where its entry is allowed
abbrev pub if_allowed : History → Action → Option Action
if_allowed h a = if allowed h.limits h.entries (entry_of a) then Some a else None

-- the action of a line, where its trigger holds and the action's entry is allowed
unfoldable pub action_now : History → Line → Option Action
action_now h line = if holds h.entries line.when then option_and_then (if_allowed h) (action_of h.entries line.task)
    else None

-- what is done next: the action of the first of the lines that aren't done yet
abbrev pub next_of : List Line → History → Option Action
next_of [] h = None
next_of (line ∷ rest) h = action_now h line

-- the lines that are left when the first of them is done
abbrev pub left_after : List Line → List Line
left_after [] = []
left_after (line ∷ rest) = rest
