-- What the operator's worker does of his script, and what his hands did for his list of entries
use Rattle.std.specs.Prelude.{◌≡◌, ◌≢◌, ◌+◌, ◌⊎◌, ⊤, true, Some, is_some, List, [], ◌∷◌, ◌++◌}
use Rattle.cell_types.specs.declared.words.Entry.{Entry}
use Rattle.cell_ports.specs.declared.port.Act.{Act}
use Rattle.cell_ports.specs.Logs.{ActLog}
use Rattle.cell_turns.specs.Acts.{act_of, hands}
use Rattle.cell_workers.specs.declared.hall.Ended.{Ended}
use Rattle.cell_workers.specs.declared.hall.Ended.TheVariants.{Told, Memory, Full, PortLost}
use Rattle.operator_desk.specs.Next.{entry_of, left_after, next_of}
use Rattle.operator_desk.specs.declared.action.Action.{Action}
use Rattle.operator_desk.specs.declared.line.Line.{Line}
use Rattle.cell_rules.specs.History.{History}
use Rattle.cell_rules.specs.Views.{is_quarantined}
use Rattle.cell_rules.specs.Legal.{first_of, legal}
use Rattle.cell_rules.specs.declared.limits.BookLimits.{BookLimits}
use Rattle.cell_rules.specs.declared.refusal.Refusal.{Refusal}
use Rattle.cell_rules.specs.declared.refusal.Refusal.TheVariants.{JournalFull}

-- on some journal that is legal within the limits, the lines that aren't done yet give an action that is booked by this
-- entry
pub record IsDue (l : BookLimits) (lines : List Line) (e : Entry) : Type 0 where
  pub history : History
  pub within : history.limits ≡ l
  pub lawful : legal history.limits history.entries ≡ true
  pub action : Action
  pub next : next_of lines history ≡ Some action
  pub booked : e ≡ entry_of action

-- the entries are those of the lines, in their order: each was due, and its line was done then
abbrev pub Follows : BookLimits → List Line → List Entry → Type 0
Follows l lines [] = ⊤
Follows l lines (e ∷ es) = IsDue l lines e × Follows l (left_after lines) es

-- the lines that aren't done after so many entries
abbrev pub left_by : List Line → List Entry → List Line
left_by lines [] = lines
left_by lines (e ∷ es) = left_by (left_after lines) es

-- so far the entries are those of the lines, and these are left
pub record Followed (l : BookLimits) (lines : List Line) (es : List Entry) (rest : List Line) : Type 0 where
  pub follows : Follows l lines es
  pub left : rest ≡ left_by lines es

-- on some journal that is legal within the limits, the entry is refused by this
pub record IsRefusedBy (l : BookLimits) (e : Entry) (why : Refusal) : Type 0 where
  pub history : History
  pub within : history.limits ≡ l
  pub lawful : legal history.limits history.entries ≡ true
  pub refused : first_of history.limits history.entries e ≡ Some why

-- the end by which the refusal of a booking is told, once the list has a place for the entry: only the quarantine wants
-- memory then, Full is the refusal by a full journal, and PortLost any other. The journals of the last two aren't tied
-- to the run's book.
abbrev pub RefusedAs : BookLimits → Entry → Ended → Type 0
RefusedAs l e Memory = is_quarantined e ≡ true
RefusedAs l e Full = IsRefusedBy l e JournalFull
RefusedAs l e PortLost = (why : Refusal) × (why ≢ JournalFull) × IsRefusedBy l e why
RefusedAs l e _ = ⊥

-- from one log to another exactly the acts of these entries were done, and none failed
pub record DidHands (before now : ActLog) (es : List Entry) : Type 0 where
  pub acts : now.acts ≡ before.acts ++ hands es
  pub failures : now.failures ≡ before.failures

-- exactly these, and then the act of an entry that was due with these lines left failed
pub record FailedHands (l : BookLimits) (left : List Line) (before now : ActLog) (es : List Entry) : Type 0 where
  pub entry : Entry
  pub due : IsDue l left entry
  pub wanted : is_some (act_of entry) ≡ true
  pub acts : now.acts ≡ before.acts ++ hands es
  pub failures : now.failures ≡ before.failures + 1

-- these, and the act of an entry that was due with these lines left; none failed, and the booking of that entry was
-- refused
pub record WastedHand (l : BookLimits) (left : List Line) (before now : ActLog) (es : List Entry) (ended : Ended) : Type
    0 where
  pub entry : Entry
  pub due : IsDue l left entry
  pub act : Act
  pub wanted : act_of entry ≡ Some act
  pub acts : now.acts ≡ (before.acts ++ hands es) ++ act ∷ []
  pub failures : now.failures ≡ before.failures
  pub refused : RefusedAs l entry ended

-- at the end of his worker the acts of its list were done: exactly these, and then he was told to end or refused
-- memory; or these, and then the act of the next line's entry failed, and it ended as PortLost; or these and the act of
-- the next line's entry, whose booking was refused
abbrev pub HandsEnded : BookLimits → List Line → ActLog → ActLog → List Entry → Ended → Type 0
HandsEnded l lines before now es ended =
    (DidHands before now es × ((ended ≡ Told) ⊎ (ended ≡ Memory)))
    ⊎ (FailedHands l (left_by lines es) before now es × (ended ≡ PortLost))
    ⊎ WastedHand l (left_by lines es) before now es ended
