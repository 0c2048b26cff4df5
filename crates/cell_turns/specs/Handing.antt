-- What becomes of an entry that the operator is to book
use Rattle.std.specs.Prelude.{◌≡◌, ◌≢◌, ◌⊎◌, true, false, Option, Some, None, List, is_some}
use Rattle.cell_types.specs.declared.words.Actor.TheVariants as actor
use Rattle.cell_types.specs.declared.words.Entry.{Entry}
use Rattle.cell_types.specs.Entries.{actor_of}
use Rattle.cell_rules.specs.declared.limits.BookLimits.{BookLimits}
use Rattle.cell_rules.specs.Legal.{first_of}
use Rattle.cell_turns.specs.declared.schedule.Handed.{Handed}
use Rattle.cell_turns.specs.declared.schedule.Handed.TheVariants.{Spared, Failed, Booked}
use Rattle.cell_ports.specs.Logs.{ActLog, after_hand}
use Rattle.cell_turns.specs.Acts.{act_of}

-- an entry of the operator that the book allows
pub record IsHis (l : BookLimits) (J : List Entry) (e : Entry) : Type 0 where
  pub actor : actor_of e ≡ actor.Operator
  pub allowed : first_of l J e ≡ None

-- nothing is done for it: it isn't the operator's, or the book refuses it
abbrev pub IsSpared : BookLimits → List Entry → Entry → Type 0
IsSpared l J e = (actor_of e ≢ actor.Operator) ⊎ (is_some (first_of l J e) ≡ true)

-- why this became of it: an act by hand that failed, or that was done, was wanted
abbrev pub IsHanded : BookLimits → List Entry → Entry → Handed → Type 0
IsHanded l J e Spared = IsSpared l J e
IsHanded l J e Failed = IsHis l J e × (is_some (act_of e) ≡ true)
IsHanded l J e Booked = IsHis l J e

abbrev pub handed_entry : Handed → Entry → Option Entry
handed_entry Booked e = Some e
handed_entry _ e = None

abbrev pub handed_log : Handed → ActLog → Entry → ActLog
handed_log Spared log e = log
handed_log Failed log e = after_hand log (act_of e) false
handed_log Booked log e = after_hand log (act_of e) true
