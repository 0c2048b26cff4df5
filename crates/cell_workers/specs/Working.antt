-- What one worker does, turn by turn
use Rattle.std.specs.Prelude.{ℕ, ◌+◌, ◌≡◌, ◌≤◌, ◌&&◌, Bool, false, Option, Some, List, [], ◌∷◌, ◌++◌, length, All}
use Rattle.std.specs.Prelude.{IfSome, is_none, option_to_list, if◌then◌else◌}
use Rattle.cell_types.specs.declared.words.Machine.{Machine}
use Rattle.cell_types.specs.declared.words.Actor.{Actor}
use Rattle.cell_types.specs.declared.words.Actor.TheVariants as actor
use Rattle.cell_types.specs.declared.words.Command.TheVariants.{AllOff}
use Rattle.cell_types.specs.declared.words.Entry.{Entry}
use Rattle.cell_types.specs.Entries.{actor_of}
use Rattle.cell_rules.specs.Views.{count_of}
use Rattle.cell_ledger.specs.Counts.{plus}
use Rattle.cell_ledger.specs.Held.{Held, held}
use Rattle.cell_diagnosis.specs.declared.reading.Reading.{Reading}
use Rattle.cell_ports.specs.declared.plan.Plan.{Plan}
use Rattle.cell_turns.specs.declared.watch.Watch.{Watch}
use Rattle.cell_ports.specs.Logs.{Log}
use Rattle.cell_turns.specs.Sent.{is_command_fault, fails_before, sent_for, command_faults, one_where}
use Rattle.cell_turns.specs.Minds.{has_failed_command}
use Rattle.cell_turns.specs.Turns.{IsExcused}
use Rattle.cell_turns.specs.declared.turns.TurnError.TheVariants.{Refused}
use Rattle.cell_rules.specs.declared.limits.BookLimits.{BookLimits}
use Rattle.cell_rules.specs.declared.refusal.Refusal.{Refusal}
use Rattle.cell_workers.specs.declared.ends.End.{End}
use Rattle.cell_workers.specs.Evidence.{Backed, Backs}
use Rattle.cell_workers.specs.Traces.{Saw}

-- one turn under the lock, at this reading: what was booked, if anything, and what it did to the worker's list, shares
-- and watch. The book is the others' too, and isn't named.
pub record Served (m : Machine) (p : Plan) (r : Option Reading) (e : Option Entry) (es es' : List Entry) (h h' : Held)
    (w w' : Watch) : Type 0 where
  pub entries : es' ≡ es ++ option_to_list e
  pub shares : h' ≡ held h.parts (plus h.counts (count_of (option_to_list e)))
  pub actor : IfSome e (λ x. actor_of x ≡ actor.Machine m)
  pub fault : IfSome e (λ x. is_command_fault x ≡ has_failed_command w)
  pub flag : has_failed_command w' ≡ (is_none e && has_failed_command w)
  pub saw : (got : List (Option Reading)) → Saw m p got w → Saw m p (got ++ r ∷ []) w'
  pub backed : (got : List (Option Reading)) → Saw m p got w → IfSome e (Backed p (got ++ r ∷ []))

-- the journal takes no further entry, or no further plate has a number, and what the machine would do at this reading
-- wants it
abbrev pub IsFullFor : BookLimits → List Entry → Machine → Plan → Option Reading → Watch → Type 0
IsFullFor l J m p r w = (why : Refusal) × IsExcused l J m p r w (Refused why)

-- the entries are the actor's, and the shares grew from `start` by what they count
pub record Serves (a : Actor) (start : Held) (es : List Entry) (now : Held) : Type 0 where
  pub actor : All (λ e. actor_of e ≡ a) es
  pub counts : now ≡ held start.parts (plus start.counts (count_of es))

-- the answers since `before`, k of them, are the evidence of the entries, and the watch saw them
pub record Shown (m : Machine) (p : Plan) (before now : Log) (es : List Entry) (w : Watch) (k : ℕ) : Type 0 where
  pub got : List (Option Reading)
  pub are : now.answers ≡ before.answers ++ got
  pub backs : Backs p got es
  pub saw : Saw m p got w
  pub many : length got ≡ k

-- the same, whatever the watch saw
pub record Answered (p : Plan) (before now : Log) (es : List Entry) (k : ℕ) : Type 0 where
  pub got : List (Option Reading)
  pub are : now.answers ≡ before.answers ++ got
  pub backs : Backs p got es
  pub many : length got ≡ k

-- at a worker's end the commands of its list were sent, without that of the last entry where it failed, and then
-- AllOff, if that didn't fail
pub record SentAll (m : Machine) (before now : Log) (es : List Entry) : Type 0 where
  pub lost : Bool
  pub off : Bool
  pub begins : fails_before lost es ≡ false
  pub sent : now.sent ≡ (before.sent ++ sent_for lost es) ++ (if off then [] else AllOff m ∷ [])
  pub failures : now.failures ≡ (before.failures + (command_faults es + one_where lost)) + one_where off

-- the answers of the call are the evidence of the entries, and at least as many
pub record Evidence (p : Plan) (before now : Log) (es : List Entry) : Type 0 where
  pub got : List (Option Reading)
  pub are : now.answers ≡ before.answers ++ got
  pub backs : Backs p got es
  pub short : length es ≤ length got

-- the end that was set first stands
abbrev pub Stands : Option End → Option End → Type 0
Stands before after = IfSome before (λ e. after ≡ Some e)
