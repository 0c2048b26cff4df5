-- What one step does, whatever the watches fit
use Rattle.std.specs.Prelude.{◌≡◌, Bool, true, Option, None, List, ◌++◌, option_to_list, is_some, IfSome}
use Rattle.std.specs.Option.{option_and_then}
use Rattle.std.specs.Borrow.{MutBor}
use Rattle.cell_types.specs.declared.words.Machine.{Machine}
use Rattle.cell_types.specs.declared.words.Actor.{Actor}
use Rattle.cell_types.specs.declared.words.Entry.{Entry}
use Rattle.cell_types.specs.Entries.{actor_of, command_of}
use Rattle.cell_rules.specs.Views.{count_of}
use Rattle.cell_rules.specs.declared.refusal.Refusal.{Refusal}
use Rattle.cell_rules.specs.History.{History}
use Rattle.cell_rules.specs.Legal.{first_of}
use Rattle.cell_ledger.specs.Counts.{plus}
use Rattle.cell_ledger.specs.Held.{Held, held}
use Rattle.cell_diagnosis.specs.declared.reading.Reading.{Reading}
use Rattle.cell_ports.specs.declared.plan.Plan.{Plan}
use Rattle.cell_turns.specs.declared.watch.Watch.{Watch}
use Rattle.cell_turns.specs.Minds.{Mind, FitsMind}
use Rattle.cell_turns.specs.Turns.{IsDecided, IsTurnedAway, mind_after}
use Rattle.cell_turns.specs.Schedules.{mind_sent}

-- the same is lent as before
abbrev pub IsSameLoan : {A : Type 0} → MutBor A → MutBor A → Type 0
IsSameLoan old new = new.ghost_name ≡ old.ghost_name

-- a turn of m that wasn't refused, and its command
pub record TurnedAt (p : Plan) (m : Machine) (r : Option Reading) (before after : History) (w w' : Watch) : Type 0 where
  pub booked : Option Entry
  pub lost : Bool
  pub decided : (s : Mind) → FitsMind w s → IsDecided before.limits before.entries m p s r booked
  pub allowed : IfSome booked (λ e. first_of before.limits before.entries e ≡ None)
  pub commanded : lost ≡ true → is_some (option_and_then command_of booked) ≡ true
  pub journal : after ≡ record { limits = before.limits; entries = before.entries ++ option_to_list booked }
  pub fits : (s : Mind) → FitsMind w s → FitsMind w' (mind_sent lost (mind_after before.entries m p s r booked))

-- a turn of m that was refused
pub record TurnedAway (p : Plan) (m : Machine) (r : Option Reading) (before after : History) (w w' : Watch) : Type 0
  where
    pub why : Refusal
    pub away : (s : Mind) → FitsMind w s → IsTurnedAway before.limits before.entries m p s r why
    pub journal : after ≡ before
    pub watch : w' ≡ w

-- at most one entry, of this actor, was booked, listed and counted
pub record GrewBy (a : Actor) (before after : History) (h h' : Held) (es es' : List Entry) : Type 0 where
  pub booked : Option Entry
  pub actor : IfSome booked (λ e. actor_of e ≡ a)
  pub journal : after ≡ record { limits = before.limits; entries = before.entries ++ option_to_list booked }
  pub list : es' ≡ es ++ option_to_list booked
  pub shares : h' ≡ held h.parts (plus h.counts (count_of (option_to_list booked)))
