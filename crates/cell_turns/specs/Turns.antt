-- What a turn does
use Rattle.std.specs.Prelude.{ℕ, ◌≡◌, ◌≢◌, ◌&&◌, ◌||◌, Bool, true, false, not, Option, Some, None, List, [], ◌++◌}
use Rattle.std.specs.Prelude.{option_to_list, if◌then◌else◌, ◌⊎◌, IfSome, is_none}
use Rattle.cell_types.specs.declared.words.Machine.{Machine}
use Rattle.cell_types.specs.declared.words.Command.{Command}
use Rattle.cell_types.specs.declared.words.Entry.{Entry}
use Rattle.cell_types.specs.declared.words.Entry.TheVariants.{Arrived, Conveyed, Forged}
use Rattle.std.specs.Option.{option_and_then}
use Rattle.cell_types.specs.Entries.{actor_of, command_of}
use Rattle.cell_types.specs.declared.words.Actor.TheVariants as actor
use Rattle.cell_rules.specs.Views.{is_failed, is_asked, is_admitted, is_quarantined, count_of}
use Rattle.cell_rules.specs.declared.limits.BookLimits.{BookLimits}
use Rattle.cell_rules.specs.declared.refusal.Refusal.{Refusal}
use Rattle.cell_rules.specs.declared.refusal.Refusal.TheVariants.{JournalFull, PlateLimit, OutOfMemory}
use Rattle.cell_rules.specs.History.{History}
use Rattle.cell_rules.specs.Legal.{first_of}
use Rattle.cell_ledger.specs.Counts.{plus}
use Rattle.cell_ledger.specs.Held.{Held, held}
use Rattle.cell_diagnosis.specs.declared.reading.Reading.{Reading}
use Rattle.cell_machines.specs.Candidates.{proposed}
use Rattle.cell_ports.specs.declared.plan.Plan.{Plan}
use Rattle.cell_turns.specs.declared.watch.Memory.{Memory}
use Rattle.cell_turns.specs.declared.turns.TurnError.{TurnError}
use Rattle.cell_turns.specs.declared.turns.TurnError.TheVariants.{OutOfMemory as NoMemory, Refused}
use Rattle.cell_turns.specs.declared.watch.Watch.{Watch}
use Rattle.cell_turns.specs.declared.turns.decide.Ruling.{Ruling}
use Rattle.cell_turns.specs.declared.turns.decide.Ruling.TheVariants.{Nothing, Books, PastLast, Proposes}
use Rattle.cell_turns.specs.Signs.{shows_sign}
use Rattle.cell_turns.specs.Minds.{Mind, FitsMind, has_failed_command, remembered}
use Rattle.cell_turns.specs.Observed.{axis_noted, rest_noted}
use Rattle.cell_turns.specs.Rulings.{ruling}
use Rattle.cell_turns.specs.Sent.{is_command_fault}

-- what is proposed is what the machine does next
abbrev pub IsProposed : BookLimits → List Entry → Machine → ℕ → Option Entry → Type 0
IsProposed l J m plates e = e ≡ proposed l J plates m

-- the entry of a turn by what was decided
abbrev pub IsRuled : BookLimits → List Entry → Machine → ℕ → Ruling → Option Entry → Type 0
IsRuled l J m plates Nothing e = e ≡ None
IsRuled l J m plates (Books x) e = e ≡ Some x
IsRuled l J m plates PastLast e = ⊥
IsRuled l J m plates Proposes e = IsProposed l J m plates e

-- the entry that a turn of m decides on
abbrev pub IsDecided : BookLimits → List Entry → Machine → Plan → Mind → Option Reading → Option Entry → Type 0
IsDecided l J m p s r e = IsRuled l J m p.plates (ruling J m p s r) e

-- the watches begin anew: the machine was booked failed at its last turn and is so no more, and nothing is declared
abbrev pub begins_anew : List Entry → Machine → Memory → Bool
begins_anew J m kept = kept.failed && (not (is_failed J m) && (not kept.command_failed && not (is_asked J m)))

-- whether an entry ends a motion
abbrev pub ends_motion : Option Entry → Bool
ends_motion (Some (Arrived a at)) = true
ends_motion (Some (Conveyed a k dest)) = true
ends_motion (Some (Forged m k)) = true
ends_motion _ = false

-- the reading is the first of a sign's two
abbrev pub opens_sign : List Entry → Machine → Memory → Option Reading → Bool
opens_sign J m kept r = not (begins_anew J m kept) && (not kept.sign && shows_sign J m r)

-- after a turn that booked e, or nothing, and left journal J': a new entry's command isn't known to have failed
abbrev pub memory_after : List Entry → List Entry → Machine → Memory → Option Reading → Option Entry → Memory
memory_after J J' m kept r e = remembered J' m (is_none e && kept.command_failed) (opens_sign J m kept r)

-- after a turn of m at this reading that wasn't refused, with the entry that it booked
unfoldable pub mind_after : List Entry → Machine → Plan → Mind → Option Reading → Option Entry → Mind
mind_after J m p s r e =
    record {
      axis = if begins_anew J m s.memory || ends_motion e then None else axis_noted J m p s.axis r;
      rest = if begins_anew J m s.memory then [] else rest_noted J m s.memory s.rest r;
      memory = memory_after J (J ++ option_to_list e) m s.memory r e;
    }

-- why the book didn't book an entry
abbrev pub IsUnbooked : BookLimits → List Entry → Option Entry → Refusal → Type 0
IsUnbooked l J None why = ⊥
IsUnbooked l J (Some e) why = (why ≡ OutOfMemory → is_quarantined e ≡ true)
    × (why ≢ OutOfMemory → first_of l J e ≡ Some why)

-- the refusals that a turn may meet: the journal has no room, or an Admitted would pass the plate limit
abbrev pub may_meet : Entry → Option Refusal → Bool
may_meet e None = true
may_meet e (Some JournalFull) = true
may_meet e (Some PlateLimit) = is_admitted e
may_meet e (Some _) = false

-- a turn of m is refused: the plates' numbers have run out, or the book refuses the entry that was decided
pub record IsRefused (l : BookLimits) (J : List Entry) (m : Machine) (p : Plan) (s : Mind) (r : Option Reading)
    (why : Refusal) : Type 0 where
  pub entry : Entry
  pub decided : IsDecided l J m p s r (Some entry)
  pub first : first_of l J entry ≡ Some why
  pub expected : may_meet entry (Some why) ≡ true

abbrev pub IsTurnedAway : BookLimits → List Entry → Machine → Plan → Mind → Option Reading → Refusal → Type 0
IsTurnedAway l J m p s r why =
    ((ruling J m p s r ≡ PastLast) × (why ≡ PlateLimit)) ⊎ IsRefused l J m p s r why

-- why a turn answers an error: the list can't grow, or the turn is refused for want of room
abbrev pub IsExcused : BookLimits → List Entry → Machine → Plan → Option Reading → Watch → TurnError → Type 0
IsExcused l J m p r w (Refused why) =
    ((s : Mind) → FitsMind w s → IsTurnedAway l J m p s r why) × ((why ≡ JournalFull) ⊎ (why ≡ PlateLimit))
IsExcused l J m p r w NoMemory = Unit {0}

-- a turn of m that wasn't refused, and booked e: why, and what it did
pub record TurnBooks (m : Machine) (p : Plan) (r : Option Reading) (e : Option Entry) (before after : History)
    (es es' : List Entry) (h h' : Held) (w w' : Watch) : Type 0 where
  pub decided : (s : Mind) → FitsMind w s → IsDecided before.limits before.entries m p s r e
  pub actor : IfSome e (λ x. actor_of x ≡ actor.Machine m)
  pub allowed : IfSome e (λ x. first_of before.limits before.entries x ≡ None)
  pub journal : after ≡ record { limits = before.limits; entries = before.entries ++ option_to_list e }
  pub list : es' ≡ es ++ option_to_list e
  pub shares : h' ≡ held h.parts (plus h.counts (count_of (option_to_list e)))
  pub fits : (s : Mind) → FitsMind w s → FitsMind w' (mind_after before.entries m p s r e)
  pub fault : IfSome e (λ x. is_command_fault x ≡ has_failed_command w)
  pub flag : has_failed_command w' ≡ (is_none e && has_failed_command w)

-- a turn of m that answered c: what it booked, if anything, and what it did
pub record Turned (m : Machine) (p : Plan) (r : Option Reading) (c : Option Command) (before after : History)
    (es es' : List Entry) (h h' : Held) (w w' : Watch) : Type 0 where
  pub booked : Option Entry
  pub decided : (s : Mind) → FitsMind w s → IsDecided before.limits before.entries m p s r booked
  pub actor : IfSome booked (λ e. actor_of e ≡ actor.Machine m)
  pub allowed : IfSome booked (λ e. first_of before.limits before.entries e ≡ None)
  pub command : c ≡ option_and_then command_of booked
  pub journal : after ≡ record { limits = before.limits; entries = before.entries ++ option_to_list booked }
  pub list : es' ≡ es ++ option_to_list booked
  pub shares : h' ≡ held h.parts (plus h.counts (count_of (option_to_list booked)))
  pub fits : (s : Mind) → FitsMind w s → FitsMind w' (mind_after before.entries m p s r booked)
