-- Journals in which only some machines are declared failed, and those in which none is
use Rattle.std.specs.Prelude.{ℕ, ◌*◌, ◌+◌, ◌<◌, ◌≤◌, Bool, true, false, not, List, map}
use Rattle.std.specs.List.{list_any}
use Rattle.cell_types.specs.declared.words.Machine.{Machine}
use Rattle.cell_types.specs.declared.words.Cause.TheVariants as cause
use Rattle.cell_types.specs.declared.words.Entry.{Entry}
use Rattle.cell_types.specs.declared.words.Entry.TheVariants.{Declared, Quarantined, Repaired, StopAsked}
use Rattle.cell_types.specs.Cell.{machine_of_station}
use Rattle.cell_rules.specs.declared.limits.BookLimits.{BookLimits}
use Rattle.cell_progress.specs.Rank.{most_failures}

-- the entry declares a machine failed that isn't one of those that may fail, asks one to stop, or clears or repairs one
-- of those that may
abbrev pub disturbs_but : (Machine → Bool) → Entry → Bool
disturbs_but may (Declared m why) = not (may m)
disturbs_but may (StopAsked m) = true
disturbs_but may (Quarantined k src) = may (machine_of_station src)
disturbs_but may (Repaired m) = may m
disturbs_but may _ = false

-- only machines that may fail are declared failed, none is asked to stop, and nobody clears or repairs one that may
abbrev pub fails_only : (Machine → Bool) → List Entry → Bool
fails_only may J = not (list_any (disturbs_but may) J)

-- no machine may fail
abbrev pub none_may : Machine → Bool
none_may m = false

-- the entry declares a machine failed, or asks it to stop
abbrev pub disturbs : Entry → Bool
disturbs = disturbs_but none_may

abbrev pub is_calm : List Entry → Bool
is_calm J = fails_only none_may J

-- the entry as orders of events have it, where each failure is that of a command
abbrev pub plain_entry : Entry → Entry
plain_entry (Declared m why) = Declared m cause.CommandFault
plain_entry e = e

-- the journal, whatever the causes of its failures
abbrev pub plain : List Entry → List Entry
plain J = map plain_entry J

-- the limits leave room for the plan: more than 76 entries for each plate, and as many plates
pub record HasRoom (l : BookLimits) (plan : ℕ) : Type 0 where
  pub entries : 76 * plan < l.entries
  pub plates : plan ≤ l.plates

-- and for ten entries more, as many as the failure of a press may bring
pub record HasRoomToFail (l : BookLimits) (plan : ℕ) : Type 0 where
  pub entries : 76 * plan + 10 < l.entries
  pub plates : plan ≤ l.plates

-- and for as many as the failures of these machines may bring
pub record HasRoomFor (may : Machine → Bool) (l : BookLimits) (plan : ℕ) : Type 0 where
  pub entries : 76 * plan + most_failures may < l.entries
  pub plates : plan ≤ l.plates
