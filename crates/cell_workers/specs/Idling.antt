-- Who of the seven workers is idle, and how a run ends once all are
use Rattle.std.specs.Prelude.{◌≡◌, ◌&&◌, ℕ, Bool, true, false, not, Option, Some, None, List, slice_set}
use Rattle.std.specs.List.{list_all, list_any, zip}
use Rattle.cell_types.specs.declared.words.Entry.{Entry}
use Rattle.cell_types.specs.declared.words.Machine.{Machine}
use Rattle.cell_types.specs.Same.{machine_number}
use Rattle.cell_workers.specs.declared.ends.End.{End}
use Rattle.cell_workers.specs.declared.ends.End.TheVariants as ends
use Rattle.cell_workers.specs.declared.hall.Ended.{Ended}
use Rattle.cell_workers.specs.declared.hall.Ended.TheVariants as ended
use Rattle.cell_workers.specs.Ends.{IsDone}

-- all are marked as idle
abbrev pub are_all_idle : List Bool → Bool
are_all_idle idle = list_all (λ b. b) idle

-- one is marked as idle whose port isn't lost
abbrev pub is_anyone_idle : List Bool → List Bool → Bool
is_anyone_idle idle lost = list_any (λ p. p.0 && not p.1) (zip idle lost)

-- the marks after a machine's turn: where it booked an entry only those are idle whose ports are lost, and else its own
-- mark alone is set anew
abbrev pub idle_after : Machine → Option Entry → Bool → List Bool → List Bool → List Bool
idle_after m None rests idle lost = slice_set idle (machine_number m) rests
idle_after m (Some e) rests idle lost = lost

-- the end of a run whose workers are all idle: Finished where it is done, and else Stalled
abbrev pub IsEndAtRest : ℕ → List Entry → End → Type 0
IsEndAtRest plates J ends.Finished = IsDone plates J
IsEndAtRest plates J ends.Stalled = ¬ IsDone plates J
IsEndAtRest plates J _ = ⊥

-- such an end is set
pub record EndsAtRest (plates : ℕ) (J : List Entry) (after : Option End) : Type 0 where
  pub end : End
  pub set : after ≡ Some end
  pub fits : IsEndAtRest plates J end

-- where this holds such an end is set, and else the end is as before
pub record EndsWhere (holds : Bool) (plates : ℕ) (J : List Entry) (before after : Option End) : Type 0 where
  pub ends : holds ≡ true → EndsAtRest plates J after
  pub goes_on : holds ≡ false → after ≡ before

-- the run's end once a turn has ended its worker so
abbrev pub end_by : Ended → Option End → Option End
end_by ended.Memory before = Some ends.Memory
end_by ended.Full before = Some ends.Full
end_by _ before = before
