-- What the operator does where a method commands the simulated cell: there is no book, so his script goes by the world
use Rattle.std.specs.Prelude.{◌≡◌, ◌+◌, ⊤, Result, Ok, Err, Vec, position}
use Rattle.std.specs.Prelude.{ℕ, Bool, true, false, nat_le, List, [], ◌∷◌, Option, Some, None, option_map, codes}
use Rattle.std.specs.Prelude.{decimal, if◌then◌else◌}
use Rattle.std.specs.Global.{Global}
use Rattle.cell_rows.specs.Lines.{line}
use Rattle.cell_rows.specs.declared.script.LineError.{LineError}
use Rattle.cell_rows.specs.declared.script.LineError.TheVariants as error
use Rattle.cell_types.specs.Texts.{machine_word, station_word}
use Rattle.cell_ports.specs.declared.port.Act.TheVariants as act
use Rattle.operator_desk.specs.declared.line.Line.{Line}
use Rattle.operator_desk.specs.declared.line.Trigger.{Trigger}
use Rattle.operator_desk.specs.declared.line.Trigger.TheVariants as trigger
use Rattle.operator_desk.specs.declared.line.Task.{Task}
use Rattle.operator_desk.specs.declared.line.Task.TheVariants as task
use Rattle.cell_sim.specs.Hands.{after_hand}
use Rattle.cell_sim.specs.Parts.{plate_at}
use Rattle.cell_sim.specs.Simulated.{Simulated}
use Rattle.cell_drive.specs.declared.hands.Deed.{Deed}
use Rattle.cell_drive.specs.declared.hands.Deed.TheVariants as deed

-- a line says that a plate will be laid back
abbrev pub is_expecting : Line → Bool
is_expecting l = elim (l.task) as (λ _. Bool) [ task.Expect k ↦ true | _ ↦ false ]

-- a script of the operator was read for a run by commands: none of its lines says that a plate will be laid back, or
-- the first that does is named, counted from 1
abbrev pub IsRead : List Line → Result (Vec Line Global) LineError → Type 0
IsRead script (Ok lines) = (position is_expecting script ≡ None) × (lines.items ≡ script)
IsRead script (Err (error.Unreadable place)) =
    (before : ℕ) × (position is_expecting script ≡ Some before) × (place ≡ before + 1)
IsRead script (Err error.OutOfMemory) = ⊤
IsRead script (Err error.TooManyLines) = ⊥

-- a trigger goes by what the world counts; no failure is booked there
abbrev pub is_due : Simulated → Trigger → Bool
is_due w trigger.Always = true
is_due w (trigger.Admitted n) = nat_le n w.laid
is_due w (trigger.Delivered n) = nat_le n w.taken_out
is_due w (trigger.Quarantined n) = nat_le n w.removed
is_due w (trigger.Failed m) = false

-- what a task is now; a station is cleared of the plate that it has, and not before it has one
abbrev pub deed_of : Simulated → Task → Option Deed
deed_of w (task.Stop m) = Some (deed.Stop m)
deed_of w (task.Clear s) = option_map (λ k. deed.Clear s k) (plate_at w s)
deed_of w (task.Repair m) = Some (deed.Repair m)
deed_of w (task.Expect k) = Some deed.Nothing

-- what he does now by a line
abbrev pub deed_by : Simulated → Line → Option Deed
deed_by w l = if is_due w l.when then deed_of w l.task else None

-- what he does next, by the first line that isn't done yet
abbrev pub next_deed : Simulated → List Line → Option Deed
next_deed w [] = None
next_deed w (l ∷ rest) = deed_by w l

-- the world after it: a stop is only asked for
abbrev pub after_deed : Deed → Simulated → Simulated
after_deed (deed.Clear s k) w = after_hand w (act.Remove s)
after_deed (deed.Repair m) w = after_hand w (act.Home m)
after_deed _ w = w

-- what the method is told of it
abbrev pub deed_line : Deed → List ℕ
deed_line (deed.Stop m) = line (codes "stop_asked" ∷ machine_word m ∷ [] ∷ [] ∷ [])
deed_line (deed.Clear s k) = line (codes "quarantined" ∷ decimal k ∷ station_word s ∷ [] ∷ [])
deed_line (deed.Repair m) = line (codes "repaired" ∷ machine_word m ∷ [] ∷ [] ∷ [])
deed_line deed.Nothing = []

abbrev pub told_of : Option Deed → List ℕ
told_of None = []
told_of (Some d) = deed_line d
