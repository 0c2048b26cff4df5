-- The line of four fields
use Rattle.std.specs.Prelude.{ℕ, ◌==◌, List, length, Option, Some, None, option_map, if◌then◌else◌, codes}
use Rattle.std.specs.Str.{bytes_eq}
use Rattle.cell_rows.specs.Scripts.{Reading}
use Rattle.cell_types.specs.Numbers.{plate_of}
use Rattle.cell_types.specs.Texts.{machine_named, station_named}
use Rattle.operator_desk.specs.declared.line.Line.{Line}
use Rattle.operator_desk.specs.declared.line.Trigger.{Trigger}
use Rattle.operator_desk.specs.declared.line.Trigger.TheVariants as trigger
use Rattle.operator_desk.specs.declared.line.Task.{Task}
use Rattle.operator_desk.specs.declared.line.Task.TheVariants as task

-- the number of plates that a text writes in decimal digits, with no sign and no leading zero, 0 to 100,000
abbrev pub total_of : List ℕ → Option ℕ
total_of bs = if bytes_eq bs (codes "0") then Some 0 else plate_of bs

-- the trigger of a word and what it names: nothing, a number of plates, or a machine
unfoldable pub trigger_of : List ℕ → List ℕ → Option Trigger
trigger_of word bound =
    if bytes_eq word (codes "always") then (if length bound == 0 then Some trigger.Always else None)
    else if bytes_eq word (codes "admitted") then option_map (λ n. trigger.Admitted n) (total_of bound)
    else if bytes_eq word (codes "delivered") then option_map (λ n. trigger.Delivered n) (total_of bound)
    else if bytes_eq word (codes "quarantined") then option_map (λ n. trigger.Quarantined n) (total_of bound)
    else if bytes_eq word (codes "failed") then option_map (λ m. trigger.Failed m) (machine_named bound)
    else None

-- the task of a word and the machine, station or plate that it names
unfoldable pub task_of : List ℕ → List ℕ → Option Task
task_of word argument =
    if bytes_eq word (codes "stop") then option_map (λ m. task.Stop m) (machine_named argument)
    else if bytes_eq word (codes "clear") then option_map (λ s. task.Clear s) (station_named argument)
    else if bytes_eq word (codes "repair") then option_map (λ m. task.Repair m) (machine_named argument)
    else if bytes_eq word (codes "expect") then option_map (λ k. task.Expect k) (plate_of argument)
    else None

abbrev pub both : Option Trigger → Option Task → Option Line
both (Some t) (Some a) = Some (record { when = t; task = a })
both _ _ = None

-- the line of four fields, whatever lines come before it
abbrev pub line_of : Reading Line
line_of before when bound action argument = both (trigger_of when bound) (task_of action argument)
