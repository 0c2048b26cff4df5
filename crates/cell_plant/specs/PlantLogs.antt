-- What ports and hands as one cell tell that they were asked
use Rattle.std.specs.Prelude.{◌≡◌, ◌&&◌, Bool, true, false, Option, Some, Ok, Err}
use Rattle.cell_types.specs.declared.words.Command.{Command}
use Rattle.cell_types.specs.declared.words.Machine.{Machine}
use Rattle.cell_diagnosis.specs.declared.reading.Reading.{Reading}
use Rattle.cell_ports.specs.Logs.{ActLog, Log, after_act, after_command, after_read}
use Rattle.cell_ports.specs.declared.port.Act.{Act}
use Rattle.cell_turns.specs.Six.{at, put}
use Rattle.cell_turns.specs.declared.six.Six.{Six}
use Rattle.cell_plant.specs.Asked.{Acted, Asked, Closed, Handed, Opened, Ordered, Replied, Shown, Wished}

-- what each machine answered to its reads and was sent, and what was done by hand
pub record PlantLog : Type 0 where
  pub machines : Six Log
  pub hands : ActLog

abbrev pub plant_log : Six Log → ActLog → PlantLog
plant_log machines hands = record { machines = machines; hands = hands }

abbrev pub after_reading : PlantLog → Machine → Option Reading → PlantLog
after_reading log m r = record log { machines = put log.machines m (after_read (at log.machines m) r) }

abbrev pub after_order : PlantLog → Machine → Command → Bool → PlantLog
after_order log m c ok = record log { machines = put log.machines m (after_command (at log.machines m) c ok) }

abbrev pub after_hands : PlantLog → Act → Bool → PlantLog
after_hands log a ok = record log { hands = after_act log.hands a ok }

-- the cell is always reached, and nobody does or wants anything there
abbrev pub is_ported : Asked → Bool
is_ported (Opened ok) = ok
is_ported (Ordered m c (Err e)) = false
is_ported (Handed a (Err e)) = false
is_ported (Acted (Some task)) = false
is_ported (Wished (Some wish)) = false
is_ported (Replied reply ok) = ok
is_ported (Closed ok) = ok
is_ported _ = true

-- what was asked led from one log to the other
abbrev pub Logs : PlantLog → PlantLog → Asked → Type 0
Logs old new (Shown m r) = new ≡ after_reading old m r
Logs old new (Ordered m c (Ok ok)) = new ≡ after_order old m c ok
Logs old new (Handed a (Ok ok)) = new ≡ after_hands old a ok
Logs old new asked = new ≡ old

-- so ports and hands answer as one cell, and tell so if all of them tell; what ceased to tell doesn't begin again
abbrev pub Tells : Bool → Bool → PlantLog → PlantLog → Asked → Type 0
Tells tells tells' old new asked =
    (is_ported asked ≡ true) × (tells' ≡ true → (tells ≡ true) × Logs old new asked)

-- all six tell
abbrev pub all_tell : {P : Type 0} → (P → Bool) → Six P → Bool
all_tell tells ports =
    tells ports.feed && (tells ports.table && (tells ports.robot
    && (tells ports.press1 && (tells ports.press2 && tells ports.deposit))))
