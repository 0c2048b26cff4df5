-- What a cell is asked in a run, and what it answers
use Rattle.std.specs.Prelude.{Bool, Option, Result}
use Rattle.cell_types.specs.declared.words.Command.{Command}
use Rattle.cell_types.specs.declared.words.Machine.{Machine}
use Rattle.cell_rules.specs.declared.refusal.Refusal.{Refusal}
use Rattle.cell_diagnosis.specs.declared.reading.Reading.{Reading}
use Rattle.cell_ports.specs.declared.port.Act.{Act}
use Rattle.operator_desk.specs.declared.line.Task.{Task}
use Rattle.cell_plant.specs.declared.gone.Gone.{Gone}
use Rattle.cell_plant.specs.declared.desk.Reply.{Reply}
use Rattle.cell_plant.specs.declared.desk.Wish.{Wish}

-- a round was opened, or closed, unless the cell can't be reached any more; a machine showed this; a command was sent,
-- or an act done by hand: it was carried out, or it wasn't, or that isn't known; this was done at the cell, or nothing
-- more; the book refuses what was done; this is wanted there, or nothing more; and a wish was answered
pub data Asked : Type 0 where
  Opened : Bool → Asked
  Shown : Machine → Option Reading → Asked
  Ordered : Machine → Command → Result Bool Gone → Asked
  Handed : Act → Result Bool Gone → Asked
  Acted : Option Task → Asked
  Refused : Task → Refusal → Asked
  Wished : Option Wish → Asked
  Replied : Reply → Bool → Asked
  Closed : Bool → Asked
