-- The parts of a machine's time
use Rattle.std.specs.Prelude.{ℕ, List, codes}
use Rattle.cell_measures.specs.declared.measures.Spent.{Spent}
use Rattle.cell_charts.specs.declared.parts.Part.{Part}
use Rattle.cell_charts.specs.declared.parts.Part.TheVariants as part

-- how long a part is
abbrev pub part_time : Spent → Part → ℕ
part_time spent part.Moving = spent.moving
part_time spent part.Holding = spent.holding
part_time spent part.Waiting = spent.waiting
part_time spent part.Failed = spent.failed
part_time spent part.Idle = spent.idle

-- the word of a part
abbrev pub part_word : Part → List ℕ
part_word part.Moving = codes "moving"
part_word part.Holding = codes "holding"
part_word part.Waiting = codes "waiting"
part_word part.Failed = codes "failed"
part_word part.Idle = codes "idle"
