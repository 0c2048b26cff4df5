-- How the end of a run is shown in a chart
use Rattle.std.specs.Prelude.{◌==◌, ℕ, Bool, List, codes}
use Rattle.cell_workers.specs.declared.ends.End.{End}
use Rattle.cell_workers.specs.declared.ends.End.TheVariants as end
use Rattle.cell_charts.specs.declared.sweep.Square.{Square}

-- the word of an end, as runs tell it
abbrev pub end_word : End → List ℕ
end_word end.Finished = codes "finished"
end_word end.Stalled = codes "stalled"
end_word end.TurnLimit = codes "turn limit"
end_word end.Memory = codes "memory"
end_word end.Full = codes "full"

-- an end's place among the ends
abbrev pub end_place : End → ℕ
end_place end.Finished = 0
end_place end.Stalled = 1
end_place end.TurnLimit = 2
end_place end.Memory = 3
end_place end.Full = 4

-- a run had this end
abbrev pub has_end : End → Square → Bool
has_end end square = end_place square.end == end_place end
