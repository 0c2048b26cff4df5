-- What is told of the limit that ended a run
use Rattle.std.specs.Prelude.{ℕ, List, [], ◌++◌, codes, decimal, length, nat_le, if◌then◌else◌}
use Rattle.cell_types.specs.declared.words.Entry.{Entry}
use Rattle.cell_ports.specs.declared.plan.Plan.{Plan}
use Rattle.cell_workers.specs.declared.ends.End.{End}
use Rattle.cell_workers.specs.declared.ends.End.TheVariants as end

-- the line of a run that found no room: its journal has as many entries as it may, or else no further plate has a
-- number
abbrev pub full_line : Plan → ℕ → List ℕ
full_line plan entries =
    if nat_le plan.journal_limit entries then codes "the journal is full (journal_limit = "
    ++ (decimal plan.journal_limit ++ codes ")\n")
    else codes "no further plate has a number (plates = " ++ (decimal plan.plates ++ codes ")\n")

-- what is told of the limit that ended a run, where one did, by its key in the settings
abbrev pub limit_of : List Entry → End → Plan → List ℕ
limit_of J end.Full plan = full_line plan (length J)
limit_of J end.TurnLimit plan = codes "the turns are used up (turns = " ++ (decimal plan.turns ++ codes ")\n")
limit_of J end.Finished plan = []
limit_of J end.Stalled plan = []
limit_of J end.Memory plan = []
