-- How a run of the simulated cell begins and ends: its first line, the line of its end, and its status
use Rattle.std.specs.Prelude.{◌≡◌, ◌⊎◌, ◌++◌, ℕ, List, [], ◌∷◌, codes, decimal}
use Rattle.cell_rows.specs.Lines.{line}
use Rattle.cell_types.specs.declared.words.Totals.{Totals}
use Rattle.cell_ports.specs.declared.plan.Plan.{Plan}
use Rattle.cell_method.specs.declared.rounds.DriveEnd.{DriveEnd}
use Rattle.cell_method.specs.declared.rounds.DriveEnd.TheVariants as ends
use Rattle.cell_runs.specs.Runs.{counts_after}

-- the first line of the protocol
abbrev pub drive_line : Plan → List ℕ
drive_line plan = line (codes "drive" ∷ codes "1" ∷ decimal plan.plates ∷ [] ∷ [])

-- the words of an end
abbrev pub end_words : DriveEnd → List ℕ
end_words ends.Finished = codes "finished"
end_words ends.TurnLimit = codes "turn limit"
end_words ends.Full = codes "full"
end_words ends.Quit = codes "quit"
end_words ends.TooManyLines = codes "too many lines"
end_words ends.Memory = codes "memory"

-- the line of an end, and the lines of these totals
abbrev pub end_lines : DriveEnd → Totals → List ℕ
end_lines e t = counts_after (codes "end," ++ (end_words e ++ codes ",,")) t

-- a run that ended so has this status: 0 is only of one that is finished
abbrev pub EndStatus : DriveEnd → ℕ → Type 0
EndStatus ends.Finished status = (status ≡ 0) ⊎ (status ≡ 1)
EndStatus ends.Memory status = status ≡ 4
EndStatus _ status = status ≡ 1
