-- The end of a run that is seen when a round is over
use Rattle.std.specs.Prelude.{ℕ, ◌==◌, ◌&&◌, Bool, nat_le, List, length, Option, Some, None, if◌then◌else◌}
use Rattle.cell_types.specs.declared.words.Entry.{Entry}
use Rattle.cell_rules.specs.Views.{count_of}
use Rattle.plate_book.specs.Listed.{on_stations_of}
use Rattle.cell_ports.specs.declared.plan.Plan.{Plan}
use Rattle.cell_method.specs.declared.rounds.DriveEnd.{DriveEnd}
use Rattle.cell_method.specs.declared.rounds.DriveEnd.TheVariants as ends

-- so many plates were admitted, and no station has one
abbrev pub is_finished : ℕ → List Entry → Bool
is_finished plates J = ((count_of J).admitted == plates) && (length (on_stations_of J) == 0)

-- the journal has as many entries as the plan allows
abbrev pub is_full : Plan → List Entry → Bool
is_full p J = nat_le p.journal_limit (length J)

-- the end that this journal gives a run, if it gives one
abbrev pub end_by : Plan → List Entry → Option DriveEnd
end_by p J =
    if is_finished p.plates J then Some ends.Finished else if is_full p J then Some ends.Full else None
