-- What a line of a cell says, by its record
use Rattle.std.specs.Prelude.{ℕ, ◌==◌, Bool, true, false, List, [], ◌∷◌, Option, Some, None, codes, if◌then◌else◌}
use Rattle.std.specs.Str.{bytes_eq}
use Rattle.cell_types.specs.Limits.{max_plates}
use Rattle.cell_types.specs.Numbers.{number_to}
use Rattle.cell_types.specs.Texts.{find_word, machine_named, station_named}
use Rattle.cell_types.specs.declared.words.Machine.{Machine}
use Rattle.cell_types.specs.declared.words.Station.{Station}
use Rattle.cell_diagnosis.specs.declared.reading.Reading.{Reading}
use Rattle.operator_desk.specs.Lines.{task_of}
use Rattle.operator_desk.specs.declared.line.Task.{Task}
use Rattle.operator_desk.specs.declared.line.Task.TheVariants as task
use Rattle.line_reader.specs.Lines.{Row}
use Rattle.cell_lines.specs.Shown.{reading_of}
use Rattle.cell_lines.specs.declared.said.Answer.TheVariants as answer
use Rattle.cell_lines.specs.declared.said.Heading.{Heading}
use Rattle.cell_lines.specs.declared.said.Heading.TheVariants as heading
use Rattle.cell_lines.specs.declared.said.Said.{Said}
use Rattle.cell_lines.specs.declared.said.Said.TheVariants as said

-- the first word of a line
abbrev pub heading_word : Heading → List ℕ
heading_word heading.Reading = codes "reading"
heading_word heading.Missing = codes "missing"
heading_word heading.Round = codes "round"
heading_word heading.Done = codes "ok"
heading_word heading.Failed = codes "failed"
heading_word heading.Unreadable = codes "unreadable"
heading_word heading.Wish = codes "operator"
heading_word heading.Stopped = codes "stop_asked"
heading_word heading.Repaired = codes "repaired"
heading_word heading.Cleared = codes "quarantined"
heading_word heading.Synced = codes "synced"
heading_word heading.First = codes "drive"
heading_word heading.End = codes "end"

-- the headings that are looked for last
abbrev pub later_headings : List Heading
later_headings = heading.Wish ∷ heading.Stopped ∷ heading.Repaired ∷ heading.Cleared ∷ heading.Synced ∷ heading.First
    ∷ heading.End ∷ []

abbrev pub all_heading : List Heading
all_heading = heading.Reading ∷ heading.Missing ∷ heading.Round ∷ heading.Done ∷ heading.Failed ∷ heading.Unreadable
    ∷ later_headings

-- the heading whose word a text is
abbrev pub heading_named : List ℕ → Option Heading
heading_named bs = find_word heading_word all_heading bs

-- a machine's reading, or that its line can't be read
abbrev pub shown_or_garbled : Machine → Option Reading → Said
shown_or_garbled m (Some r) = said.Shows m r
shown_or_garbled m None = said.Garbled m

-- what a machine shows
abbrev pub shown_by : Option Machine → List ℕ → List ℕ → Said
shown_by (Some m) switches presence = shown_or_garbled m (reading_of m switches presence)
shown_by None switches presence = said.Nothing

-- which machine's reading is missing
abbrev pub missing_of : Option Machine → Said
missing_of (Some m) = said.Missing m
missing_of None = said.Nothing

-- what someone at the cell wants; the last field is blank
abbrev pub wish_of : Option Task → List ℕ → Said
wish_of (Some t) [] = said.Wishes t
wish_of _ _ = said.WishesUnread

-- what someone at the cell did: he stopped a machine, repaired one, or took out what stood at a station
abbrev pub stop_of : Option Machine → Said
stop_of (Some m) = said.Did (task.Stop m)
stop_of None = said.Nothing

abbrev pub repair_of : Option Machine → Said
repair_of (Some m) = said.Did (task.Repair m)
repair_of None = said.Nothing

abbrev pub clear_of : Option Station → Said
clear_of (Some s) = said.Did (task.Clear s)
clear_of None = said.Nothing

-- the greatest number of a line that isn't a number of plates
abbrev pub most : ℕ
most = 9999999

-- a number from 0 on
abbrev pub count_of : List ℕ → Option ℕ
count_of bs = if bytes_eq bs (codes "0") then Some 0 else number_to most bs

-- the length of the journal whose run was found again
abbrev pub synced_of : Option ℕ → Said
synced_of (Some n) = said.Synced n
synced_of None = said.Nothing

-- the version of the protocol, and how many plates the cell plans, if it says that
abbrev pub first_of : Option ℕ → Option ℕ → Said
first_of (Some version) plates = said.First version plates
first_of None plates = said.Nothing

-- what a line of this heading says by its other fields
abbrev pub said_by : Heading → List ℕ → List ℕ → List ℕ → Said
said_by heading.Reading second third fourth = shown_by (machine_named second) third fourth
said_by heading.Missing second third fourth = missing_of (machine_named second)
said_by heading.Round second third fourth = said.Round
said_by heading.Done second third fourth = said.Answers answer.Done
said_by heading.Failed second third fourth = said.Answers answer.Failed
said_by heading.Unreadable second third fourth = said.Answers answer.Unread
said_by heading.Wish second third fourth = wish_of (task_of second third) fourth
said_by heading.Stopped second third fourth = stop_of (machine_named second)
said_by heading.Repaired second third fourth = repair_of (machine_named second)
said_by heading.Cleared second third fourth = clear_of (station_named third)
said_by heading.Synced second third fourth = synced_of (count_of second)
said_by heading.First second third fourth = first_of (number_to most second) (number_to max_plates third)
said_by heading.End second third fourth = said.Ends

abbrev pub said_under : Option Heading → List ℕ → List ℕ → List ℕ → Said
said_under (Some h) second third fourth = said_by h second third fourth
said_under None second third fourth = said.Nothing

-- what a line says, by its record, if it is one
abbrev pub said_of : Option Row → Said
said_of (Some (first ∷ second ∷ third ∷ fourth ∷ [])) = said_under (heading_named first) second third fourth
said_of _ = said.Nothing

-- a line that ends the run
abbrev pub ends : Said → Bool
ends said.Ends = true
ends _ = false

-- a line that opens a round, or ends the run
abbrev pub opens : Said → Bool
opens said.Round = true
opens said.Ends = true
opens _ = false

-- a line that answers, or ends the run
abbrev pub answers : Said → Bool
answers (said.Answers a) = true
answers said.Ends = true
answers _ = false

-- a line by which the run is found again whose journal has so many entries
abbrev pub syncs : ℕ → Said → Bool
syncs n (said.Synced m) = m == n
syncs n _ = false
