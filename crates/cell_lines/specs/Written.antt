-- What is written to a cell, as lines
use Rattle.std.specs.Prelude.{ℕ, Bool, true, false, List, [], ◌∷◌, ◌++◌, Option, Some, None, codes, decimal, map}
use Rattle.std.specs.List.{concat}
use Rattle.cell_types.specs.Texts.{all_machine, arm_word, axis_word, belt_word, colour_word, machine_word, pose_word}
use Rattle.cell_types.specs.Texts.{station_word}
use Rattle.cell_types.specs.declared.words.Command.{Command}
use Rattle.cell_types.specs.declared.words.Command.TheVariants as command
use Rattle.cell_rules.specs.Words.{refusal_name, refusal_word}
use Rattle.cell_rows.specs.Lines.{line}
use Rattle.cell_plant.specs.declared.desk.Denial.{Denial}
use Rattle.cell_plant.specs.declared.desk.Denial.TheVariants as denial
use Rattle.cell_plant.specs.declared.desk.Reply.{Reply}
use Rattle.cell_plant.specs.declared.desk.Reply.TheVariants as reply
use Rattle.line_reader.specs.Lines.{Row}
use Rattle.cell_lines.specs.declared.written.Written.{Written}
use Rattle.cell_lines.specs.declared.written.Written.TheVariants as written

-- the record of a command
abbrev pub command_row : Command → Row
command_row (command.Lamp b c) = codes "lamp" ∷ belt_word b ∷ colour_word c ∷ [] ∷ []
command_row (command.On a p) = codes "on" ∷ axis_word a ∷ pose_word p ∷ [] ∷ []
command_row (command.Off a) = codes "off" ∷ axis_word a ∷ [] ∷ [] ∷ []
command_row (command.MagnetOn a) = codes "magnet_on" ∷ arm_word a ∷ [] ∷ [] ∷ []
command_row (command.MagnetOff a) = codes "magnet_off" ∷ arm_word a ∷ [] ∷ [] ∷ []
command_row (command.AllOff m) = codes "all_off" ∷ machine_word m ∷ [] ∷ [] ∷ []

abbrev pub or_blank : Option (List ℕ) → List ℕ
or_blank (Some word) = word
or_blank None = []

-- the name of why a wish isn't granted
abbrev pub denial_name : Denial → List ℕ
denial_name (denial.Book why) = refusal_name why
denial_name denial.Failed = codes "Failed"
denial_name denial.Unreadable = codes "Unreadable"
denial_name denial.TooMany = codes "TooMany"

-- the word of what it names, or nothing
abbrev pub denial_word : Denial → List ℕ
denial_word (denial.Book why) = or_blank (refusal_word why)
denial_word _ = []

-- the record of what a wish is answered by
abbrev pub reply_row : Reply → Row
reply_row (reply.Booked n) = codes "booked" ∷ decimal n ∷ [] ∷ [] ∷ []
reply_row (reply.Denied why) = codes "refused" ∷ denial_name why ∷ denial_word why ∷ [] ∷ []

-- the lines that stop all machines
abbrev pub stop_lines : List ℕ
stop_lines = concat (map (λ m. line (command_row (command.AllOff m))) all_machine)

-- the line that ends the run, where it is to end
abbrev pub quit_line : Bool → List ℕ
quit_line true = line (codes "quit" ∷ [] ∷ [] ∷ [] ∷ [])
quit_line false = []

-- what is written, as its line; a line feed comes before that by which a run goes on
abbrev pub line_of : Written → List ℕ
line_of (written.Send c) = line (command_row c)
line_of (written.Remove s) = line (codes "remove" ∷ station_word s ∷ [] ∷ [] ∷ [])
line_of (written.Home m) = line (codes "home" ∷ machine_word m ∷ [] ∷ [] ∷ [])
line_of written.Stay = line (codes "stay" ∷ [] ∷ [] ∷ [] ∷ [])
line_of (written.Sync n) = 10 ∷ line (codes "sync" ∷ decimal n ∷ [] ∷ [] ∷ [])
line_of written.Done = line (codes "done" ∷ [] ∷ [] ∷ [] ∷ [])
line_of (written.Answer r) = line (reply_row r)
line_of (written.Stop quits) = stop_lines ++ quit_line quits
