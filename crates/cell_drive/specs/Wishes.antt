-- What a line of a method by commands asks for
use Rattle.std.specs.Prelude.{ℕ, Bool, List, [], ◌∷◌, Option, Some, None, option_map, length, ◌==◌, ◌&&◌, ◌||◌}
use Rattle.std.specs.Prelude.{codes, if◌then◌else◌}
use Rattle.std.specs.Str.{bytes_eq}
use Rattle.cell_types.specs.Numbers.{number_to}
use Rattle.cell_types.specs.Records.{read_row}
use Rattle.cell_types.specs.Texts.{arm_named, axis_named, machine_named, station_named}
use Rattle.cell_types.specs.declared.words.Command.{Command}
use Rattle.cell_types.specs.declared.words.Command.TheVariants as command
use Rattle.cell_types.specs.declared.words.Entry.{Entry}
use Rattle.cell_types.specs.declared.words.Entry.TheVariants as entry
use Rattle.cell_ports.specs.declared.port.Act.{Act}
use Rattle.cell_ports.specs.declared.port.Act.TheVariants as act
use Rattle.cell_method.specs.Asked.{has_word}
use Rattle.cell_method.specs.Lines.{Row}
use Rattle.cell_drive.specs.declared.wish.Wish.{Wish}
use Rattle.cell_drive.specs.declared.wish.Wish.TheVariants as wish

abbrev pub to_send : Option Command → Wish
to_send (Some c) = wish.Send c
to_send None = wish.Nothing

abbrev pub to_act : Option Act → Wish
to_act (Some a) = wish.Act a
to_act None = wish.Nothing

abbrev pub to_sync : Option ℕ → Wish
to_sync (Some n) = wish.Sync n
to_sync None = wish.Nothing

-- the command to move an axis, by the entry of that motion's start
abbrev pub on_of : Option Entry → Option Command
on_of (Some (entry.Started axis to)) = Some (command.On axis to)
on_of _ = None

-- the command that turns a light, by the entry of that
abbrev pub lamp_of : Option Entry → Option Command
lamp_of (Some (entry.Lamp belt colour)) = Some (command.Lamp belt colour)
lamp_of _ = None

-- the greatest length of a journal with which a run may go on
abbrev pub most_entries : ℕ
most_entries = 1000006

-- the length of a journal, from 0 on
abbrev pub length_of : List ℕ → Option ℕ
length_of bs = if bytes_eq bs (codes "0") then Some 0 else number_to most_entries bs

-- what a word and the one thing that it names ask for
abbrev pub single_of : List ℕ → List ℕ → Wish
single_of word named =
    if bytes_eq word (codes "off") then to_send (option_map command.Off (axis_named named))
    else if bytes_eq word (codes "magnet_on") then to_send (option_map command.MagnetOn (arm_named named))
    else if bytes_eq word (codes "magnet_off") then to_send (option_map command.MagnetOff (arm_named named))
    else if bytes_eq word (codes "all_off") then to_send (option_map command.AllOff (machine_named named))
    else if bytes_eq word (codes "remove") then to_act (option_map act.Remove (station_named named))
    else if bytes_eq word (codes "home") then to_act (option_map act.Home (machine_named named))
    else if bytes_eq word (codes "sync") then to_sync (length_of named)
    else wish.Nothing

-- the last two of four fields are blank
abbrev pub is_single : List ℕ → List ℕ → Bool
is_single third fourth = (length third == 0) && (length fourth == 0)

-- what four fields ask for by their word; what follows `on` is what follows `started` in a journal
abbrev pub asked_by : List ℕ → List ℕ → List ℕ → List ℕ → Wish
asked_by first second third fourth =
    if bytes_eq first (codes "on") then to_send (on_of (read_row (codes "started" ∷ second ∷ third ∷ fourth ∷ [])))
    else if bytes_eq first (codes "lamp") then to_send (lamp_of (read_row (first ∷ second ∷ third ∷ fourth ∷ [])))
    else if bytes_eq first (codes "booked") || bytes_eq first (codes "refused") then wish.Pass
    else if is_single third fourth then single_of first second
    else wish.Nothing

abbrev pub wished_by : List ℕ → List ℕ → List ℕ → List ℕ → Wish
wished_by first second third fourth =
    if has_word (codes "done") first second third fourth then wish.Done
    else if has_word (codes "quit") first second third fourth then wish.Quit
    else if has_word (codes "stay") first second third fourth then wish.Stay
    else asked_by first second third fourth

-- what a line asks for, by its record, if it is one
abbrev pub wish_of : Option Row → Wish
wish_of (Some (first ∷ second ∷ third ∷ fourth ∷ [])) = wished_by first second third fourth
wish_of _ = wish.Nothing
