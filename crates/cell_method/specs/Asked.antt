-- What a line of a method asks for
use Rattle.std.specs.Prelude.{ℕ, List, [], ◌∷◌, Option, Some, None, Bool, length, ◌==◌, ◌&&◌, codes, if◌then◌else◌}
use Rattle.std.specs.Str.{bytes_eq}
use Rattle.cell_types.specs.Records.{read_row}
use Rattle.cell_types.specs.declared.words.Entry.{Entry}
use Rattle.cell_method.specs.Lines.{Row}
use Rattle.cell_method.specs.declared.ask.Ask.{Ask}
use Rattle.cell_method.specs.declared.ask.Ask.TheVariants as ask

-- a word and three blank fields
abbrev pub has_word : List ℕ → List ℕ → List ℕ → List ℕ → List ℕ → Bool
has_word word first second third fourth = bytes_eq first word && (length second == 0) && (length third == 0)
    && (length fourth == 0)

abbrev pub to_book : Option Entry → Ask
to_book (Some e) = ask.Book e
to_book None = ask.Nothing

abbrev pub asked_by : List ℕ → List ℕ → List ℕ → List ℕ → Ask
asked_by first second third fourth =
    if has_word (codes "done") first second third fourth then ask.Done
    else if has_word (codes "quit") first second third fourth then ask.Quit
    else to_book (read_row (first ∷ second ∷ third ∷ fourth ∷ []))

-- what a line asks for, by its record, if it is one
abbrev pub ask_of : Option Row → Ask
ask_of (Some (first ∷ second ∷ third ∷ fourth ∷ [])) = asked_by first second third fourth
ask_of _ = ask.Nothing
