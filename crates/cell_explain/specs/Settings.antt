-- What is said of settings
use Rattle.std.specs.Prelude.{◌≡◌, ◌⊎◌, ℕ, List, [], ◌∷◌, ◌++◌, Option, Some, None, Result, Ok, Err, codes, decimal}
use Rattle.cell_settings.specs.Checked.{escaped, line_of, status_of}
use Rattle.cell_settings.specs.Settings.{AnswersText, Numbers}
use Rattle.cell_settings.specs.declared.error.SettingsError.{SettingsError}
use Rattle.cell_settings.specs.declared.error.SettingsError.TheVariants as error
use Rattle.cell_explain.specs.Told.{SaysNothing}

-- where a key is written: in this line, or nothing where its line isn't known
abbrev pub line_begin : Option ℕ → List ℕ
line_begin None = []
line_begin (Some line) = codes "line " ++ (decimal line ++ codes ": ")

-- the line of a key: where it is written, its path, and what may stand there
abbrev pub key_line : List ℕ → List ℕ → List ℕ → List ℕ
key_line begin path wanted = begin ++ (escaped path ++ (codes ": " ++ (wanted ++ 10 ∷ [])))

-- the line of a text that is no TOML: where it isn't, and why
abbrev pub syntax_line : ℕ → ℕ → List ℕ → List ℕ
syntax_line line column why = codes "line "
    ++ (decimal line ++ (codes ", column " ++ (decimal column ++ (codes ": " ++ (why ++ 10 ∷ [])))))

-- the second line is that of a key at this path
abbrev pub SaysKey : List ℕ → List ℕ → Type 0
SaysKey path second = (line : Option ℕ) × (wanted : List ℕ) × (second ≡ key_line (line_begin line) path wanted)

-- the second line tells of a text that is no TOML
abbrev pub SaysSyntax : List ℕ → Type 0
SaysSyntax second = (line : ℕ) × (column : ℕ) × (why : List ℕ) × (second ≡ syntax_line line column why)

-- the second line that is said of settings by their answer; of good ones there is none
abbrev pub SaysSecond : {X : Type 0} → Result X SettingsError → List ℕ → Type 0
SaysSecond (Ok x) second = second ≡ []
SaysSecond (Err error.NotToml) second = SaysSyntax second
SaysSecond (Err (error.UnknownKey path)) second = SaysKey path second
SaysSecond (Err (error.Missing path)) second = SaysKey path second
SaysSecond (Err (error.NotNumber path)) second = SaysKey path second
SaysSecond (Err (error.OutOfRange path)) second = SaysKey path second
SaysSecond (Err error.OutOfMemory) second = second ≡ []

-- the line of the program's check is said, with its status, unless memory was refused
abbrev pub SaysFirst : {X : Type 0} → Result X SettingsError → ℕ → List ℕ → Type 0
SaysFirst answer status saying = ((saying ≡ line_of answer) × (status ≡ status_of answer)) ⊎ SaysNothing status saying

-- what is said by an answer to settings, with its status: the line of the program's check, and the second line; nothing
-- where memory is refused, also later
abbrev pub SaysAnswer : {X : Type 0} → Result X SettingsError → ℕ → List ℕ → Type 0
SaysAnswer answer status saying =
    ((second : List ℕ) × SaysSecond answer second × (saying ≡ line_of answer ++ second) × (status ≡ status_of answer))
    ⊎ SaysNothing status saying

-- what is said of settings with a status: by an answer to their text
abbrev pub SaysSettings : List ℕ → ℕ → List ℕ → Type 0
SaysSettings text status saying = (answer : Result Numbers SettingsError) × AnswersText text answer
    × SaysAnswer answer status saying
