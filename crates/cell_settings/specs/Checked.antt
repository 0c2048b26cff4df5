-- What the program prints for settings, and the status with which it ends
use Rattle.std.specs.Prelude.{◌≡◌, ◌/◌, ◌%◌, ◌==◌, ◌||◌, ℕ, Bool, List, [], ◌∷◌, ◌++◌, Option, Result, Ok, Err, map}
use Rattle.std.specs.Prelude.{slice_index, if◌then◌else◌, codes, flat_map, encode_utf8}
use Rattle.std.specs.Char.{is_control}
use Rattle.std.specs.Int.{is_in_range}
use Rattle.std.specs.Str.{chars}
use Rattle.std.specs.Io.KnownBytes.{Appends}
use Rattle.cell_output.specs.Watched.{WritesPart}
use Rattle.cell_settings.specs.Settings.{AnswersText, Numbers}
use Rattle.cell_settings.specs.declared.error.SettingsError.{SettingsError}
use Rattle.cell_settings.specs.declared.error.SettingsError.TheVariants as error

-- whether a character is printed as an escape: a control character, or one that parts lines or turns the direction of
-- text
abbrev pub is_escaped : ℕ → Bool
is_escaped c = is_control c || (c == 0x061C || (is_in_range 0x200E 0x200F c || (is_in_range 0x2028 0x202E c
    || is_in_range 0x2066 0x2069 c)))

-- the digit of a number below 16
abbrev pub hex_digit : ℕ → ℕ
hex_digit n = slice_index (codes "0123456789ABCDEF") n

-- a character's escape in TOML, by four digits
abbrev pub escape : ℕ → List ℕ
escape c = codes "\\u" ++ hex_digit (c / 4096 % 16) ∷ hex_digit (c / 256 % 16) ∷ hex_digit (c / 16 % 16)
    ∷ hex_digit (c % 16) ∷ []

-- such a character as its escape, and another one as it stands
abbrev pub escaped_char : ℕ → List ℕ
escaped_char c = if is_escaped c then escape c else encode_utf8 c

-- a path as it is printed, character by character
abbrev pub escaped : List ℕ → List ℕ
escaped path = flat_map escaped_char (chars path)

-- the line of an error that names a path
abbrev pub path_line : List ℕ → List ℕ → List ℕ
path_line name path = name ++ (escaped path ++ 10 ∷ [])

-- the line of an error
abbrev pub error_line : SettingsError → List ℕ
error_line error.NotToml = codes "settings NotToml\n"
error_line (error.UnknownKey path) = path_line (codes "settings UnknownKey ") path
error_line (error.Missing path) = path_line (codes "settings Missing ") path
error_line (error.NotNumber path) = path_line (codes "settings NotNumber ") path
error_line (error.OutOfRange path) = path_line (codes "settings OutOfRange ") path
error_line error.OutOfMemory = []

-- the status of an error
abbrev pub error_status : SettingsError → ℕ
error_status error.NotToml = 1
error_status (error.UnknownKey path) = 1
error_status (error.Missing path) = 1
error_status (error.NotNumber path) = 1
error_status (error.OutOfRange path) = 1
error_status error.OutOfMemory = 4

-- the line of an answer
abbrev pub line_of : {X : Type 0} → Result X SettingsError → List ℕ
line_of (Ok x) = codes "settings ok\n"
line_of (Err e) = error_line e

-- the status of an answer
abbrev pub status_of : {X : Type 0} → Result X SettingsError → ℕ
status_of (Ok x) = 0
status_of (Err e) = error_status e

-- the line of an answer was written, and this is its status
abbrev pub WritesLine : {X : Type 0} → Option (List ℕ) → Option (List ℕ) → Result X SettingsError → ℕ → Type 0
WritesLine old new answer status = Appends old new (line_of answer) × (status ≡ status_of answer)

-- what was written is the line of an answer to the text, and the status is that answer's
abbrev pub TellsCheck : List ℕ → Option (List ℕ) → Option (List ℕ) → ℕ → Type 0
TellsCheck text old new status = (answer : Result Numbers SettingsError) × AnswersText text answer
    × WritesLine old new answer status

-- a first part of the line of an answer to the text was written, and not all of it
abbrev pub TellsPart : List ℕ → Option (List ℕ) → Option (List ℕ) → Type 0
TellsPart text old new = (answer : Result Numbers SettingsError) × AnswersText text answer
    × WritesPart old new (line_of answer)
