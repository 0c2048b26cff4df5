-- What settings say
use Rattle.std.specs.Prelude.{◌≡◌, ◌+◌, ◌&&◌, ℕ, ℤ, pos, nat_abs, int_le, IsUtf8, List, [], ◌∷◌, Option, Some, None}
use Rattle.std.specs.Prelude.{Result, Ok, Err, ⊤, if◌then◌else◌, codes, option_and_then}
use Rattle.cell_diagnosis.specs.Bounds.{Bounds}
use Rattle.cell_types.specs.declared.words.Axis.{Axis}
use Rattle.cell_types.specs.Texts.{axis_word, all_axis}
use Rattle.toml.specs.Data.{Data, Members, as_integer, as_table, get_member}
use Rattle.toml.specs.Parse.{parse_document}
use Rattle.cell_settings.specs.Keys.{dotted, stray, watched}
use Rattle.cell_ports.specs.declared.plan.Plan.{Plan}
use Rattle.cell_settings.specs.declared.error.SettingsError.{SettingsError}
use Rattle.cell_settings.specs.declared.error.SettingsError.TheVariants as error

-- the numbers of settings: the limits are those of the axes, in their order
pub record Numbers : Type 0 where
  pub plates : ℕ
  pub journal_limit : ℕ
  pub turns : ℕ
  pub limits : List Bounds

-- a step, and then the next
infixl 10 ◌>>=◌
abbrev pub ◌>>=◌ : {A B : Type 0} → Result A SettingsError → (A → Result B SettingsError) → Result B SettingsError
(Ok x) >>= f = f x
(Err e) >>= f = Err e

-- a number in its range
abbrev pub in_range : List ℕ → ℤ → ℕ → ℕ → Result ℕ SettingsError
in_range path z low high = if int_le (pos low) z && int_le z (pos high) then Ok (nat_abs z) else Err
    (error.OutOfRange path)

abbrev pub integer_due : List ℕ → Option ℤ → ℕ → ℕ → Result ℕ SettingsError
integer_due path None low high = Err (error.NotNumber path)
integer_due path (Some z) low high = in_range path z low high

abbrev pub default_due : List ℕ → Option ℕ → ℕ → ℕ → Result ℕ SettingsError
default_due path None low high = Err (error.Missing path)
default_due path (Some n) low high = in_range path (pos n) low high

-- the number that stands at a path, or its default
unfoldable pub number_due : List ℕ → Option Data → Option ℕ → ℕ → ℕ → Result ℕ SettingsError
number_due path None default low high = default_due path default low high
number_due path (Some d) default low high = integer_due path (as_integer d) low high

-- the number at a key at the top
unfoldable pub member_due : List ℕ → Members → Option ℕ → ℕ → ℕ → Result ℕ SettingsError
member_due key ms default low high = number_due key (get_member key ms) default low high

-- the table of an axis
unfoldable pub axis_table : List ℕ → Members → Option Members
axis_table axis ms = option_and_then as_table
    (option_and_then (get_member axis) (option_and_then as_table (get_member (codes "watch") ms)))

-- the number at a key of an axis's table
unfoldable pub limit_due : List ℕ → List ℕ → Option Members → ℕ → ℕ → ℕ → Result ℕ SettingsError
limit_due axis key table default low high =
    number_due (dotted (watched axis) key) (option_and_then (get_member key) table) (Some default) low high

-- the limits of an axis: `leave` first, and `limit` above it
unfoldable pub axis_due : Members → Axis → Result Bounds SettingsError
axis_due ms axis = do
  leave ← limit_due (axis_word axis) (codes "leave") (axis_table (axis_word axis) ms) 3 2 999
  limit ← limit_due (axis_word axis) (codes "limit") (axis_table (axis_word axis) ms) 20 (leave + 1) 1000
  Ok (record { leave = leave; limit = limit })

-- the limits of axes, in their order
abbrev pub axes_due : Members → List Axis → Result (List Bounds) SettingsError
axes_due ms [] = Ok []
axes_due ms (axis ∷ rest) = do
  bounds ← axis_due ms axis
  more ← axes_due ms rest
  Ok (bounds ∷ more)

-- the numbers of a table whose keys are known
unfoldable pub numbers_due : Members → Result Numbers SettingsError
numbers_due ms = do
  plates ← member_due (codes "plates") ms None 1 100000
  journal_limit ← member_due (codes "journal_limit") ms (Some 100000) 1 1000000
  turns ← member_due (codes "turns") ms (Some 100000) 1 10000000
  limits ← axes_due ms all_axis
  Ok (record { plates = plates; journal_limit = journal_limit; turns = turns; limits = limits })

abbrev pub unless_stray : Option (List ℕ) → Result Numbers SettingsError → Result Numbers SettingsError
unless_stray None numbers = numbers
unless_stray (Some path) numbers = Err (error.UnknownKey path)

-- what a table says
unfoldable pub settings_due : Members → Result Numbers SettingsError
settings_due ms = unless_stray (stray ms) (numbers_due ms)

-- what a text says: no table where it is no TOML
abbrev pub text_due : Option Members → Result Numbers SettingsError
text_due None = Err error.NotToml
text_due (Some ms) = settings_due ms

-- the answer is the one that is due, unless memory was refused
abbrev pub Gives : {X : Type 0} → Result X SettingsError → Result X SettingsError → Type 0
Gives (Ok x) due = due ≡ Ok x
Gives (Err error.NotToml) due = due ≡ Err error.NotToml
Gives (Err (error.UnknownKey path)) due = due ≡ Err (error.UnknownKey path)
Gives (Err (error.Missing path)) due = due ≡ Err (error.Missing path)
Gives (Err (error.NotNumber path)) due = due ≡ Err (error.NotNumber path)
Gives (Err (error.OutOfRange path)) due = due ≡ Err (error.OutOfRange path)
Gives (Err error.OutOfMemory) due = ⊤

-- the answer on a text's bytes, which toml reads where they are UTF-8
pub record AnswersText (text : List ℕ) (answer : Result Numbers SettingsError) : Type 0 where
  pub due : IsUtf8 text → Gives answer (text_due (parse_document text))
  pub bytes : ¬ (IsUtf8 text) → Gives answer (Err error.NotToml)

-- keys were looked through: none is unknown, or this is the first
abbrev pub KnowsKeys : {X : Type 0} → Result X SettingsError → Option (List ℕ) → Type 0
KnowsKeys (Ok x) first = first ≡ None
KnowsKeys (Err (error.UnknownKey path)) first = first ≡ Some path
KnowsKeys (Err error.OutOfMemory) first = ⊤
KnowsKeys (Err error.NotToml) first = ⊥
KnowsKeys (Err (error.Missing path)) first = ⊥
KnowsKeys (Err (error.NotNumber path)) first = ⊥
KnowsKeys (Err (error.OutOfRange path)) first = ⊥

-- a plan's numbers, and an answer with them in place of the plan
abbrev pub plan_numbers : Plan → Numbers
plan_numbers p = record { plates = p.plates; journal_limit = p.journal_limit; turns = p.turns; limits = p.limits }

abbrev pub numbers_of : Result Plan SettingsError → Result Numbers SettingsError
numbers_of (Ok plan) = Ok (plan_numbers plan)
numbers_of (Err e) = Err e

abbrev pub GivesNumbers : Result Plan SettingsError → Result Numbers SettingsError → Type 0
GivesNumbers answer due = Gives (numbers_of answer) due
