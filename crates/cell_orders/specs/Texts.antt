-- What is written for a text: the lines of its audit, its migration or its check, or why it isn't read
use Rattle.std.specs.Prelude.{◌≡◌, ◌⊎◌, ◌++◌, ◌∷◌, [], ℕ, List, Option, Some, None, Result, MatchResult, codes, ⊤}
use Rattle.std.specs.Borrow.{Bor}
use Rattle.std.specs.Io.KnownBytes.{Appends}
use Rattle.cell_audit.specs.Migrated.{rows_in}
use Rattle.cell_output.specs.Watched.{WritesPart}
use Rattle.cell_output.specs.declared.watched.WriteFault.{WriteFault}
use Rattle.cell_audit.specs.Lines.{TellsAudit, TellsMigration, StopsMigration, TellsPart as PartOfAudit}
use Rattle.cell_measures.specs.Times.{duration}
use Rattle.cell_measures.specs.declared.durations.Durations.{Durations}
use Rattle.cell_measures.specs.declared.motion.Move.{Move}
use Rattle.cell_settings.specs.Checked.{TellsCheck, TellsPart as PartOfCheck}

-- what holds of the text that is read: that of the file that is named, which may be any, or else that of the input
abbrev pub OfText : Option (Bor (List ℕ)) → Option (List ℕ) → (Option (List ℕ) → Type 0) → Type 0
OfText None input P = P input
OfText (Some path) input P = (text : List ℕ) × P (Some text)

-- the arguments are wrong: a line among the errors says so, and nothing is printed
abbrev pub IsWrong : Option (List ℕ) → Option (List ℕ) → Option (List ℕ) → Option (List ℕ) → ℕ → Type 0
IsWrong old new old_errors new_errors status = (status ≡ 2) × (new ≡ old) × (line : List ℕ)
    × Appends old_errors new_errors (codes "error: " ++ (line ++ 10 ∷ []))

-- a file is named
abbrev pub IsGiven : Option (Bor (List ℕ)) → Type 0
IsGiven None = ⊥
IsGiven (Some path) = ⊤

-- where no file is named each motion takes one unit of time
abbrev pub AreTimes : Option (Bor (List ℕ)) → Durations → Type 0
AreTimes None durations = (motion : Move) → duration durations motion ≡ 1
AreTimes (Some path) durations = ⊤

-- why durations are refused is told in a line
abbrev pub TellsTimes : Option (List ℕ) → Option (List ℕ) → Result ℕ WriteFault → Type 0
TellsTimes old new written =
    (line : List ℕ) × MatchResult written (λ status. Appends old new (line ++ codes "\n") × (status ≡ 1))
    (λ _. WritesPart old new (line ++ codes "\n"))

-- that settings are longer than they may be is told by name
abbrev pub TellsTooLong : Option (List ℕ) → Option (List ℕ) → Result ℕ WriteFault → Type 0
TellsTooLong old new written =
    MatchResult written (λ status. Appends old new (codes "settings TooLong\n") × (status ≡ 1))
    (λ _. WritesPart old new (codes "settings TooLong\n"))

-- what is written for the audit of a text
abbrev pub Audits : Option (List ℕ) → Option (List ℕ) → Option (List ℕ) → Result ℕ WriteFault → Type 0
Audits text old new written = MatchResult written (TellsAudit text old new) (λ _. PartOfAudit text old new)

-- what is written for the migration of a text
abbrev pub MigratesText : Option (List ℕ) → Option (List ℕ) → Option (List ℕ) → Option (List ℕ) → Option (List ℕ)
    → Result ℕ WriteFault → Type 0
MigratesText text old new old_errors new_errors written =
    MatchResult written (TellsMigration (rows_in text) old new old_errors new_errors)
    (λ _. StopsMigration (rows_in text) old new old_errors new_errors)

-- what is written for a check of settings in a file, unless they are too long
abbrev pub ChecksSettings : Option (List ℕ) → Option (List ℕ) → Result ℕ WriteFault → Type 0
ChecksSettings old new written =
    ((settings : List ℕ) × MatchResult written (TellsCheck settings old new) (λ _. PartOfCheck settings old new))
    ⊎ TellsTooLong old new written
