-- What a command ends with
use Rattle.std.specs.Prelude.{◌≡◌, ℕ, List, Option, Some, None, Result, Ok, Err, IfSome, option_map, ⊤}
use Rattle.std.specs.Borrow.{Bor}
use Rattle.std.specs.declared.io.Error.{Error}
use Rattle.cell_output.specs.declared.watched.WriteFault.{WriteFault}
use Rattle.cell_orders.specs.declared.error.CommandError.{CommandError}
use Rattle.cell_orders.specs.declared.error.CommandError.TheVariants as kinds

-- the refused write that an error tells of, if it tells of one
abbrev pub refused_write : CommandError → Option WriteFault
refused_write (kinds.Write fault) = Some fault
refused_write (kinds.System failure) = None

-- what a command ends with: its status, or a write that was refused; nothing where the system failed
abbrev pub outcome_of : Result ℕ CommandError → Option (Result ℕ WriteFault)
outcome_of (Ok status) = Some (Ok status)
outcome_of (Err e) = option_map (λ (fault : WriteFault). Err fault) (refused_write e)

-- what holds of that, unless the system failed
abbrev pub IfTold : Result ℕ CommandError → (Result ℕ WriteFault → Type 0) → Type 0
IfTold result P = IfSome (outcome_of result) P

-- the system failed by an error, of the file that is named if one is
abbrev pub failed_at : Option (Bor (List ℕ)) → Error → CommandError
failed_at file error = kinds.System (record { file = file; error = error })

-- where the system failed, that is told of no file
abbrev pub IsUnnamed : CommandError → Type 0
IsUnnamed e = (error : Error) × (e ≡ failed_at None error)

-- where the system failed, that is told of this file
abbrev pub NamesFile : Bor (List ℕ) → CommandError → Type 0
NamesFile path (kinds.Write fault) = ⊤
NamesFile path (kinds.System failure) = failure.file ≡ Some path
