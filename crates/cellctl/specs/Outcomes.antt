-- What the calls for an order end with
use Rattle.std.specs.Prelude.{ℕ, Option, Some, None, Result, Ok, Err, IfSome, option_map, ⊤}
use Rattle.cell_output.specs.declared.watched.WriteFault.{WriteFault}
use Rattle.cell_orders.specs.Commands.{refused_write}
use Rattle.cell_orders.specs.declared.error.CommandError.{CommandError}
use Rattle.cellctl.specs.declared.orders.Carried.{Carried}
use Rattle.cellctl.specs.declared.orders.Reading.{Reading}
use Rattle.cellctl.specs.declared.orders.Reading.TheVariants as readings

-- the status of what was done, or the write that was refused
abbrev pub written_of : Result Carried WriteFault → Result ℕ WriteFault
written_of (Ok carried) = Ok carried.status
written_of (Err fault) = Err fault

-- the same; nothing where the system failed
abbrev pub carried_outcome : Result Carried CommandError → Option (Result ℕ WriteFault)
carried_outcome (Ok carried) = Some (Ok carried.status)
carried_outcome (Err e) = option_map (λ (fault : WriteFault). Err fault) (refused_write e)

-- what holds of that, unless the system failed
abbrev pub IfCarried : Result Carried CommandError → (Result ℕ WriteFault → Type 0) → Type 0
IfCarried result P = IfSome (carried_outcome result) P

-- what was told of files that no run goes by; nothing of others, or where the system failed
abbrev pub unfit_outcome : Result Reading CommandError → Option (Result ℕ WriteFault)
unfit_outcome (Ok (readings.Fit sources)) = None
unfit_outcome (Ok (readings.Unfit status)) = Some (Ok status)
unfit_outcome (Err e) = option_map (λ (fault : WriteFault). Err fault) (refused_write e)

-- what holds where a run goes by the files
abbrev pub IfFit : Reading → Type 0 → Type 0
IfFit (readings.Fit sources) P = P
IfFit (readings.Unfit status) P = ⊤
