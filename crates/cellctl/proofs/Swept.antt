-- What is written of a sweep for the words of its command
use Rattle.std.proofs.Common.{◌≡◌, subst, ℕ, Bool, List, Option, Result}
use Rattle.cell_command.specs.declared.order.Sweeping.{Sweeping}
use Rattle.cell_output.specs.declared.watched.WriteFault.{WriteFault}
use Rattle.cell_sim.specs.declared.fault.Fault.{Fault}
use Rattle.cell_sweep.specs.Sweeps.{wanted}
use Rattle.cellctl.specs.Carried.{SweepsSome, wanted_by}
use Rattle.cellctl.specs.declared.asked.Asked.{Asked}

-- what is written in a form of which the same is known as of the one asked for is written as asked
pub as-asked : (sweeping : Sweeping) (kinds : List Fault) (asked : Asked) (csv : Bool) (old new : Option (List ℕ))
    (written : Result ℕ WriteFault) → csv ≡ sweeping.csv
    → SweepsSome (wanted kinds asked.motions asked.choice asked.part sweeping.service csv) old new written
    → SweepsSome (wanted_by sweeping kinds asked) old new written
as-asked sweeping kinds asked csv old new written same told =
    subst (λ (c : Bool). SweepsSome (wanted kinds asked.motions asked.choice asked.part sweeping.service c) old new
    written) same told
