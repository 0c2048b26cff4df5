-- The measures of a run in rounds are those of what is kept of it
use Rattle.std.proofs.Common.{List, Option, ℕ, rules}
use Rattle.std.specs.Prelude.{IfOk}
use Rattle.std.proofs.lemmas.Result.{IfOk-weaker}
use Rattle.cell_runs.specs.Runs.{kept_of}
use Rattle.cell_runs.proofs.Telling.{as-held}
use Rattle.cell_drive.specs.Measured.{KeepsMeasured}
use Rattle.cellctl.proofs.orders.run_with_measures.Goals as goal

pub returns-in-Rounds : goal.returns-in-Rounds
returns-in-Rounds g c =
    let timing = c.args.texts.durations in
    let settings = c.args.texts.settings.now in
    let faults = c.args.texts.faults.now in
    let operator = c.args.texts.operator.now in
    rw c.in-Rounds.is
    (IfOk-weaker c.run_measured.result _ _ (λ ran keeps. (kept_of ran.1, keeps))
    (as-held (λ (old new : Option (List ℕ)). IfOk c.run_measured.result
    (λ ran. KeepsMeasured timing settings faults operator c.args.journal old new ran.0 (kept_of ran.1)))
    _ _ _ _ (search rules) (search rules) c.run_measured.ensures.whole))
