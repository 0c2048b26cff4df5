-- The script by which a run is refused serves
use Rattle.std.proofs.Common.{true, true≢false}
use Rattle.cell_sweep.proofs.Steps.{run_refused}
use Rattle.cell_sweep.proofs.service.serve.Goals as goal

pub returns-in_err-ran : goal.returns-in_err-ran
returns-in_err-ran c = record {
  refused = run_refused c.from_residual-in_err-ran.result c.args.settings.now.text.now c.args.operator.now
      c.args.faults.now.text.now c.as_slice-in-loop-try.result.now true c.in_err-ran.field-0.0
      (λ off. absurd (true≢false off)) c.from_residual-in_err-ran.ensures.1 c.in_err-ran.ensures.refused;
}
