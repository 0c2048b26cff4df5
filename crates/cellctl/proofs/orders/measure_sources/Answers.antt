-- What a run with its measures has written is by the texts that were read
use Rattle.cellctl.specs.Outcomes.{written_of}
use Rattle.cellctl.proofs.Written.{as-answered}
use Rattle.cellctl.proofs.orders.measure_sources.Goals as goal

pub returns : goal.returns
returns g c = (
  c.texts.result.durations,
  c.texts.result.settings.now,
  c.texts.result.faults.now,
  c.texts.result.operator.now,
  as-answered c.run_with_measures-ran.result (written_of c.with_ending.result) _ _ c.with_ending.ensures.ok
      c.with_ending.ensures.err c.run_with_measures-ran.ensures (λ failed. tt),
)
