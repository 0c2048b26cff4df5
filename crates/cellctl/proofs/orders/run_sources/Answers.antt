-- What is written is by the texts that were read
use Rattle.std.specs.Prelude.{IfOk}
use Rattle.std.proofs.lemmas.Result.{IfOk-weaker}
use Rattle.cell_output.specs.Watched.{bytes_held}
use Rattle.cell_runs.specs.Runs.{TellsRun, kept_of}
use Rattle.cellctl.specs.Outcomes.{written_of}
use Rattle.cellctl.proofs.Written.{as-answered}
use Rattle.cellctl.proofs.orders.run_sources.Goals as goal

pub returns : goal.returns
returns g c =
    let timing = c.texts.result.durations in
    let settings = c.texts.result.settings.now in
    let faults = c.texts.result.faults.now in
    let operator = c.texts.result.operator.now in
    let ran = c.run_kept-ran.result in
    let old = bytes_held g.W.Write.contents c.args.output.now in
    let new = bytes_held g.W.Write.contents c.run_kept-ran.new.writer in
    let whole : IfOk ran
    (λ told. TellsRun timing settings faults operator c.args.mode c.args.running.journal old new told.0) =
    IfOk-weaker ran _ _ (λ told keeps. (kept_of told.1, keeps)) c.run_kept-ran.ensures.whole in (
      timing,
      settings,
      faults,
      operator,
      as-answered ran (written_of c.with_ending.result) _ _ c.with_ending.ensures.ok c.with_ending.ensures.err whole
          c.run_kept-ran.ensures.part,
    )
