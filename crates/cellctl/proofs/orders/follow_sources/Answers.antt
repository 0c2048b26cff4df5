-- What is written is by the texts that were read
use Rattle.std.specs.Prelude.{IfOk}
use Rattle.std.proofs.lemmas.Result.{IfOk-weaker}
use Rattle.cell_output.specs.Watched.{bytes_held}
use Rattle.cell_runs.specs.Runs.{kept_of}
use Rattle.cell_runs.specs.Told.{TellsFollowed}
use Rattle.cellctl.specs.Outcomes.{written_of}
use Rattle.cellctl.proofs.Written.{as-answered}
use Rattle.cellctl.proofs.orders.follow_sources.Goals as goal

pub returns : goal.returns
returns g c = λ text read.
    let settings = c.texts.result.settings.now in
    let faults = c.texts.result.faults.now in
    let operator = c.texts.result.operator.now in
    let ran = c.follow_after-told.result in
    let old = bytes_held g.W.Write.contents c.args.output.now in
    let new = bytes_held g.W.Write.contents c.follow_after-told.new.writer in
    let whole : IfOk ran
    (λ told. TellsFollowed text settings faults operator c.args.running.journal old new told.0) =
    IfOk-weaker ran _ _ (λ told keeps. (kept_of told.1, keeps)) (c.follow_after-told.ensures.whole text read) in (
      text,
      settings,
      faults,
      operator,
      as-answered ran (written_of c.with_ending.result) _ _ c.with_ending.ensures.ok c.with_ending.ensures.err whole
          (c.follow_after-told.ensures.part text read),
    )
