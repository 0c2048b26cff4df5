-- The run goes on from the journal of some text, and nothing was written before
use Rattle.std.proofs.Common.{◌≡◌, inl, inr, subst, Err, rules}
use Rattle.std.proofs.lemmas.Option.{IfSome_then}
use Rattle.cell_output.specs.Watched.{bytes_held}
use Rattle.cellctl.specs.Carried.{GoesOnTexts}
use Rattle.cellctl.specs.Outcomes.{written_of}
use Rattle.cellctl.proofs.continued.continue_files.Goals as goal

pub returns : goal.returns
returns g c =
    let (text, read) = c.in_ok-before.ensures.some in
    let same : c.sources_in.new.output ≡ c.args.output.now =
    rw c.in-Fit.is at c.in_ok-sources.ensures.same in
    rw c.unless_refused.ensures
    (inl (subst (λ output. GoesOnTexts c.args.running.journal (bytes_held g.W.Write.contents output)
    (bytes_held g.W.Write.contents c.continue_sources.new.output) (written_of c.continue_sources.result)) same
    (c.continue_sources.ensures text (read, c.in_ok-before.ensures.before))))

-- where a write of what was told of the files was refused
pub returns-in_err-sources : goal.returns-in_err-sources
returns-in_err-sources g c =
    let why = c.in_err-sources.field-0.0 in
    let is : c.from_residual.result ≡ Err why = search rules in
    rw is (IfSome_then _ c.in_err-sources.ensures.unfit (λ w unfit. inr unfit))
