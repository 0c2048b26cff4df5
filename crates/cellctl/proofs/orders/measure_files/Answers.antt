-- What is written is of a run by the files, or why there is none
use Rattle.std.proofs.Common.{inl, inr, ◌≡◌, Err, rules, subst}
use Rattle.std.proofs.lemmas.Option.{IfSome_then}
use Rattle.cell_output.specs.Watched.{bytes_held}
use Rattle.cellctl.specs.Carried.{MeasuresTexts}
use Rattle.cellctl.specs.Outcomes.{written_of}
use Rattle.cellctl.proofs.orders.measure_files.Goals as goal

pub returns-in-Fit : goal.returns-in-Fit
returns-in-Fit g c =
    let same : c.sources_in.new.output ≡ c.args.output.now =
    rw c.in-Fit.is at c.in_ok-sources.ensures.same in
    rw c.unless_refused.ensures
    (inl (subst (λ output. MeasuresTexts c.args.mode c.args.running.journal (bytes_held g.W.Write.contents output)
    (bytes_held g.W.Write.contents c.measure_sources.new.output) (written_of c.measure_sources.result)) same
    c.measure_sources.ensures))

-- where a write of what was told of the files was refused
pub returns-in_err-sources : goal.returns-in_err-sources
returns-in_err-sources g c =
    let why = c.in_err-sources.field-0.0 in
    let is : c.from_residual.result ≡ Err why = search rules in
    rw is (IfSome_then _ c.in_err-sources.ensures.unfit (λ w unfit. inr unfit))
