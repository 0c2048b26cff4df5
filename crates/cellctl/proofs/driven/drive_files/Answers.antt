-- Nothing was written before the method drives, from the journal of some text on where one is named
use Rattle.std.proofs.Common.{◌≡◌, inl, inr, subst, Err, rules}
use Rattle.std.proofs.lemmas.Option.{IfSome_then}
use Rattle.cell_output.specs.Watched.{bytes_held}
use Rattle.cellctl.specs.Carried.{DrivesRead}
use Rattle.cellctl.proofs.driven.drive_files.Goals as goal

pub returns-in-Some : goal.returns-in-Some
returns-in-Some g c =
    let (text, read) = c.in_ok-before-in-Some.ensures.some in
    let same : c.sources_in.new.output ≡ c.args.output.now =
    rw c.in-Fit.is at c.in_ok-sources.ensures.same in
    rw c.told.ensures
    (inl (rw c.in-Some.is (subst (λ output. DrivesRead c.args.driving (g.I.Read.remaining c.args.input)
    (bytes_held g.W.Write.contents output) (bytes_held g.W.Write.contents c.drive_read.new.output) c.drive_read.result)
    same
    (c.drive_read.ensures text (read, c.in_ok-before-in-Some.ensures.before)))))

-- where a write of what was told of the files was refused
pub returns-in_err-sources : goal.returns-in_err-sources
returns-in_err-sources g c =
    let why = c.in_err-sources.field-0.0 in
    let is : c.from_residual.result ≡ Err why = search rules in
    rw is (IfSome_then _ c.in_err-sources.ensures.unfit (λ w unfit. inr unfit))
