-- The far end begins with all that the reader has left
use Rattle.cell_rounds.specs.Moves.{terms_of}
use Rattle.cell_control.proofs.Closing.{controls_of}
use Rattle.cell_control.proofs.texts.run_far.Goals as goal

pub returns-clause-controls : goal.returns-clause-controls
returns-clause-controls g c =
    let start = c.args.start in
    controls_of g.K.Keeper.keeps (terms_of start.book.limits c.args.terms.plan.now c.args.terms.waits) c.args.resumes
    start.book.entries start.script start.pending (g.I.Read.remaining c.args.streams.input)
    (g.W.Write.contents c.args.streams.output) _ c.args.keeper.now c.control_far-outcome.new.keeper
    c.control_far-outcome.result.halt c.control_far-outcome.result.book.entries _ _ _ c.new-far.ensures.stand
    c.control_far-outcome.ensures.ran c.finish-output.ensures.written
