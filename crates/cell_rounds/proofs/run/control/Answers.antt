-- A run that isn't begun is paused
use Rattle.cell_rounds.specs.Moves.{terms_of}
use Rattle.cell_rounds.specs.Stands.{start}
use Rattle.cell_rounds.proofs.Pausing.{unbegun_paused}
use Rattle.cell_rounds.proofs.run.control.Goals as goal

pub returns-clause-controlled : goal.returns-clause-controlled
returns-clause-controlled g c =
    let told = g.C.Plant.told in
    let keeps = g.K.Keeper.keeps in
    let T = terms_of g.R.Run.limits c.args.terms.plan.now c.args.terms.waits in
    let J = c.args.start.book.entries in
    let lines = c.args.start.script in
    let last = c.args.start.pending in
    c.finish.ensures.halts (start c.args.plant.now c.args.keeper.now J lines last)
    (unbegun_paused told keeps T c.args.plant.now c.args.keeper.now c.args.start.book.limits J lines last
    c.start-paused.result c.start-paused.ensures)
