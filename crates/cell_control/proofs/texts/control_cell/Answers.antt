-- All of the input is the cell's lines
use Rattle.std.proofs.Common.{◌≡◌, ap, refl, subst, sym, true}
use Rattle.cell_rules.specs.History.{History}
use Rattle.cell_rules.specs.Legal.{legal}
use Rattle.cell_control.specs.Controlling.{begun}
use Rattle.cell_control.proofs.Closing.{controls_as}
use Rattle.cell_control.proofs.texts.control_cell.Goals as goal

pub returns : goal.returns
returns g c =
    let start = c.prepare-prepared.new.start in
    let prepared = c.in-Ok.ensures in
    let book = c.prepare-prepared.ensures.book in
    let far = c.run_far-left in
    let outcome = far.result.outcome in
    let contents = g.W.Write.contents in
    record {
      controlling = begun start.script outcome.halt outcome.book.entries prepared.lines
          (controls_as g.K.Keeper.keeps c.args.orders.plan c.args.options.wait c.args.options.resume start.book
          c.args.book start.script start.pending _ _ _ (contents c.args.streams.output) (contents far.result.output) _
          c.args.keeper.now far.new.keeper outcome.halt outcome.book.entries book prepared.pending refl
          (ap contents (sym c.tell_outcome-status.ensures.output)) far.ensures.controls)
          (subst (λ (h : History). legal h.limits outcome.book.entries ≡ true) book far.ensures.legal)
          far.ensures.safe c.tell_outcome-status.ensures.status;
    }
