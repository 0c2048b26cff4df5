-- The cell was reached, and what its rounds were is what is seen of them
use Rattle.std.proofs.Common.{◌∙◌, ap, subst, length}
use Rattle.std.specs.Prelude.{⊤}
use Rattle.cell_lines.specs.Stands.{Told, stand_of}
use Rattle.cell_rounds.specs.Moves.{terms_of}
use Rattle.cell_rounds.proofs.Mapping.{controlled_map}
use Rattle.cell_control.specs.Controlling.{Starts, reached}
use Rattle.cell_control.proofs.texts.control_far.Goals as goal

pub returns-clause-ran : goal.returns-clause-ran
returns-clause-ran g c =
    let f = stand_of g.I.Read.remaining g.W.Write.contents in
    let start = c.args.start in
    let begun = f c.reach.new.far in
    let count = c.len-entries.ensures.value ∙ ap (λ (j : _). length j.entries) c.journal.ensures in
    reached begun (subst (λ n. Starts c.args.resumes n (f c.args.far.now) begun) count c.in_default.ensures.started)
    (controlled_map f (λ a b x. Told (f a) (f b) x) Told g.K.Keeper.keeps
    (terms_of start.book.limits c.args.terms.plan.now c.args.terms.waits) (λ a. ⊤) (λ a b x told holds. tt)
    (λ a b x told holds. told) c.control.result.halt
    c.reach.new.far c.control.new.plant c.args.keeper.now c.control.new.keeper start.book.entries
    c.control.result.book.entries start.script start.pending c.control.ensures.controlled tt)
