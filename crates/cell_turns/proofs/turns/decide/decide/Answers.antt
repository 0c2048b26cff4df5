use Rattle.std.proofs.Common.{◌≡◌, subst, sym}
use Rattle.cell_types.specs.declared.words.Machine.{Machine}
use Rattle.cell_turns.specs.Rulings.{ruling_by}
use Rattle.cell_turns.proofs.turns.decide.decide.Goals as goal

pub returns : goal.returns
returns c =
    subst (λ (m : Machine). c.ruling_by.result ≡ ruling_by c.args.book.now.entries m c.args.watch.now.memory
    c.args.found.now) (sym c.requires)
    c.ruling_by.ensures
