-- A word that names a machine is one more of those that do, and the search ends at another
use Rattle.std.proofs.Common.{◌≡◌, ◌∙◌, [], true, arith, subst, sym}
use Rattle.std.proofs.lemmas.List.Elements.{All-more}
use Rattle.std.proofs.lemmas.List.{take_all}
use Rattle.cell_orders.specs.Asked.{AreMachines, names_machine}
use Rattle.cell_orders.proofs.asked.stranger.Goals as goal

pub loop-word-preserved : goal.loop-word-preserved
loop-word-preserved c =
    All-more (λ w. names_machine w.now ≡ true) c.args.words.now c.loop-word.word-index
    (record { ref_ptr = (0, 0); now = [] }) c.loop-word-test.true
    c.loop-word.invariant (sym c.names_machine.ensures ∙ c.if-not-names_machine.false)

pub returns-clause-none : goal.returns-clause-none
returns-clause-none c = subst AreMachines
    (take_all c.loop-word.word-index c.args.words.now (omega (arith, c.loop-word-test.false))) c.loop-word.invariant
