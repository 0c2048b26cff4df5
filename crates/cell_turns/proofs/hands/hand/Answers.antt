use Rattle.std.proofs.Common.{not, ap, ◌∙◌}
use Rattle.cell_turns.specs.Acts.{act_of}
use Rattle.cell_ports.specs.Logs.{after_hand}
use Rattle.cell_turns.proofs.Acts.{acted_once}
use Rattle.cell_turns.proofs.hands.hand.Goals as goal

-- the act was done, and then there was no memory to book it
pub returns-then-is_err-3-clause-acted : goal.returns-then-is_err-3-clause-acted
returns-then-is_err-3-clause-acted g c = λ tells.
    let was = g.O.OperatorPort.log c.args.operator.now in
    acted_once was (g.O.OperatorPort.log c.do_by_hand.new.operator) (act_of c.args.entry)
    (c.do_by_hand.ensures.told tells ∙ ap (after_hand was (act_of c.args.entry)) (c.is_err-2.ensures.negation
    ∙ ap not c.if-is_err-2.false))
