-- The command is looked for, was found, or is sent again
use Rattle.std.proofs.Common.{rules, ◌≡◌, ap, refl}
use Rattle.std.specs.Prelude.{None, false}
use Rattle.cell_rounds.specs.Calls.{finds, halted, looks, passes, sends}
use Rattle.cell_rounds.proofs.Moving.{halted_by, not_done}
use Rattle.cell_rounds.proofs.Turns.{resent_as}
use Rattle.cell_rounds.proofs.settle.is_settled.Goals as goal

pub returns-in_default-clause-settles : goal.returns-in_default-clause-settles
returns-in_default-clause-settles g c = passes refl

pub returns-then-ne-clause-settles : goal.returns-then-ne-clause-settles
returns-then-ne-clause-settles g c = passes refl

pub returns-in-Open-clause-settles : goal.returns-in-Open-clause-settles
returns-in-Open-clause-settles g c =
    let own : c.in-Some.pending.last.machine ≡ c.args.machine = search rules in
    rw c.in-Some.is (looks c.read-reading.result refl own c.read-reading.ensures.told)

pub returns-in_err-send_again-in-Open-2-clause-settles : goal.returns-in_err-send_again-in-Open-2-clause-settles
returns-in_err-send_again-in-Open-2-clause-settles g c =
    let own : c.in-Some.pending.last.machine ≡ c.args.machine = search rules in
    rw (c.in-Some.is, c.send_again.ensures.pending)
    (sends c.read-reading.result (not_done c.from_residual.result false c.from_residual.ensures.0) own
    c.read-reading.ensures.told
    (resent_as g.C.Plant.told c.in-Some.pending.last _ _ c.read-reading.new.self c.send_again.new.plant
    c.args.cell.now.watches c.send_again.new.cell.watches
    (halted_by c.from_residual.result c.send_again.result c.in_err-send_again-in-Open-2.field-0.0
    c.from_residual.ensures.1 c.in_err-send_again-in-Open-2.was) c.send_again.ensures.sends))

pub returns-in-WentOut-clause-settles : goal.returns-in-WentOut-clause-settles
returns-in-WentOut-clause-settles g c =
    let own : c.in-Some.pending.last.machine ≡ c.args.machine = search rules in
    rw c.in-Some.is (finds c.read-reading.result refl own c.read-reading.ensures.told)

pub returns-in_ok-send_again-in-Open-2-clause-settles : goal.returns-in_ok-send_again-in-Open-2-clause-settles
returns-in_ok-send_again-in-Open-2-clause-settles g c =
    let own : c.in-Some.pending.last.machine ≡ c.args.machine = search rules in
    rw (c.in-Some.is, c.send_again.ensures.pending)
    (sends c.read-reading.result (λ is. cc) own c.read-reading.ensures.told
    (resent_as g.C.Plant.told c.in-Some.pending.last _ None c.read-reading.new.self c.send_again.new.plant
    c.args.cell.now.watches c.send_again.new.cell.watches (ap halted c.in_ok-send_again-in-Open-2.was)
    c.send_again.ensures.sends))
