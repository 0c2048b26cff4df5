use Rattle.std.proofs.Common.{ap, ◌∙◌, refl, false, ◌+◌}
use Rattle.cell_types.specs.Entries.{command_of}
use Rattle.cell_ports.specs.Logs.{Log}
use Rattle.cell_turns.proofs.Logs.{sends_booked}
use Rattle.cell_workers.proofs.Workers.{serves_turn, shown_turn, shown_sent, answered_quiet, answered_shown, at_none}
use Rattle.cell_workers.proofs.Workers.{saw_sent, sends_read, answers_sent}
use Rattle.cell_workers.proofs.working.step.Goals as goal

-- the turn was refused, but its reading was taken all the same
pub returns-in-Err-clause-answered : goal.returns-in-Err-clause-answered
returns-in-Err-clause-answered g c = λ tells before k s.
    answered_quiet c.args.machine c.args.plan.now c.read-reading.result _ _ _ before (g.P.Port.log c.args.port.now)
    (g.P.Port.log c.read-reading.new.self) k (ap (λ (l : Log). l.answers) (c.read-reading.ensures.told tells))
    c.in-Err.ensures.unchanged.0 s

pub returns-in_default-clause-answered : goal.returns-in_default-clause-answered
returns-in_default-clause-answered g c = λ tells before k s.
    answered_shown c.args.machine c.args.plan.now before (g.P.Port.log c.read-reading.new.self) _
    c.locked_turn.new.worker.watch (k + 1)
    (shown_turn c.args.machine c.args.plan.now c.read-reading.result c.in-Ok.booked _ _ _ _ _ _ before
    (g.P.Port.log c.args.port.now) (g.P.Port.log c.read-reading.new.self) k
    (ap (λ (l : Log). l.answers) (c.read-reading.ensures.told tells)) c.in-Ok.ensures.served s)

-- nothing was booked, so after the reading the port was left alone
pub returns-in_default-clause-shown : goal.returns-in_default-clause-shown
returns-in_default-clause-shown g c = λ tells before k s.
    shown_turn c.args.machine c.args.plan.now c.read-reading.result c.in-Ok.booked _ _ _ _ _ _ before
    (g.P.Port.log c.args.port.now) (g.P.Port.log c.read-reading.new.self) k
    (ap (λ (l : Log). l.answers) (c.read-reading.ensures.told tells)) c.in-Ok.ensures.served s

pub returns-clause-serves : goal.returns-clause-serves
returns-clause-serves g c = λ start s. serves_turn c.args.machine c.args.plan.now c.read-reading.result c.in-Ok.booked _
    _ _ _ _ _ start c.in-Ok.ensures.served s

pub returns-clause-sends : goal.returns-clause-sends
returns-clause-sends g c = λ tells before s.
    let served = c.in-Ok.ensures.served in
    sends_booked before (g.P.Port.log c.read-reading.new.self) (g.P.Port.log c.send-failed.new.port) false _
    c.send-failed.result _ _ _ c.in-Ok.booked c.in-Some.entry
    c.in-Some.is served.fault served.entries (c.send-failed.ensures.told tells) c.send-failed.ensures.commanded
    c.send-failed.ensures.failed
    (sends_read before (g.P.Port.log c.args.port.now) (g.P.Port.log c.read-reading.new.self) false _ _
    c.read-reading.result (c.read-reading.ensures.told (c.send-failed.ensures.still tells)) s)

pub returns-clause-answered : goal.returns-clause-answered
returns-clause-answered g c = λ tells before k s.
    answered_shown c.args.machine c.args.plan.now before (g.P.Port.log c.send-failed.new.port) _
    c.locked_turn.new.worker.watch (k + 1)
    (shown_turn c.args.machine c.args.plan.now c.read-reading.result c.in-Ok.booked _ _ _ _ _ _ before
    (g.P.Port.log c.args.port.now) (g.P.Port.log c.send-failed.new.port) k
    (answers_sent (g.P.Port.log c.read-reading.new.self) (g.P.Port.log c.send-failed.new.port)
    (command_of c.in-Some.entry) c.send-failed.result (c.send-failed.ensures.told tells)
    ∙ ap (λ (l : Log). l.answers) (c.read-reading.ensures.told (c.send-failed.ensures.still tells)))
    c.in-Ok.ensures.served s)

-- sending reads nothing, so what the answers show is the same after it
pub returns-clause-shown : goal.returns-clause-shown
returns-clause-shown g c = at_none c.lost_by.result (λ tells before k s.
    shown_sent c.args.machine c.args.plan.now before (g.P.Port.log c.send-failed.new.port)
    (g.P.Port.log c.send-failed.new.port) _ c.locked_turn.new.worker.watch c.send-failed.new.watch (k + 1) refl
    (saw_sent c.args.machine c.args.plan.now c.send-failed.result c.locked_turn.new.worker.watch c.send-failed.new.watch
    c.send-failed.ensures.fits)
    (shown_turn c.args.machine c.args.plan.now c.read-reading.result c.in-Ok.booked _ _ _ _ _ _ before
    (g.P.Port.log c.args.port.now) (g.P.Port.log c.send-failed.new.port) k
    (answers_sent (g.P.Port.log c.read-reading.new.self) (g.P.Port.log c.send-failed.new.port)
    (command_of c.in-Some.entry) c.send-failed.result (c.send-failed.ensures.told tells)
    ∙ ap (λ (l : Log). l.answers) (c.read-reading.ensures.told (c.send-failed.ensures.still tells)))
    c.in-Ok.ensures.served s))
