use Rattle.std.proofs.Common.{◌+◌, length, ap, ◌∙◌}
use Rattle.cell_types.specs.declared.words.Actor.TheVariants as actor
use Rattle.cell_ports.specs.Logs.{Log}
use Rattle.cell_workers.proofs.Workers.{serves_start, sends_begun, shown_start, sent_all, evidence, turns_answered}
use Rattle.cell_workers.proofs.Workers.{lost_more}
use Rattle.cell_workers.proofs.working.run_worker.Goals as goal

pub returns-clause-actor : goal.returns-clause-actor
returns-clause-actor g c = (c.serve_all-ended.ensures.serves c.args.shares
    (serves_start (actor.Machine c.args.machine) _ _ c.args.shares c.first_worker-worker.ensures.entries
    c.first_worker-worker.ensures.shares)).actor

pub returns-clause-counts : goal.returns-clause-counts
returns-clause-counts g c = (c.serve_all-ended.ensures.serves c.args.shares
    (serves_start (actor.Machine c.args.machine) _ _ c.args.shares c.first_worker-worker.ensures.entries
    c.first_worker-worker.ensures.shares)).counts

pub returns-clause-sent : goal.returns-clause-sent
returns-clause-sent g c = λ tells.
    let t = c.command.ensures.still tells in
    let log = g.P.Port.log c.args.port.now in
    sent_all c.args.machine log (g.P.Port.log c.serve_all-ended.new.port) (g.P.Port.log c.command.new.self) _ _ _
    (c.command.ensures.told tells) (c.serve_all-ended.ensures.sends t log
    (sends_begun log _ _ c.first_worker-worker.ensures.entries c.first_worker-worker.ensures.failed))

pub returns-clause-evidence : goal.returns-clause-evidence
returns-clause-evidence g c = λ tells.
    let t = c.command.ensures.still tells in
    let log = g.P.Port.log c.args.port.now in
    let answered = c.serve_all-ended.ensures.answered t log
    (shown_start c.args.machine c.args.plan.now log _ _ c.first_worker-worker.ensures.entries
    c.first_worker-worker.ensures.saw) in
    evidence c.args.plan.now log (g.P.Port.log c.serve_all-ended.new.port) (g.P.Port.log c.command.new.self) _
    answered.0 (ap (λ (l : Log). l.answers) (c.command.ensures.told tells)) answered.1

pub returns-clause-turns : goal.returns-clause-turns
returns-clause-turns g c = λ ended tells.
    let t = c.command.ensures.still tells in
    let log = g.P.Port.log c.args.port.now in
    let answered = c.serve_all-ended.ensures.answered t log
    (shown_start c.args.machine c.args.plan.now log _ _ c.first_worker-worker.ensures.entries
    c.first_worker-worker.ensures.saw) in
    turns_answered c.args.plan.now log (g.P.Port.log c.serve_all-ended.new.port) (g.P.Port.log c.command.new.self) _
    answered.0 (ap (λ (l : Log). l.answers) (c.command.ensures.told tells)) answered.1
    ∙ ap (λ n. length log.answers + n) (answered.2 ended)

pub returns-clause-lost : goal.returns-clause-lost
returns-clause-lost g c = λ ended tells.
    let t = c.command.ensures.still tells in
    let log = g.P.Port.log c.args.port.now in
    lost_more log (g.P.Port.log c.serve_all-ended.new.port) (g.P.Port.log c.command.new.self) _ _ _ _
    (c.serve_all-ended.ensures.lost ended) (c.command.ensures.told tells)
    (c.serve_all-ended.ensures.sends t log
    (sends_begun log _ _ c.first_worker-worker.ensures.entries c.first_worker-worker.ensures.failed))
