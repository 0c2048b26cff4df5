use Rattle.cell_types.specs.Entries.{command_of}
use Rattle.cell_turns.specs.Minds.{has_failed_command}
use Rattle.cell_turns.proofs.Logs.{sends_booked, unread_after}
use Rattle.cell_turns.proofs.scheduling.take_turn.Goals as goal

pub returns-in-Some-clause-sends : goal.returns-in-Some-clause-sends
returns-in-Some-clause-sends g c = λ tells before was s.
    sends_booked before (g.P.Port.log c.args.port.now) (g.P.Port.log c.send.new.port) was
    (has_failed_command c.args.watch.now) c.send.result (has_failed_command c.send.new.watch)
    c.args.entries.now.items c.book_turn.new.entries.items c.in-Ok.booked c.in-Some.entry
    c.in-Some.is c.in-Ok.ensures.booked.fault c.in-Ok.ensures.booked.list (c.send.ensures.told tells)
    c.send.ensures.commanded
    c.send.ensures.failed s

pub returns-in-Some-clause-unread : goal.returns-in-Some-clause-unread
returns-in-Some-clause-unread g c = λ tells. unread_after (g.P.Port.log c.args.port.now) (g.P.Port.log c.send.new.port)
    (command_of c.in-Some.entry) c.send.result (c.send.ensures.told tells)
