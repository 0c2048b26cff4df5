use Rattle.std.proofs.Common.{rules, false, ap}
use Rattle.cell_method.proofs.Runs.{answers-booked, answers-refused}
use Rattle.cell_method.proofs.booking.book.Goals as goal

-- a refused entry has no command, so none can fail
pub returns-in-Err-clause-answers : goal.returns-in-Err-clause-answers
returns-in-Err-clause-answers g c = (
  false,
  answers-refused g.P.Port.tells g.P.Port.log c.args.book.now.limits c.args.book.now.entries c.apply.new.self.entries
      c.args.ports.now c.args.machine c.args.entry c.in-Err.why false
      (search rules) (ap (λ b. b.entries) c.in-Err.ensures.unchanged),
)

pub returns-clause-answers : goal.returns-clause-answers
returns-clause-answers g c = (
  c.send-has_failed.result,
  rw c.booked_as.ensures
      (answers-booked g.P.Port.tells g.P.Port.log c.args.book.now.limits c.args.book.now.entries
      c.apply.new.self.entries c.args.ports.now c.args.machine c.args.entry c.send-has_failed.result
      c.pick.result.now c.send-has_failed.new.port c.len.result (search rules)
      (ap (λ b. b.entries) c.in-Ok.ensures.booked) c.pick.ensures.value c.send-has_failed.ensures.still
      c.send-has_failed.ensures.told (search rules)),
)
