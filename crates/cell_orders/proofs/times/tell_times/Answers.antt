-- Where a write is refused, a part of the line was written
use Rattle.std.proofs.Common.{rules}
use Rattle.cell_orders.proofs.times.tell_times.Goals as goal

pub returns-in_err-write_pieces : goal.returns-in_err-write_pieces
returns-in_err-write_pieces g c = (c.as_bytes.result.now, search rules)
