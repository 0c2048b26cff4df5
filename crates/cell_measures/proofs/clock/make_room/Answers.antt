-- The times that are there stay, and behind them stand zeros
use Rattle.std.proofs.Common.{arith}
use Rattle.cell_measures.proofs.Latest.{grown_at}
use Rattle.cell_measures.proofs.clock.make_room.Goals as goal

pub returns-in_ok-resize-clause-same : goal.returns-in_ok-resize-clause-same
returns-in_ok-resize-clause-same c = λ k. grown_at _ _ _ _ k (omega arith) c.in_ok-resize.ensures.items
