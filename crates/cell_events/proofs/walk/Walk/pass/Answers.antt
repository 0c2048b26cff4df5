-- Of a journal's entries there are fewer than a count can hold
use Rattle.std.proofs.Common.{rules}
use Rattle.cell_journal.specs.Snapshots.{state_of}
use Rattle.cell_events.proofs.Counts.{few_room}
use Rattle.cell_events.proofs.walk.Walk.pass.Goals as goal

pub change-requires : goal.change-requires
unfolding state_of
change-requires c = few_room (state_of c.args.self.now.snapshot) c.args.self.now.counted (search rules)
