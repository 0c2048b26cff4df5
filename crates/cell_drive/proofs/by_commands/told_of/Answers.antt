-- The end with the world's counts, the run's, and then what was measured
use Rattle.std.proofs.Common.{rules}
use Rattle.cell_drive.specs.Commanded.{stand_of}
use Rattle.cell_drive.proofs.Raw.{told-lines}
use Rattle.cell_drive.proofs.by_commands.told_of.Goals as goal

pub returns-clause-told : goal.returns-clause-told
returns-clause-told c =
    told-lines c.args.end (stand_of c.args.run.now) c.totals_of.result c.collisions.result c.in_ok-told.told.items
    c.in_ok-counts.counts.items c.as_slice.result.now c.extend_from_slice.new.self.items c.as_slice-2.result.now
    c.extend_from_slice-2.new.self.items c.in_ok-told.ensures c.totals_of.ensures c.in_ok-counts.ensures
    c.collisions.ensures (search rules) (search rules) (search rules)
