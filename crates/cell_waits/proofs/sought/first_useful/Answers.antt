-- A machine's table is looked through, and the robot's by its parts
use Rattle.std.proofs.Common.{◌∙◌}
use Rattle.cell_types.specs.declared.words.Machine.TheVariants as machine
use Rattle.cell_waits.proofs.Finding.{table_law}
use Rattle.cell_waits.proofs.sought.first_useful.Goals as goal

pub returns-in-Feed : goal.returns-in-Feed
returns-in-Feed g c = rw c.in-Feed.is (c.first_sought.ensures ∙ table_law c.args.limits
    (g.C.Reads.situation c.args.cell.now) machine.Feed c.args.sought _ c.feed_rows.ensures)

pub returns-in-Table : goal.returns-in-Table
returns-in-Table g c = rw c.in-Table.is (c.first_sought-in-Table.ensures ∙ table_law c.args.limits
    (g.C.Reads.situation c.args.cell.now) machine.Table c.args.sought _ (c.table_rows.ensures 0))

pub returns-in-Press1 : goal.returns-in-Press1
returns-in-Press1 g c = rw c.in-Press1.is (c.first_sought-in-Press1.ensures ∙ table_law c.args.limits
    (g.C.Reads.situation c.args.cell.now) machine.Press1 c.args.sought _ (c.press1_rows.ensures 0))

pub returns-in-Press2 : goal.returns-in-Press2
returns-in-Press2 g c = rw c.in-Press2.is (c.first_sought-in-Press2.ensures ∙ table_law c.args.limits
    (g.C.Reads.situation c.args.cell.now) machine.Press2 c.args.sought _ (c.press2_rows.ensures 0))

pub returns-in-Deposit : goal.returns-in-Deposit
returns-in-Deposit g c = rw c.in-Deposit.is (c.first_sought-in-Deposit.ensures ∙ table_law c.args.limits
    (g.C.Reads.situation c.args.cell.now) machine.Deposit c.args.sought _ (c.deposit_rows.ensures 0))
