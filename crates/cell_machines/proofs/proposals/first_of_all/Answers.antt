use Rattle.std.proofs.Common.{refl, ◌∙◌}
use Rattle.cell_types.specs.declared.words.Machine.TheVariants as machine
use Rattle.cell_machines.proofs.FirstRows.{table_law}
use Rattle.cell_machines.proofs.proposals.first_of_all.Goals as goal

pub returns-in-Feed : goal.returns-in-Feed
returns-in-Feed g c = rw (c.in-Feed.is) (c.propose_feed.ensures ∙ table_law c.args.limits
    (g.C.Reads.situation c.args.cell.now) c.args.plan machine.Feed _ refl)

pub returns-in-Table : goal.returns-in-Table
returns-in-Table g c = rw (c.in-Table.is) (c.propose_table.ensures c.args.plan ∙ table_law c.args.limits
    (g.C.Reads.situation c.args.cell.now) c.args.plan machine.Table _ refl)

pub returns-in-Press1 : goal.returns-in-Press1
returns-in-Press1 g c = rw (c.in-Press1.is) (c.propose_press1.ensures c.args.plan ∙ table_law c.args.limits
    (g.C.Reads.situation c.args.cell.now) c.args.plan machine.Press1 _ refl)

pub returns-in-Press2 : goal.returns-in-Press2
returns-in-Press2 g c = rw (c.in-Press2.is) (c.propose_press2.ensures c.args.plan ∙ table_law c.args.limits
    (g.C.Reads.situation c.args.cell.now) c.args.plan machine.Press2 _ refl)

pub returns-in-Deposit : goal.returns-in-Deposit
returns-in-Deposit g c = rw (c.in-Deposit.is) (c.propose_deposit.ensures c.args.plan ∙ table_law c.args.limits
    (g.C.Reads.situation c.args.cell.now) c.args.plan machine.Deposit _ refl)
