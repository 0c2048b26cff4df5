-- each machine's handle is the one of its own worker
use Rattle.cell_types.specs.declared.words.Machine.TheVariants as machine
use Rattle.cell_workers.proofs.team.join_six.Goals as goal

pub join_machine-requires : goal.join_machine-requires
join_machine-requires g c = c.requires machine.Feed

pub join_machine-requires-2 : goal.join_machine-requires-2
join_machine-requires-2 g c = c.requires machine.Table

pub join_machine-requires-3 : goal.join_machine-requires-3
join_machine-requires-3 g c = c.requires machine.Robot

pub join_machine-requires-4 : goal.join_machine-requires-4
join_machine-requires-4 g c = c.requires machine.Press1

pub join_machine-requires-5 : goal.join_machine-requires-5
join_machine-requires-5 g c = c.requires machine.Press2

pub join_machine-requires-6 : goal.join_machine-requires-6
join_machine-requires-6 g c = c.requires machine.Deposit
