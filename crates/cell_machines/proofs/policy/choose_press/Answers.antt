use Rattle.std.proofs.Common.{ap, ◌∙◌}
use Rattle.cell_rules.specs.Situations.{situation_of}
use Rattle.cell_machines.specs.Router.{press_chosen}
use Rattle.cell_machines.proofs.Choice.{choice}
use Rattle.cell_machines.proofs.policy.choose_press.Goals as goal

pub returns-clause-best : goal.returns-clause-best
returns-clause-best c = choice (situation_of c.args.book.now.entries) _
    (c.press_chosen.ensures ∙ ap press_chosen c.registers.ensures)
