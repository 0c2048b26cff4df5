-- The list has the values that were matched
use Rattle.clap.specs.Words.{found_of}
use Rattle.cell_command.proofs.Facts.{same-values}
use Rattle.cell_command.proofs.order.values.Goals as goal

pub returns-in-Ok : goal.returns-in-Ok
returns-in-Ok c = same-values (found_of c.args.matches.now) c.args.id.now c.in_ok-get_strs.field-0.now
    c.in-Ok.values.items c.in_ok-get_strs.ensures c.in-Ok.ensures.items
