-- The value is the first that was matched
use Rattle.std.proofs.Common.{◌∙◌}
use Rattle.clap.specs.Words.{found_of}
use Rattle.clap.proofs.WalkLemmas.{first_value-rows}
use Rattle.cell_command.proofs.Facts.{same-value}
use Rattle.cell_command.proofs.order.value.Goals as goal

pub returns-clause-value : goal.returns-clause-value
returns-clause-value c = c.get_str.ensures ∙ first_value-rows (found_of c.args.matches.now) c.args.id.now

pub returns-clause-path : goal.returns-clause-path
returns-clause-path c = same-value c.get_str.result _ (c.get_str.ensures
    ∙ first_value-rows (found_of c.args.matches.now) c.args.id.now)
