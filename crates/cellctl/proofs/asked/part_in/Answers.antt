-- The words before and behind the slash may write no part
use Rattle.std.proofs.Common.{rules}
use Rattle.cellctl.proofs.Parts.{partless}
use Rattle.cellctl.proofs.asked.part_in.Goals as goal

pub returns-clause-wrong : goal.returns-clause-wrong
returns-clause-wrong c =
    partless c.args.word.now c.in_ok-number.number.now c.in_ok-number.count.now c.part_by.result (search rules)
    (search rules) c.part_by.ensures.wrong
