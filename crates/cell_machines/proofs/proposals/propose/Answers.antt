-- What the robot prefers is useful
use Rattle.std.proofs.Common.{rules, ◌≡◌, Some}
use Rattle.cell_rules.specs.Situations.{situation_of}
use Rattle.cell_machines.specs.Candidates.{preferred}
use Rattle.cell_machines.proofs.Proposed.{preferred_law}
use Rattle.cell_machines.proofs.proposals.propose.Goals as goal

pub returns-in-Some-clause-some : goal.returns-in-Some-clause-some
returns-in-Some-clause-some c =
    let l = c.args.book.now.limits in
    let J = c.args.book.now.entries in
    let is : Some c.in-Some.entry ≡ preferred l (situation_of J) c.args.machine = search rules in
    preferred_law l (situation_of J) c.args.plan c.args.machine (Some c.in-Some.entry) is
