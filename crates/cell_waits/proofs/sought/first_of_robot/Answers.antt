-- The parts of the robot's table are looked through one by one
use Rattle.std.proofs.Common.{ap, ◌∙◌}
use Rattle.cell_types.specs.declared.words.Machine.TheVariants as machine
use Rattle.cell_machines.specs.Candidates.{arms_in, arms_out, claims, turns, yields}
use Rattle.cell_waits.specs.Rows.{first_sought}
use Rattle.cell_waits.proofs.Finding.{robot_law, sought_law}
use Rattle.cell_waits.proofs.sought.first_of_robot.Goals as goal

pub returns : goal.returns
returns g c =
    let s = g.C.Reads.situation c.args.cell.now in
    let l = c.args.limits in
    let k = c.args.sought in
    rw (c.or-6.ensures, c.or-5.ensures, c.or-4.ensures, c.or-3.ensures, c.or-2.ensures, c.or.ensures)
    (robot_law l s k _ _ _ _ _ _ _ c.handed_by_arm1-first.ensures c.handed_by_arm2-second.ensures
    (c.first_sought-arm_in.ensures ∙ ap (first_sought s k) (c.arms_in_rows.ensures 0)
    ∙ sought_law l s machine.Robot k arms_in)
    (c.first_sought-given.ensures ∙ ap (first_sought s k) (c.yield_rows.ensures 0)
    ∙ sought_law l s machine.Robot k yields)
    (c.first_sought-arm_out.ensures ∙ ap (first_sought s k) (c.arms_out_rows.ensures 0)
    ∙ sought_law l s machine.Robot k arms_out)
    (c.first_sought-turn.ensures ∙ ap (first_sought s k) (c.turn_rows.ensures 0)
    ∙ sought_law l s machine.Robot k turns)
    (c.first_sought-claim.ensures ∙ ap (first_sought s k) (c.claim_rows.ensures 0)
    ∙ sought_law l s machine.Robot k claims))
