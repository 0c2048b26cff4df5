use Rattle.std.proofs.Common.{ap, ◌∙◌}
use Rattle.cell_types.specs.declared.words.Machine.TheVariants as machine
use Rattle.cell_machines.specs.Candidates.{first_row, arms_in, yields, arms_out, turns, claims}
use Rattle.cell_machines.proofs.Handings.{robot_law}
use Rattle.cell_machines.proofs.FirstRows.{first_law}
use Rattle.cell_machines.proofs.robot.propose_robot.Goals as goal

-- the parts of the robot's table are looked through one by one
pub returns : goal.returns
returns g c =
    let s = g.C.Reads.situation c.args.cell.now in
    let l = c.args.limits in
    rw (c.or-6.ensures, c.or-5.ensures, c.or-4.ensures, c.or-3.ensures, c.or-2.ensures, c.or.ensures)
    (robot_law l s _ _ _ _ _ _ _ c.hand_by_arm1-first.ensures c.hand_by_arm2-second.ensures
    (c.first_row-arm_in.ensures ∙ ap first_row (c.arms_in_rows.ensures 0) ∙ first_law l s 0 machine.Robot arms_in)
    (c.first_row-given.ensures ∙ ap first_row (c.yield_rows.ensures 0) ∙ first_law l s 0 machine.Robot yields)
    (c.first_row-arm_out.ensures ∙ ap first_row (c.arms_out_rows.ensures 0) ∙ first_law l s 0 machine.Robot arms_out)
    (c.first_row-turn.ensures ∙ ap first_row (c.turn_rows.ensures 0) ∙ first_law l s 0 machine.Robot turns)
    (c.first_row-claim.ensures ∙ ap first_row (c.claim_rows.ensures 0) ∙ first_law l s 0 machine.Robot claims))
