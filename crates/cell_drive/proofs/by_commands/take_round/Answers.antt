use Rattle.std.proofs.Common.{rules, ◌≡◌, ◌∙◌, ap, refl, subst}
use Rattle.cell_sim.specs.Simulated.{Simulated}
use Rattle.cell_method.specs.Lines.{lines_left}
use Rattle.cell_drive.specs.Commanded.{Acting, Between, ClosesAt, Stand, stand_of}
use Rattle.cell_drive.specs.Deeds.{next_deed}
use Rattle.cell_drive.specs.declared.by_commands.Close.TheVariants as close
use Rattle.cell_drive.proofs.Commanding.{goes-at, goes-ended, goes-more, goes-opened, goes-operated, turn-rounds}
use Rattle.cell_drive.proofs.by_commands.take_round.Goals as goal

pub returns-in-Quit-clause-goes : goal.returns-in-Quit-clause-goes
returns-in-Quit-clause-goes g c = λ on.
    let (to, closes, goes) = c.in_ok-take_lines.ensures.goes in
    let is : c.in_ok-take_lines.field-0 ≡ close.Quit = search rules in (
      to,
      subst (λ x. ClosesAt x to (lines_left g.I.Read.remaining c.args.method.now.lines)
          (lines_left g.I.Read.remaining c.take_lines.new.method.lines)) is closes,
      goes-more (goes-opened c.args.faults.now (stand_of c.args.run.now) (stand_of c.open.new.run) c.args.number
          (lines_left g.I.Read.remaining c.args.method.now.lines) _ _ on c.requires
          c.in_ok-open.ensures.stand c.in_ok-open.ensures.told) goes,
    )

pub returns-in-Long-clause-goes : goal.returns-in-Long-clause-goes
returns-in-Long-clause-goes g c = λ on.
    let (to, closes, goes) = c.in_ok-take_lines.ensures.goes in
    let is : c.in_ok-take_lines.field-0 ≡ close.Long = search rules in (
      to,
      subst (λ x. ClosesAt x to (lines_left g.I.Read.remaining c.args.method.now.lines)
          (lines_left g.I.Read.remaining c.take_lines.new.method.lines)) is closes,
      goes-more (goes-opened c.args.faults.now (stand_of c.args.run.now) (stand_of c.open.new.run) c.args.number
          (lines_left g.I.Read.remaining c.args.method.now.lines) _ _ on c.requires
          c.in_ok-open.ensures.stand c.in_ok-open.ensures.told) goes,
    )

-- the operator had his turn, and the round is over
pub returns-clause-goes : goal.returns-clause-goes
returns-clause-goes g c = λ on.
    let (to, closes, goes) = c.in_ok-take_lines.ensures.goes in
    let left = lines_left g.I.Read.remaining c.take_lines.new.method.lines in
    let is : c.in_ok-take_lines.field-0 ≡ close.Done = search rules in
    let acting = subst (λ x. ClosesAt x to (lines_left g.I.Read.remaining c.args.method.now.lines) left) is closes in (
      Between,
      refl,
      goes-more (goes-opened c.args.faults.now (stand_of c.args.run.now) (stand_of c.open.new.run) c.args.number
          (lines_left g.I.Read.remaining c.args.method.now.lines) _ _ on c.requires
          c.in_ok-open.ensures.stand c.in_ok-open.ensures.told)
          (goes-more (goes-at Acting acting goes)
          (goes-more (goes-operated c.args.faults.now (stand_of c.take_lines.new.run) (stand_of c.operate.new.run) left
          _ _ c.in_ok-operate.ensures.stand c.in_ok-operate.ensures.told)
          (goes-ended c.args.faults.now (stand_of c.operate.new.run)
          (record (stand_of c.operate.new.run) { world = c.end_round.new.self }) left _
          (ap (λ (w : Simulated). record (stand_of c.operate.new.run) { world = w }) c.end_round.ensures)))),
    )

pub returns-in-Quit-clause-rounds : goal.returns-in-Quit-clause-rounds
returns-in-Quit-clause-rounds g c =
    c.in_ok-take_lines.ensures.rounds ∙ ap (λ (s : Stand). s.rounds) c.in_ok-open.ensures.stand

pub returns-in-Long-clause-rounds : goal.returns-in-Long-clause-rounds
returns-in-Long-clause-rounds g c =
    c.in_ok-take_lines.ensures.rounds ∙ ap (λ (s : Stand). s.rounds) c.in_ok-open.ensures.stand

pub returns-clause-rounds : goal.returns-clause-rounds
returns-clause-rounds g c =
    let s = stand_of c.take_lines.new.run in
    ap (λ (t : Stand). t.rounds) c.in_ok-operate.ensures.stand ∙ turn-rounds (next_deed s.world s.lines) s
    ∙ c.in_ok-take_lines.ensures.rounds ∙ ap (λ (t : Stand). t.rounds) c.in_ok-open.ensures.stand
