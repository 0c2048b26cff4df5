use Rattle.std.proofs.Common.{sym}
use Rattle.cell_method.specs.Lines.{lines_left}
use Rattle.cell_drive.specs.Commanded.{stand_of, start}
use Rattle.cell_drive.proofs.Raw.{runs}
use Rattle.cell_drive.proofs.by_commands.drive_commands.Goals as goal

pub returns-clause-run : goal.returns-clause-run
returns-clause-run g c =
    runs c.args.inputs.now (start c.args.world c.args.script.items) (stand_of c.take_rounds.new.run)
    (lines_left g.I.Read.remaining c.args.method.now.lines)
    (lines_left g.I.Read.remaining c.take_rounds.new.method.lines) _ c.end_of-end.result _ _ _ c.tell_run.result
    c.in_ok-ended.ensures.run c.end_of-end.ensures c.tell_run.ensures.told c.tell_run.ensures.status
    c.tell_run.ensures.memory
