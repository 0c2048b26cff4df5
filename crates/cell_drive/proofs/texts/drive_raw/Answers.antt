use Rattle.std.proofs.Common.{option_map}
use Rattle.cell_method.specs.Lines.{lines_left}
use Rattle.cell_drive.proofs.Raw.{driven, journal-refused, script-refused}
use Rattle.cell_drive.proofs.texts.drive_raw.Goals as goal

pub returns-in-Err-clause-run : goal.returns-in-Err-clause-run
returns-in-Err-clause-run g c =
    script-refused c.args.inputs.now (option_map (λ j. j.now.entries) c.args.from)
    (lines_left g.I.Read.remaining c.args.method.now.lines) _ _ c.in-Err.error c.refuse_script.result
    (c.in-Err.ensures c.args.inputs.now.script c.requires) c.refuse_script.ensures

pub returns-in-Err-world_from-clause-run : goal.returns-in-Err-world_from-clause-run
returns-in-Err-world_from-clause-run g c =
    journal-refused c.args.inputs.now (option_map (λ j. j.now.entries) c.args.from)
    (lines_left g.I.Read.remaining c.args.method.now.lines) _ _ c.in-Err-world_from.error c.refuse_journal.result
    (c.in-Ok.ensures c.args.inputs.now.script c.requires).0 c.in-Err-world_from.ensures.refused c.refuse_journal.ensures

pub returns-clause-run : goal.returns-clause-run
returns-clause-run g c =
    driven c.args.inputs.now (option_map (λ j. j.now.entries) c.args.from) c.in-Ok-world_from.world c.in-Ok.script.items
    (lines_left g.I.Read.remaining c.args.method.now.lines) _ _ _ c.drive_commands.result
    (c.in-Ok.ensures c.args.inputs.now.script c.requires) c.in-Ok-world_from.ensures.world c.in_ok-begin_from.ensures
    c.drive_commands.ensures.run
