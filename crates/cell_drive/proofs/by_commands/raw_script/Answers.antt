-- A script that reads well has the lines that are looked at
use Rattle.std.proofs.Common.{refl}
use Rattle.cell_drive.proofs.Raw.{script-read}
use Rattle.cell_drive.proofs.by_commands.raw_script.Goals as goal

pub returns-in-Err : goal.returns-in-Err
returns-in-Err c = λ script is. script-read c.in-Err.error script _ is c.in-Err.ensures.exact
