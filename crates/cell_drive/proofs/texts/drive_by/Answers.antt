use Rattle.std.proofs.Common.{IfOk, ◌<◌, Bool, option_map, subst, sym}
use Rattle.cell_method.specs.Lines.{lines_left}
use Rattle.cell_drive.specs.Drives.{DrivesBy}
use Rattle.cell_drive.proofs.texts.drive_by.Goals as goal

pub returns-then-driving-clause-run : goal.returns-then-driving-clause-run
returns-then-driving-clause-run g c = rw c.if-driving.true c.drive_raw.ensures.run

pub returns-else-driving-clause-run : goal.returns-else-driving-clause-run
returns-else-driving-clause-run g c = rw c.if-driving.false c.drive_entries.ensures.run
