use Rattle.std.proofs.Common.{sym}
use Rattle.cell_drive.proofs.hands.tell_deed.Goals as goal

pub returns-in-Clear : goal.returns-in-Clear
returns-in-Clear g c = rw c.in-Clear.is (rw (sym c.station_word.ensures) c.writeln-in-Clear.ensures.bytes)
