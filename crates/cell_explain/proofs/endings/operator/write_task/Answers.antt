-- Where no plate stands at the station, the line names the station alone
use Rattle.std.proofs.Common.{sym}
use Rattle.cell_explain.proofs.endings.operator.write_task.Goals as goal

pub returns-in-None : goal.returns-in-None
returns-in-None g c = rw (c.in-Clear.is, sym c.plate_at.ensures, c.in-None.is)
    (rw c.station_name.ensures at c.writeln.ensures.bytes)
