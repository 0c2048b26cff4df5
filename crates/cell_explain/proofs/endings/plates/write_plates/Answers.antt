-- What is told of a station comes behind what is told of those before it
use Rattle.cell_explain.specs.Plates.{told_at}
use Rattle.cell_explain.proofs.ToldOf.{told-more}
use Rattle.cell_explain.proofs.endings.plates.write_plates.Goals as goal

pub loop-station-preserved : goal.loop-station-preserved
loop-station-preserved g c =
    record {
      all = c.loop-station.invariant.all;
      told = told-more (told_at c.args.book.now.limits c.args.book.now.entries) _ _ _ _ c.loop-station.station-index _
          c.loop-station-test.true c.loop-station.invariant.told c.in_ok-write_station.ensures;
    }
