-- What is told of the run as a whole is three texts, one after another
use Rattle.cell_explain.proofs.ToldOf.{told-then}
use Rattle.cell_explain.proofs.endings.ending.write_run.Goals as goal

pub returns : goal.returns
returns g c =
    let r = c.write_laid_back.result in
    told-then r _ _ _ _ _ c.in_ok-write_limit.ensures
    (told-then r _ _ _ _ _ c.in_ok-write_unadmitted.ensures c.write_laid_back.ensures)
