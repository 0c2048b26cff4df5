-- The cell that is measured is always reached, and its run is within the plan's limits, which are the book's
use Rattle.cell_drive.proofs.Gauging.{reached}
use Rattle.cell_drive.proofs.own.run_own.Goals as goal

pub run_over-requires-clause-reached : goal.run_over-requires-clause-reached
run_over-requires-clause-reached c = reached

pub returns : goal.returns
returns c =
    let run = rw c.in_ok-book.ensures at c.run_over.ensures.run in
    let ran = rw c.in_ok-book.ensures at c.run_over.ensures.ran in
    record { run = run; ran = ran }
