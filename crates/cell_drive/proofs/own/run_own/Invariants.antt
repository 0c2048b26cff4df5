-- A run of the cell that is measured
use Rattle.cell_drive.proofs.own.run_own.Given as goal

-- the run is the one of the book's limits and of the blanks that are handed to it
abbrev pub ghosts-run_over : goal.ghosts-run_over
ghosts-run_over a = record {
  parts = a.blanks.entries.parts;
  limits = a.book.limits;
  entries_name = a.blanks.entries.name;
  admitted_name = a.blanks.admitted.name;
  forged_name = a.blanks.forged.name;
  quarantined_name = a.blanks.quarantined.name;
  delivered_name = a.blanks.delivered.name;
  reinstated_name = a.blanks.reinstated.name;
}
