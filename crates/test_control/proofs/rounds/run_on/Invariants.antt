-- A run over a cell
use Rattle.test_control.proofs.rounds.run_on.Given as goal

-- the run is the one of the book's limits and of the blanks that are handed to it
abbrev pub ghosts-control : goal.ghosts-control
ghosts-control g a = record {
  parts = a.blanks.entries.parts;
  limits = a.start.book.limits;
  entries_name = a.blanks.entries.name;
  admitted_name = a.blanks.admitted.name;
  forged_name = a.blanks.forged.name;
  quarantined_name = a.blanks.quarantined.name;
  delivered_name = a.blanks.delivered.name;
  reinstated_name = a.blanks.reinstated.name;
}
