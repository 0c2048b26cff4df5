-- The run by which the simulated cell goes on
use Rattle.cell_branches.proofs.trunk.next_pause.Given as goal

-- the run is the one of the book's limits and of the blanks that are handed to it
abbrev pub ghosts-go_on : goal.ghosts-go_on
ghosts-go_on a = record {
  parts = a.blanks.entries.parts;
  limits = a.pause.limits;
  entries_name = a.blanks.entries.name;
  admitted_name = a.blanks.admitted.name;
  forged_name = a.blanks.forged.name;
  quarantined_name = a.blanks.quarantined.name;
  delivered_name = a.blanks.delivered.name;
  reinstated_name = a.blanks.reinstated.name;
}
