use Rattle.test_refused.proofs.turns.turn.Given as goal

abbrev pub ghosts-admit : goal.ghosts-admit
ghosts-admit g a = record {
  parts = a.blanks.entries.parts;
  limits = a.book.limits;
  entries_name = a.blanks.entries.name;
  admitted_name = a.blanks.admitted.name;
  forged_name = a.blanks.forged.name;
  quarantined_name = a.blanks.quarantined.name;
  delivered_name = a.blanks.delivered.name;
  reinstated_name = a.blanks.reinstated.name;
}
