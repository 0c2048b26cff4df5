use Rattle.test_refused.proofs.ledger.kept_apply.Given as goal

abbrev pub ghosts-clear_kept : goal.ghosts-clear_kept
ghosts-clear_kept g a = record {
  parts = a.blanks.entries.parts;
  limits = a.book.limits;
  entries_name = a.blanks.entries.name;
  admitted_name = a.blanks.admitted.name;
  forged_name = a.blanks.forged.name;
  quarantined_name = a.blanks.quarantined.name;
  delivered_name = a.blanks.delivered.name;
  reinstated_name = a.blanks.reinstated.name;
}
