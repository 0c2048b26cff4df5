use Rattle.test_turns.proofs.ledger.shares_count_what_was_booked_with_them.Given as goal

abbrev pub ghosts-two_shares : goal.ghosts-two_shares
ghosts-two_shares g a = record {
  parts = a.blanks.entries.parts;
  limits = a.book.limits;
  entries_name = a.blanks.entries.name;
  admitted_name = a.blanks.admitted.name;
  forged_name = a.blanks.forged.name;
  quarantined_name = a.blanks.quarantined.name;
  delivered_name = a.blanks.delivered.name;
  reinstated_name = a.blanks.reinstated.name;
}
