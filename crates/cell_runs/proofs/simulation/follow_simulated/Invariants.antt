-- The run by which a journal is followed in the simulated cell
use Rattle.cell_runs.specs.Runs.{limits_of}
use Rattle.cell_runs.proofs.simulation.follow_simulated.Given as goal

-- the run is the one of the plan's limits and of the blanks that are handed to it
abbrev pub ghosts-follow_over : goal.ghosts-follow_over
ghosts-follow_over a = record {
  parts = a.blanks.entries.parts;
  limits = limits_of a.plan.now;
  entries_name = a.blanks.entries.name;
  admitted_name = a.blanks.admitted.name;
  forged_name = a.blanks.forged.name;
  quarantined_name = a.blanks.quarantined.name;
  delivered_name = a.blanks.delivered.name;
  reinstated_name = a.blanks.reinstated.name;
}
