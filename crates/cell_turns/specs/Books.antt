-- The limits of a run's book
use Rattle.cell_rules.specs.declared.limits.BookLimits.{BookLimits}
use Rattle.cell_ports.specs.declared.plan.Plan.{Plan}

-- the limits of a plan: how many entries the journal may have, and how many plates are admitted
abbrev pub limits_of : Plan → BookLimits
limits_of plan = record { entries = plan.journal_limit; plates = plan.plates }
