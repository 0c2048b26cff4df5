-- These sentences name a machine, a station or an arm in words of their own
use Rattle.cell_sentences.proofs.deed.EntryDeedDisplay.fmt.Goals as goal

pub returns-in-Forged-clause-writes : goal.returns-in-Forged-clause-writes
returns-in-Forged-clause-writes g c = rw c.in-Forged.is
    (rw (c.the_machine-in-Forged.ensures) at c.write-in-Forged.ensures.writes)

pub returns-in-Gripped-clause-writes : goal.returns-in-Gripped-clause-writes
returns-in-Gripped-clause-writes g c = rw c.in-Gripped.is (rw (c.station_name-in-Gripped.ensures, c.arm_name.ensures) at
    c.write-in-Gripped.ensures.writes)

pub returns-in-Dropped-clause-writes : goal.returns-in-Dropped-clause-writes
returns-in-Dropped-clause-writes g c = rw c.in-Dropped.is
    (rw (c.station_name-in-Dropped.ensures) at c.write-in-Dropped.ensures.writes)

pub returns-in-Quarantined-clause-writes : goal.returns-in-Quarantined-clause-writes
returns-in-Quarantined-clause-writes g c =
    rw c.in-Quarantined.is (rw (c.station_name-in-Quarantined.ensures) at c.write-in-Quarantined.ensures.writes)
