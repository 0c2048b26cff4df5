-- What the simulated cell answers where it is asked as a whole cell, and what it is then
use Rattle.std.specs.Prelude.{◌≡◌, true, not, List, None, Ok}
use Rattle.cell_plant.specs.Asked.{Acted, Asked, Closed, Handed, Opened, Ordered, Refused, Replied, Shown, Wished}
use Rattle.cell_sim.specs.declared.fault.PlannedFault.{PlannedFault}
use Rattle.cell_sim.specs.Commands.{after_command, fails}
use Rattle.cell_sim.specs.Hands.{after_hand}
use Rattle.cell_sim.specs.Readings.{after_reading, after_round, shown}
use Rattle.cell_sim.specs.Simulated.{Simulated}

-- it is always reached, and nobody does or wants anything there: readings, commands, hands and the ends of rounds alone
-- make another world of it
abbrev pub Answers : List PlannedFault → Simulated → Simulated → Asked → Type 0
Answers faults old new (Opened ok) = (ok ≡ true) × (new ≡ old)
Answers faults old new (Shown m r) = (r ≡ shown old m) × (new ≡ after_reading old m)
Answers faults old new (Ordered m c r) = (r ≡ Ok (not (fails faults old c))) × (new ≡ after_command faults old c)
Answers faults old new (Handed a r) = (r ≡ Ok true) × (new ≡ after_hand old a)
Answers faults old new (Acted task) = (task ≡ None) × (new ≡ old)
Answers faults old new (Refused task why) = new ≡ old
Answers faults old new (Wished wish) = (wish ≡ None) × (new ≡ old)
Answers faults old new (Replied reply ok) = (ok ≡ true) × (new ≡ old)
Answers faults old new (Closed ok) = (ok ≡ true) × (new ≡ after_round old)

-- a simulated cell: its world, and the faults of its motions
pub record SimCell : Type 0 where
  pub world : Simulated
  pub faults : List PlannedFault

abbrev pub sim_cell : Simulated → List PlannedFault → SimCell
sim_cell world faults = record { world = world; faults = faults }

-- it answers so, and its faults stay as they are
abbrev pub AnswersSo : SimCell → SimCell → Asked → Type 0
AnswersSo old new asked = (new.faults ≡ old.faults) × Answers old.faults old.world new.world asked
