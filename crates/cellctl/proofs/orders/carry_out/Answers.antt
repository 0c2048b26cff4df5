-- What a command ends with is what was written for its order
use Rattle.cellctl.proofs.Outcomes.{told-ok}
use Rattle.cellctl.proofs.orders.carry_out.Goals as goal

pub returns-in-Sweep : goal.returns-in-Sweep
returns-in-Sweep g c = rw c.in-Sweep.is (rw c.without_ending-in-Sweep.ensures c.sweep_words.ensures)

pub returns-in-Explore : goal.returns-in-Explore
returns-in-Explore g c = rw c.in-Explore.is (rw c.without_ending-in-Explore.ensures c.explore_words.ensures)

pub returns-in-Show : goal.returns-in-Show
returns-in-Show g c =
    rw c.in-Show.is
    (rw c.without_ending-in-Show.ensures (told-ok c.show_words.result _ c.show_words.ensures))

pub returns-in-Explain : goal.returns-in-Explain
returns-in-Explain g c =
    rw c.in-Explain.is
    (rw c.without_ending-in-Explain.ensures (told-ok c.explain_words.result _ c.explain_words.ensures))

pub returns-in-Measure : goal.returns-in-Measure
returns-in-Measure g c =
    rw c.in-Measure.is
    (rw c.without_ending-in-Measure.ensures (told-ok c.measure_words.result _ c.measure_words.ensures))

pub returns-in-Events : goal.returns-in-Events
returns-in-Events g c = rw c.in-Events.is (rw c.without_ending-in-Events.ensures c.events_words.ensures)
