use Rattle.std.proofs.Common.{Vec, [], refl, sym, ◌∙◌}
use Rattle.cell_types.specs.declared.words.Machine.{Machine}
use Rattle.cell_types.specs.declared.words.Entry.{Entry}
use Rattle.cell_turns.specs.Six.{at, map_six}
use Rattle.cell_turns.specs.Minds.{has_failed_command}
use Rattle.cell_turns.specs.Schedules.{act_at}
use Rattle.cell_turns.proofs.Logs.{sends_start}
use Rattle.cell_turns.proofs.Acts.{did_start}
use Rattle.cell_turns.proofs.Sixes.{map_at}
use Rattle.cell_turns.proofs.Schedules.{scheduled_start, scheduled_stopped, grown_start, did_more}
use Rattle.cell_turns.proofs.scheduling.run_step.Goals as goal

-- a step is a schedule of its own, and its lists start empty
pub returns-clause-grown : goal.returns-clause-grown
returns-clause-grown g c =
    let state = c.args.state.now in
    let items = λ (v : Vec Entry _). v.items in
    let ran = c.clear.new.self in
    let none = λ (m : Machine). sym (map_at items ran.machines m) ∙ c.clear.ensures.machines m in
    c.in_default.ensures.grown state.kept.now state.shares.now
    (grown_start state.kept.now state.shares.now (map_six items ran.machines) ran.operator.items none
    c.clear.ensures.operator)

pub returns-clause-sent : goal.returns-clause-sent
returns-clause-sent g c =
    let state = c.args.state.now in
    let items = λ (v : Vec Entry _). v.items in
    let ran = c.clear.new.self in
    let none = λ (m : Machine). sym (map_at items ran.machines m) ∙ c.clear.ensures.machines m in
    c.in_default.ensures.sent c.args.ports.now state.watches.now
    (λ m t. record {
      sends = sends_start (g.P.Port.log (at c.args.ports.now m))
          (has_failed_command (at state.watches.now m)) (at (map_six items ran.machines) m) (none m);
      unread = refl;
    })

pub returns-clause-did : goal.returns-clause-did
returns-clause-did g c = λ t.
    let log = g.O.OperatorPort.log c.args.operator.now in
    c.in_default.ensures.did log t (did_start log c.clear.new.self.operator.items c.clear.ensures.operator)

pub returns-clause-scheduled : goal.returns-clause-scheduled
returns-clause-scheduled g c =
    let state = c.args.state.now in
    let operator = c.args.operator.now in
    c.in_default.ensures.scheduled [] state.kept.now state.watches.now (g.O.OperatorPort.log operator)
    (rw c.clear.ensures.refused (scheduled_start c.args.plan.now state.kept.now state.watches.now
    (g.O.OperatorPort.tells operator) (g.O.OperatorPort.log operator)))

-- the only step wasn't finished, so the schedule that was done is empty
pub returns-in-Err-clause-stopped : goal.returns-in-Err-clause-stopped
returns-in-Err-clause-stopped g c =
    let state = c.args.state.now in
    let next = c.add_step-taken.new in
    let items = λ (v : Vec Entry _). v.items in
    let ran = c.clear.new.self in
    let none = λ (m : Machine). sym (map_at items ran.machines m) ∙ c.clear.ensures.machines m in
    let same = c.in-Err.ensures.unchanged in
    let tells = g.O.OperatorPort.tells in
    let log = g.O.OperatorPort.log in
    let operator = c.args.operator.now in
    record {
      taken = [];
      next = c.args.step.now;
      left = [];
      in_order = refl;
      refused = 0;
      machines = map_six items ran.machines;
      operator = ran.operator.items;
      grown = rw (same.0, same.1) (grown_start state.kept.now state.shares.now (map_six items ran.machines)
          ran.operator.items none c.clear.ensures.operator);
      sent = rw (same.2, same.3) (λ m t. record {
        sends =
            sends_start (g.P.Port.log (at c.args.ports.now m)) (has_failed_command (at state.watches.now m))
            (at (map_six items ran.machines) m) (none m);
        unread = refl;
      });
      scheduled =
          scheduled_stopped c.args.plan.now [] 0 state.kept.now state.kept.now next.state.kept.now
          state.watches.now state.watches.now next.state.watches.now
          (tells operator) (tells next.operator) (log operator) (log operator)
          (log next.operator) (act_at c.args.step.now) same.0 same.2
          c.add_step-taken.ensures.still c.in-Err.ensures.acted
          (scheduled_start c.args.plan.now state.kept.now state.watches.now (tells operator) (log operator));
      stops = rw same.0 c.in-Err.ensures.stops;
      did = λ t. did_more (log operator) (log operator) (log next.operator) ran.operator.items
          (act_at c.args.step.now) (c.in-Err.ensures.acted t)
          (did_start (log operator) ran.operator.items c.clear.ensures.operator);
    }
