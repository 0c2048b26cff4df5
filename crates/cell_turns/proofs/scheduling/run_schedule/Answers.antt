use Rattle.std.proofs.Common.{◌≡◌, ◌<◌, length, Vec, refl, sym, ◌∙◌, arith, rules, take, drop, suc}
use Rattle.std.proofs.lemmas.List.{take_more}
use Rattle.cell_types.specs.declared.words.Machine.{Machine}
use Rattle.cell_types.specs.declared.words.Entry.{Entry}
use Rattle.cell_turns.specs.Six.{at, map_six}
use Rattle.cell_turns.specs.Minds.{has_failed_command}
use Rattle.cell_turns.specs.Schedules.{act_at}
use Rattle.cell_turns.proofs.Logs.{sends_start}
use Rattle.cell_turns.proofs.Acts.{did_start}
use Rattle.cell_turns.proofs.Sixes.{map_at}
use Rattle.cell_turns.proofs.Schedules.{scheduled_start, scheduled_stopped, grown_start, did_more, steps_split}
use Rattle.cell_turns.proofs.scheduling.run_schedule.Goals as goal

pub loop-step-init : goal.loop-step-init
loop-step-init g c =
    let items = λ (v : Vec Entry _). v.items in
    let ran = c.new-ran.result in
    let none = λ (m : Machine). sym (map_at items ran.machines m) ∙ c.new-ran.ensures.machines m in
    record {
      machines = c.requires;
      few = omega (arith, c.new-ran.ensures.refused);
      still = λ t. t;
      grown = grown_start c.args.kept.now c.args.shares.now (map_six items ran.machines) ran.operator.items none
          c.new-ran.ensures.operator;
      sent = λ m t. record {
        sends = sends_start (g.P.Port.log (at c.args.ports.now m))
            (has_failed_command (at c.args.watches.now m)) (at (map_six items ran.machines) m) (none m);
        unread =
            refl;
      };
      did = λ t. did_start (g.O.OperatorPort.log c.args.operator.now) ran.operator.items c.new-ran.ensures.operator;
      scheduled = rw c.new-ran.ensures.refused (scheduled_start c.args.plan.now c.args.kept.now c.args.watches.now
          (g.O.OperatorPort.tells c.args.operator.now) (g.O.OperatorPort.log c.args.operator.now));
    }

-- what was lent to the step is left as the step left it
pub loop-step-preserved : goal.loop-step-preserved
loop-step-preserved g c =
    let i = c.loop-step.step-index in
    let below : i < length c.args.steps.now = search rules in
    let was = c.loop-step.invariant in
    let step = c.in_default.ensures in
    let next = c.add_step-taken.new.state in
    let kept : c.kept-1.given.0 ≡ next.kept.now = search rules in
    let shares : c.shares-1.given.0 ≡ next.shares.now = search rules in
    let watches : c.watches-1.given.0 ≡ next.watches.now = search rules in
    record {
      machines = rw watches c.add_step-taken.ensures.machines;
      few = omega (arith, was.few, c.add_step-taken.ensures.few);
      still = λ t. was.still (c.add_step-taken.ensures.still t);
      grown = rw (kept, shares) (step.grown c.args.kept.now c.args.shares.now was.grown);
      sent = rw watches (step.sent c.args.ports.now c.args.watches.now was.sent);
      did = λ t. step.did (g.O.OperatorPort.log c.args.operator.now) t (was.did (c.add_step-taken.ensures.still t));
      scheduled = rw (kept, watches, take_more c.args.steps.now i c.step-item.result below, sym c.step-item.is)
          (step.scheduled (take i c.args.steps.now) c.args.kept.now c.args.watches.now
          (g.O.OperatorPort.log c.args.operator.now) was.scheduled);
    }

-- the steps before this one were taken, and this one left at most an act behind
pub returns-in-Err-clause-stopped : goal.returns-in-Err-clause-stopped
returns-in-Err-clause-stopped g c =
    let i = c.loop-step.step-index in
    let below : i < length c.args.steps.now = search rules in
    let was = c.loop-step.invariant in
    let same = c.in-Err.ensures.unchanged in
    let next = c.add_step-taken.new in
    let left_kept : c.kept-1.given.0 ≡ next.state.kept.now = search rules in
    let left_shares : c.shares-1.given.0 ≡ next.state.shares.now = search rules in
    let left_watches : c.watches-1.given.0 ≡ next.state.watches.now = search rules in
    let kept = left_kept ∙ same.0 in
    let shares = left_shares ∙ same.1 in
    let watches = left_watches ∙ same.2 in
    let operator = c.loop-step.operator in
    let items = λ (v : Vec Entry _). v.items in
    let tells = g.O.OperatorPort.tells in
    let log = g.O.OperatorPort.log in
    record {
      taken = take i c.args.steps.now;
      next = c.step-item.result;
      left = drop (suc i) c.args.steps.now;
      in_order = steps_split c.args.steps.now i c.step-item.result below (sym c.step-item.is);
      refused = c.loop-step.ran.refused;
      machines = map_six items c.loop-step.ran.machines;
      operator = c.loop-step.ran.operator.items;
      grown = rw (kept, shares) was.grown;
      sent = rw (watches, same.3) was.sent;
      scheduled =
          scheduled_stopped c.args.plan.now (take i c.args.steps.now) c.loop-step.ran.refused c.args.kept.now
          c.loop-step.kept _ c.args.watches.now c.loop-step.watches _
          (tells operator) (tells next.operator) (log c.args.operator.now) (log operator)
          (log next.operator) (act_at c.step-item.result) kept watches
          c.add_step-taken.ensures.still c.in-Err.ensures.acted was.scheduled;
      stops = rw kept c.in-Err.ensures.stops;
      did = λ t. did_more (log c.args.operator.now) (log operator) (log next.operator)
          c.loop-step.ran.operator.items (act_at c.step-item.result) (c.in-Err.ensures.acted t)
          (was.did (c.add_step-taken.ensures.still t));
    }
