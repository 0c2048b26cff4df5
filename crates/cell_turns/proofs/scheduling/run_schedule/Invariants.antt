use Rattle.std.proofs.Common.{◌≡◌, ◌≤◌, take, true}
use Rattle.cell_types.specs.declared.words.Machine.{Machine}
use Rattle.cell_turns.specs.Six.{at, map_six}
use Rattle.cell_turns.specs.Acts.{Did}
use Rattle.cell_turns.specs.Minds.{machine_of_watch}
use Rattle.cell_turns.specs.Schedules.{Scheduled, Grown, AllSent}
use Rattle.cell_turns.proofs.scheduling.run_schedule.Given as goal

-- the steps so far were taken and led here
abbrev pub invariant-loop-step : goal.invariant-loop-step
invariant-loop-step g l =
    record {
      machines : (m : Machine) → machine_of_watch (at l.watches m) ≡ m;
      few : l.ran.refused ≤ l.step-index;
      still : g.O.OperatorPort.tells l.operator ≡ true → g.O.OperatorPort.tells l.initial.operator ≡ true;
      grown : Grown l.initial.kept l.kept l.initial.shares l.shares (map_six (λ v. v.items) l.ran.machines)
          l.ran.operator.items;
      sent : AllSent g.P.Port.tells g.P.Port.log l.initial.ports l.ports l.initial.watches l.watches
          (map_six (λ v. v.items) l.ran.machines);
      did : g.O.OperatorPort.tells l.operator ≡ true
          → Did (g.O.OperatorPort.log l.initial.operator) (g.O.OperatorPort.log l.operator) l.ran.operator.items;
      scheduled : Scheduled l.plan (take l.step-index l.steps) l.ran.refused l.initial.kept l.kept l.initial.watches
          l.watches (g.O.OperatorPort.tells l.operator) (g.O.OperatorPort.log l.initial.operator)
          (g.O.OperatorPort.log l.operator);
    }
