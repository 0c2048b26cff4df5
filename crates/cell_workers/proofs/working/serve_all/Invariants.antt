use Rattle.std.proofs.Common.{◌≡◌, true, false}
use Rattle.cell_types.specs.declared.words.Actor.TheVariants as actor
use Rattle.cell_ledger.specs.Held.{Held}
use Rattle.cell_ports.specs.Logs.{Log}
use Rattle.cell_turns.specs.Sent.{Sends}
use Rattle.cell_turns.specs.Minds.{machine_of_watch, has_failed_command}
use Rattle.cell_workers.specs.Working.{Serves, Shown}
use Rattle.cell_workers.proofs.working.serve_all.Given as goal

-- the turns so far were served, each with a reading
abbrev pub invariant-loop-turn : goal.invariant-loop-turn
invariant-loop-turn g l =
    record {
      still : g.P.Port.tells l.port ≡ true → g.P.Port.tells l.initial.port ≡ true;
      machine : machine_of_watch l.worker.watch ≡ l.machine;
      serves : (start : Held) → Serves (actor.Machine l.machine) start l.initial.worker.entries.items
          l.initial.worker.shares → Serves (actor.Machine l.machine) start l.worker.entries.items l.worker.shares;
      sends : g.P.Port.tells l.port ≡ true → (before : Log)
          → Sends before false (g.P.Port.log l.initial.port) l.initial.worker.entries.items
          (has_failed_command l.initial.worker.watch)
          → Sends before false (g.P.Port.log l.port) l.worker.entries.items (has_failed_command l.worker.watch);
      shown : g.P.Port.tells l.port ≡ true → (before : Log)
          → Shown l.machine l.plan before (g.P.Port.log l.initial.port) l.initial.worker.entries.items
          l.initial.worker.watch 0 → Shown l.machine l.plan before (g.P.Port.log l.port) l.worker.entries.items
          l.worker.watch l.turn;
    }
