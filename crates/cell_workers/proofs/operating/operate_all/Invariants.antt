use Rattle.std.proofs.Common.{◌≡◌, true, List}
use Rattle.cell_types.specs.declared.words.Actor.TheVariants as actor
use Rattle.cell_ledger.specs.Held.{Held}
use Rattle.operator_desk.specs.declared.line.Line.{Line}
use Rattle.cell_ports.specs.Logs.{ActLog}
use Rattle.cell_workers.specs.Operating.{DidHands, Followed}
use Rattle.cell_workers.specs.Working.{Serves}
use Rattle.cell_workers.proofs.operating.operate_all.Given as goal

-- what was done and booked so far follows the script
abbrev pub invariant-loop : goal.invariant-loop
invariant-loop g l =
    record {
      still : g.O.OperatorPort.tells l.operator ≡ true → g.O.OperatorPort.tells l.initial.operator ≡ true;
      serves : (start : Held) → Serves actor.Operator start l.initial.bookings.entries.items l.initial.bookings.shares
          → Serves actor.Operator start l.bookings.entries.items l.bookings.shares;
      follows : (lines : List Line) → Followed g.R.Run.limits lines l.initial.bookings.entries.items l.initial.script
          → Followed g.R.Run.limits lines l.bookings.entries.items l.script;
      did : g.O.OperatorPort.tells l.operator ≡ true → (before : ActLog)
          → DidHands before (g.O.OperatorPort.log l.initial.operator) l.initial.bookings.entries.items
          → DidHands before (g.O.OperatorPort.log l.operator) l.bookings.entries.items;
    }
