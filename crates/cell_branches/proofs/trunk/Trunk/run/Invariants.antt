-- The loop that pauses the run without faults again and again
use Rattle.std.proofs.Common.{◌≡◌}
use Rattle.cell_branches.specs.Trunks.{IsOnWay, IsTrunk}
use Rattle.cell_branches.proofs.trunk.Trunk.run.Given as goal

-- so far it is on its way, and so are its stops
abbrev pub invariant-loop-stop : goal.invariant-loop-stop
invariant-loop-stop l =
    record {
      plan : l.trunk.plan ≡ l.plan;
      script : l.trunk.script ≡ l.fn.script;
      stops : IsTrunk l.trunk;
      way : IsOnWay l.plan l.fn.script l.cell l.pause;
    }
