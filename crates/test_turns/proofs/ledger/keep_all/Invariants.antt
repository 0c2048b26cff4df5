use Rattle.std.proofs.Common.{◌≡◌}
use Rattle.test_turns.proofs.ledger.keep_all.Given as goal

abbrev pub invariant-loop-record : goal.invariant-loop-record
invariant-loop-record g l = l.shares.parts ≡ l.initial.shares.parts
