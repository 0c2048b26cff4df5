-- The loop that searches the journal for where a fact began to hold
use Rattle.std.proofs.Common.{◌≡◌, false, take, true}
use Rattle.cell_types.specs.After.{after}
use Rattle.cell_journal.specs.Snapshots.{seen, state_of}
use Rattle.cell_explain.specs.Facts.{Holds, IsSinceOf}
use Rattle.cell_explain.proofs.facts.since_when.Given as goal

-- the state is what the entries so far leave, and it is known whether the fact holds, and since when
abbrev pub invariant-loop-place : goal.invariant-loop-place
invariant-loop-place l = record {
  state : state_of l.state ≡ seen (after (take l.place l.journal.entries));
  holds : l.held ≡ true → Holds l.fact (after (take l.place l.journal.entries));
  fails : l.held ≡ false → Holds l.fact (after (take l.place l.journal.entries)) → ⊥;
  since : l.held ≡ true → IsSinceOf l.journal.entries l.place l.fact l.since;
}
