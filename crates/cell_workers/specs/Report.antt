-- What a run reports
use Rattle.std.specs.Prelude.{◌≡◌, List, [], ◌∷◌, true}
use Rattle.cell_types.specs.declared.words.Machine.{Machine}
use Rattle.cell_types.specs.declared.words.Machine.TheVariants as machine
use Rattle.cell_types.specs.declared.words.Actor.{Actor}
use Rattle.cell_types.specs.declared.words.Actor.TheVariants as actor
use Rattle.cell_types.specs.declared.words.Entry.{Entry}
use Rattle.cell_types.specs.declared.words.Totals.{Totals}
use Rattle.cell_rules.specs.Views.{count_of}
use Rattle.cell_rules.specs.declared.limits.BookLimits.{BookLimits}
use Rattle.cell_rules.specs.Legal.{legal}
use Rattle.cell_rules.specs.Safety.{IsSafe}
use Rattle.cell_ledger.specs.Counts.{nothing, plus}
use Rattle.operator_desk.specs.declared.line.Line.{Line}
use Rattle.cell_turns.specs.Schedules.{entries_of}
use Rattle.cell_turns.specs.declared.six.Six.{Six}
use Rattle.cell_turns.specs.Six.{at}
use Rattle.cell_workers.specs.Operating.{Follows}
use Rattle.cell_workers.specs.Standing.{all_called_for}

-- the workers, in their order
abbrev pub workers : List Actor
workers =
    actor.Machine machine.Feed ∷ actor.Machine machine.Table ∷ actor.Machine machine.Robot
    ∷ actor.Machine machine.Press1
    ∷ actor.Machine machine.Press2 ∷ actor.Machine machine.Deposit ∷ actor.Operator ∷ []

-- each worker's list is its entries in the journal, and its counts are the list's
abbrev pub AreTheirs : List Actor → List Entry → List (List Entry × Totals) → Type 0
AreTheirs [] J [] = Unit {0}
AreTheirs (a ∷ rest) J (w ∷ ws) = (w.0 ≡ entries_of a J) × (w.1 ≡ count_of w.0) × AreTheirs rest J ws
AreTheirs _ J _ = ⊥

-- the machines' lists and the operator's are theirs in the journal
pub record AreAllOf (J : List Entry) (machines : Six (List Entry)) (operator : List Entry) : Type 0 where
  pub by_machine : (m : Machine) → at machines m ≡ entries_of (actor.Machine m) J
  pub by_operator : operator ≡ entries_of actor.Operator J

-- the counts of all, added up
abbrev pub sum_counts : List (List Entry × Totals) → Totals
sum_counts [] = nothing
sum_counts (w ∷ ws) = plus w.1 (sum_counts ws)

-- a journal that is legal, safe and useful where a machine set out, and whose entries of the operator are those of his
-- script, its totals, and what each worker did
pub record IsReport (l : BookLimits) (script : List Line) (J : List Entry) (totals : Totals)
    (ws : List (List Entry × Totals)) : Type 0 where
  pub legal : legal l J ≡ true
  pub safe : IsSafe J
  pub useful : all_called_for l J ≡ true
  pub follows : Follows l script (entries_of actor.Operator J)
  pub counted : totals ≡ count_of J
  pub lists : AreTheirs workers J ws
  pub sum : sum_counts ws ≡ totals
