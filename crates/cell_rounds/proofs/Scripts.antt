-- What a script says next is an entry of the operator that the book allows
use Rattle.std.proofs.Common.{◌≡◌, List, Option, refl, true}
use Rattle.std.specs.Prelude.{Some, None, is_none}
use Rattle.cell_types.specs.Entries.{actor_of}
use Rattle.cell_types.specs.declared.words.Actor.TheVariants as actor
use Rattle.cell_rules.specs.History.{History}
use Rattle.cell_rules.specs.Legal.{first_of}
use Rattle.cell_rules.specs.declared.refusal.Refusal.{Refusal}
use Rattle.cell_workers.proofs.Operators.{next_allowed}
use Rattle.operator_desk.specs.Next.{entry_of, next_of}
use Rattle.operator_desk.specs.declared.action.Action.{Action}
use Rattle.operator_desk.specs.declared.action.Action.TheVariants as action
use Rattle.operator_desk.specs.declared.line.Line.{Line}

pub action_his : (a : Action) → actor_of (entry_of a) ≡ actor.Operator
action_his (action.Stop m) = refl
action_his (action.Clear s k) = refl
action_his (action.Repair m) = refl
action_his (action.Expect k) = refl

pub action_free : (lines : List Line) (h : History) (a : Action) → next_of lines h ≡ Some a
    → first_of h.limits h.entries (entry_of a) ≡ None
action_free lines h a next = go (first_of h.limits h.entries (entry_of a)) (next_allowed lines h a next)
  where
    go : (o : Option Refusal) → is_none o ≡ true → o ≡ None
    go None is = refl
    go (Some why) is = cc
