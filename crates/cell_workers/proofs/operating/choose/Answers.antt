use Rattle.std.proofs.Common.{◌≡◌, false, Some, is_some, rules, sym, ◌∙◌, inr}
use Rattle.cell_types.specs.declared.words.Actor.TheVariants as actor
use Rattle.cell_turns.specs.Acts.{act_of}
use Rattle.cell_workers.proofs.Workers.{serves_more}
use Rattle.cell_workers.proofs.Operators.{his_action, did_still, follows_more, never_refused}
use Rattle.cell_workers.proofs.operating.choose.Goals as goal

pub returns-in-Ok-clause-serves : goal.returns-in-Ok-clause-serves
returns-in-Ok-clause-serves g c = λ start s. serves_more actor.Operator (Some c.entry_of-entry.result) _ _ _ _ start
    c.in-Ok.ensures.entries c.in-Ok.ensures.shares
    (his_action c.in-Some.action c.entry_of-entry.result c.entry_of-entry.ensures) s

-- an entry that is booked right away is one that wants no act
pub returns-in-Ok-clause-did : goal.returns-in-Ok-clause-did
returns-in-Ok-clause-did g c =
    let none : is_some (act_of c.entry_of-entry.result) ≡ false = search rules in
    λ before now d. did_still before now _ _ c.entry_of-entry.result none c.in-Ok.ensures.entries d

pub returns-in-Ok-clause-follows : goal.returns-in-Ok-clause-follows
returns-in-Ok-clause-follows g c = λ lines f. follows_more g.R.Run.limits lines _ _ _ _ c.entry_of-entry.result
    c.in-Ok.ensures.entries c.done.ensures (search rules) f

-- what the script gives is allowed, so its booking is refused for want of memory alone
pub returns-in-Err-clause-ended : goal.returns-in-Err-clause-ended
returns-in-Err-clause-ended g c =
    inr (c.in-Err.ensures.allowed (λ refused. never_refused c.args.script.now c.deref_mut-2.result.now.kept
    c.book.result.now c.in-Some.action c.entry_of-entry.result (search rules) (sym c.next.ensures ∙ c.in-Some.is)
    c.entry_of-entry.ensures refused))
