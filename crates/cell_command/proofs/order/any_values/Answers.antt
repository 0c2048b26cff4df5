-- A list that no word gave is empty
use Rattle.std.proofs.Common.{◌∙◌, Bor, List, ℕ, ap, map, sym}
use Rattle.std.proofs.lemmas.Option.{IfSome_then}
use Rattle.clap.specs.Words.{found_of}
use Rattle.clap.proofs.WalkLemmas.{raw_values-rows}
use Rattle.cell_command.specs.Orders.{values_or_none}
use Rattle.cell_command.proofs.order.any_values.Goals as goal

pub returns-in-Some : goal.returns-in-Some
returns-in-Some c = IfSome_then c.values.result c.values.ensures (λ values has. sym (ap values_or_none has))

pub returns-in-None : goal.returns-in-None
returns-in-None c = ap (map (λ (v : Bor (List ℕ)). v.now)) c.new.ensures.items
    ∙ ap values_or_none (c.in-None.ensures ∙ raw_values-rows (found_of c.args.matches.now) c.args.id.now)
