-- What the whole journal leaves tells of the same fact as a snapshot of it
use Rattle.std.proofs.Common.{ap, sym, ◌∙◌}
use Rattle.cell_types.specs.After.{after}
use Rattle.cell_explain.specs.Facts.{fact_of}
use Rattle.cell_explain.proofs.Sinces.{fact-seen, since-told}
use Rattle.cell_explain.proofs.telling.told.Goals as goal

pub returns-in-Some : goal.returns-in-Some
returns-in-Some c = since-told c.args.journal.now.entries c.args.entry c.args.why c.since_when.result c.in-Some.fact
    (sym (fact-seen c.args.why c.args.entry (after c.args.journal.now.entries))
    ∙ (ap (fact_of c.args.why c.args.entry) (sym c.requires) ∙ (sym c.fact_of.ensures ∙ c.in-Some.is)))
    c.since_when.ensures
