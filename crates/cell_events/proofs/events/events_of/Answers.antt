-- Each entry's event comes behind those of the entries before it
use Rattle.std.proofs.Common.{◌∙◌, ap, arith, map}
use Rattle.std.proofs.lemmas.Option.{slice_get_within}
use Rattle.cell_types.specs.After.{opening}
use Rattle.cell_events.specs.declared.event.Event.{Event}
use Rattle.cell_events.proofs.Parts.{part_last, part_more}
use Rattle.cell_events.proofs.Told.{ends_told, entries_told}
use Rattle.cell_events.proofs.events.events_of.Goals as goal

pub loop-at-preserved : goal.loop-at-preserved
loop-at-preserved c =
    let within = slice_get_within c.args.journal.now.entries c.loop-at.at c.at-entry.result c.at-entry.ensures in
    part_more _ _ _ _ _ _ _ _ _ _ _ _ _ c.loop-at.invariant c.at-entry.ensures
    (omega (arith, within, c.in_ok-ends.ensures.long)) c.index-end.ensures
    c.begin.ensures c.plate-plate.ensures c.place-place.ensures c.pass.ensures c.in_ok-push.ensures.items

pub returns-clause-ends : goal.returns-clause-ends
returns-clause-ends c = ap (λ (l : _). map (λ (v : Event). v.end) l)
    (part_last _ _ _ _ _ _ c.loop-at.invariant (omega arith))
    ∙ ends_told c.args.durations.now _ opening c.args.journal.now.entries

pub returns-clause-entries : goal.returns-clause-entries
returns-clause-entries c = ap (λ (l : _). map (λ (v : Event). v.entry) l)
    (part_last _ _ _ _ _ _ c.loop-at.invariant (omega arith))
    ∙ entries_told c.args.durations.now _ opening c.args.journal.now.entries
