-- What a report says: each worker's list is its entries of the journal, and the counts of all add up
use Rattle.std.proofs.Common.{◌≡◌, ℕ, ◌+◌, Some, List, [], ◌∷◌, ◌++◌, take, sym, ap, ◌∙◌, subst}
use Rattle.std.specs.Prelude.{slice_get}
use Rattle.std.proofs.lemmas.List.Elements.{filter-append}
use Rattle.cell_types.specs.declared.words.Actor.{Actor}
use Rattle.cell_types.specs.declared.words.Entry.{Entry}
use Rattle.cell_types.specs.Entries.{actor_of}
use Rattle.cell_turns.specs.Schedules.{same_actor, entries_of}
use Rattle.cell_journal.proofs.JournalLaws.{take_get}
use Rattle.cell_types.specs.declared.words.Totals.{Totals}
use Rattle.cell_ledger.specs.Counts.{nothing, plus}
use Rattle.cell_turns.proofs.Schedules.{plus_none}
use Rattle.cell_rules.specs.declared.limits.BookLimits.{BookLimits}
use Rattle.operator_desk.specs.declared.line.Line.{Line}
use Rattle.cell_workers.specs.Operating.{Follows}

-- the last one's counts
pub plus_nothing : (k : Totals) → plus k nothing ≡ k
plus_nothing k = sym (plus_none k)

-- a list that agrees with the first entries of the journal, with the next one
pub agrees_more : (a : Actor) (J own : List Entry) (place k n : ℕ) (e : Entry) → slice_get J place ≡ Some e
    → take k own ≡ entries_of a (take place J) → take n own ≡ take k own ++ entries_of a (e ∷ [])
    → take n own ≡ entries_of a (take (place + 1) J)
agrees_more a J own place k n e there so more =
    more
    ∙ ap (λ (l : List Entry). l ++ entries_of a (e ∷ [])) so
    ∙ sym (ap (entries_of a) (take_get J place e there) ∙ filter-append (λ (x : Entry). same_actor a (actor_of x))
    (take place J) (e ∷ []))

-- a list that follows a script is the one that was compared with the journal
pub follows_listed : (l : BookLimits) (script : List Line) {es items own : List Entry} → Follows l script es
    → items ≡ es → items ≡ own → Follows l script own
follows_listed l script follows same is = subst (λ (x : List Entry). Follows l script x) (sym same ∙ is) follows
