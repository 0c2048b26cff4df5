-- The entries that are told are those of some text's journal, or that text is refused
use Rattle.std.proofs.Common.{◌≡◌, ap, inl, inr, subst, sym}
use Rattle.std.proofs.lemmas.Option.{IfSome_then}
use Rattle.cell_journal.specs.Stored.{Stored}
use Rattle.cell_orders.specs.Listed.{SpellsJournal}
use Rattle.cell_orders.proofs.Listing.{journal_read, refused_told}
use Rattle.cell_orders.proofs.events.list_journal.Goals as goal

pub returns-in-Ok : goal.returns-in-Ok
returns-in-Ok g c =
    let J = c.journal.result.now.entries in
    let same : c.in_ok-read.read.book.entries ≡ J = sym (ap (λ (s : Stored). s.entries) c.journal.ensures) in
    let (text, spells) =
    journal_read c.in_ok-read.read.answer c.in-Ok.field-0 c.in_ok-read.read.book.entries c.in-Ok.is
    c.in_ok-read.ensures.some c.in_ok-read.ensures.before c.in_ok-read.ensures.legal in
    IfSome_then _ c.list_entries.ensures (λ w lists. inl (text, J, subst (SpellsJournal text) same spells, lists))

pub returns : goal.returns
returns g c =
    rw c.told.ensures
    (inr (refused_told c.in_ok-read.read.answer c.in-Err.why c.in_ok-read.read.book.entries _ _ c.write_answer.result
    c.in-Err.is c.in_ok-read.ensures.some c.write_answer.ensures.whole c.write_answer.ensures.part))
