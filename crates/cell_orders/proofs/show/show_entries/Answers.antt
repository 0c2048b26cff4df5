-- Some text is shown, or hasn't got what was asked for
use Rattle.std.proofs.Common.{◌≢◌, ap, refl, rules}
use Rattle.cell_show.specs.Shown.{error_text, start_of}
use Rattle.cell_show.specs.declared.error.ShowError.TheVariants as error
use Rattle.cell_orders.proofs.Showing.{none-some, shown-some}
use Rattle.cell_orders.proofs.show.show_entries.Goals as goal

pub returns-in-Ok-clause-some : goal.returns-in-Ok-clause-some
returns-in-Ok-clause-some g c =
    shown-some c.args.show.count (start_of c.args.show.form) c.in-Ok.status _ _ _ _ c.in-Ok.ensures.some
    (λ high. ap g.W.Write.contents (c.in-Ok.ensures.unread high))

pub returns-in_ok-writeln-in-Err-clause-some : goal.returns-in_ok-writeln-in-Err-clause-some
returns-in_ok-writeln-in-Err-clause-some g c =
    let why = c.in-Err.error in
    let other : why ≢ error.WriteFault = search rules in
    none-some c.args.show.count (start_of c.args.show.form) why _ _ _ _ c.in-Err.ensures.some other
    c.in-Err.ensures.past
    (refl, ap g.W.Write.contents (c.in-Err.ensures.nothing other), error_text why, c.in_ok-writeln-in-Err.ensures.bytes)
