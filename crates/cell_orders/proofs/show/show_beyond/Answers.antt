-- No journal has so many entries, so the greatest number that can be asked for stands for all beyond
use Rattle.std.proofs.Common.{inr, refl, rules}
use Rattle.cell_show.specs.Shown.{error_text, start_of}
use Rattle.cell_orders.proofs.Showing.{beyond-many, beyond-none, beyond-unread, none-of, past-all, too-many}
use Rattle.cell_orders.proofs.show.show_beyond.Goals as goal
use Rattle.cell_orders.proofs.show.show_beyond.Goals.{in-Ok-2, in-Err}

pub returns-clause-shown : goal.returns-clause-shown
returns-clause-shown g c = λ n old big.
    inr (
      (refl, refl, error_text c.match-show_journal.error, c.in_ok-writeln.ensures.bytes),
      elim c.match-show_journal.branch [
        | in-Ok-2 w ↦ too-many _ n (start_of c.args.form) (w.in-Ok.ensures.there w.if-status-gt-REFUSED.false)
        | in-Err w ↦ past-all _ n _ w.in-Err.error big (search rules) w.in-Err.ensures.past w.in-Err.ensures.entries
      ],
    )

pub returns-clause-some : goal.returns-clause-some
returns-clause-some g c = λ n old big.
    none-of n (start_of c.args.form) old old _ _ (elim c.match-show_journal.branch [
      | in-Ok-2 w ↦ beyond-many _ n w.in-Ok.status _ _ w.in-Ok.ensures.some w.if-status-gt-REFUSED.false
      | in-Err w ↦ beyond-none n _ w.in-Err.error big (search rules) w.in-Err.ensures.past w.in-Err.ensures.some
    ]) (refl, refl, error_text c.match-show_journal.error, c.in_ok-writeln.ensures.bytes)

pub returns-in-Ok-clause-some : goal.returns-in-Ok-clause-some
returns-in-Ok-clause-some g c = λ n old big.
    beyond-unread _ n c.in-Ok.status _ _ old _ c.in-Ok.ensures.some c.if-status-gt-REFUSED.true
