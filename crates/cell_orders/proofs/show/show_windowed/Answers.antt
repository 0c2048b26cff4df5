-- The journal is shown with the states that the words ask for, or these are wrong arguments
use Rattle.std.proofs.Common.{refl, inl, inr}
use Rattle.std.proofs.lemmas.Result.{IfOk-weaker}
use Rattle.cell_orders.proofs.show.show_windowed.Goals as goal

pub returns-in-Ok : goal.returns-in-Ok
returns-in-Ok g c =
    IfOk-weaker c.show_entry.result _ _
    (λ s shows. inl (c.in-Ok.form, c.in-Ok.ensures.known, c.in-Ok.ensures.start, shows)) c.show_entry.ensures

pub returns-in_ok-wrong-in-Err : goal.returns-in_ok-wrong-in-Err
returns-in_ok-wrong-in-Err g c =
    inr (
      (c.in_ok-wrong-in-Err.ensures.status, refl, c.in-Err.why.now, c.in_ok-wrong-in-Err.ensures.line),
      c.in-Err.ensures.wrong,
    )
