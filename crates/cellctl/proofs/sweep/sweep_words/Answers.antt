-- The list or another word may be wrong, and has a line of its own for that
use Rattle.std.proofs.Common.{inl, inr, refl, subst, sym}
use Rattle.std.proofs.lemmas.Option.{IfSome_then}
use Rattle.cellctl.specs.Swept.{AreKinds}
use Rattle.cellctl.proofs.Swept.{as-asked}
use Rattle.cellctl.proofs.sweep.sweep_words.Goals as goal

pub returns-in-Err : goal.returns-in-Err
returns-in-Err g c =
    inr (
      inl (c.in-Err.number, rw c.in-Err.is at c.in_ok-kinds.ensures.wrong),
      (
        c.in_ok-wrong-in-Err.field-0,
        refl,
        (c.in_ok-wrong-in-Err.ensures.status, refl, c.as_str.result.now, c.in_ok-wrong-in-Err.ensures.line),
      ),
    )

pub returns-in-Err-asked_of : goal.returns-in-Err-asked_of
returns-in-Err-asked_of g c =
    inr (
      inr (rw c.in-Err-asked_of.is at c.asked_of.ensures.wrong),
      (
        c.in_ok-wrong-in-Err-asked_of.field-0,
        refl,
        (
          c.in_ok-wrong-in-Err-asked_of.ensures.status,
          refl,
          c.in-Err-asked_of.why.now,
          c.in_ok-wrong-in-Err-asked_of.ensures.line,
        ),
      ),
    )

pub returns : goal.returns
returns g c =
    let known = rw c.in-Ok.is at c.in_ok-kinds.ensures.known in
    let asks = rw c.in-Ok-asked_of.is at c.asked_of.ensures.known in
    let asked = c.in-Ok-asked_of.asked in
    IfSome_then _ c.sweep_files.ensures (λ w sweeps. inl (
      c.as_slice.result.now,
      asked,
      subst (AreKinds c.args.sweeping.kinds) (sym c.as_slice.ensures.value) known,
      asks,
      as-asked c.args.sweeping c.as_slice.result.now asked _ _ _ w c.form_of.ensures sweeps,
    ))
