-- What doesn't go with it has a line of its own
use Rattle.std.proofs.Common.{rules, ◌∙◌, inl, inr, refl}
use Rattle.std.specs.Prelude.{codes}
use Rattle.cell_orders.specs.Texts.{IsGiven}
use Rattle.cellctl.proofs.continued.continue_words.Goals as goal

pub returns-then-is_some : goal.returns-then-is_some
returns-then-is_some g c =
    let given : IsGiven c.args.continuing.follow = search rules in
    inr (
      inl given,
      (
        c.of.result.status,
        refl,
        (
          c.of.ensures ∙ c.in_ok-wrong.ensures.status,
          refl,
          codes "--from doesn't go with --follow",
          c.in_ok-wrong.ensures.line,
        ),
      ),
    )

pub returns-then-continuing : goal.returns-then-continuing
returns-then-continuing g c =
    inr (
      inr c.if-continuing.true,
      (
        c.of-then-continuing.result.status,
        refl,
        (
          c.of-then-continuing.ensures ∙ c.in_ok-wrong-2.ensures.status,
          refl,
          codes "--from doesn't go with --measures",
          c.in_ok-wrong-2.ensures.line,
        ),
      ),
    )
