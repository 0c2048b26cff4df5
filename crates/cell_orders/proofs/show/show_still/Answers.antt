-- Flags that don't go together are wrong arguments, and each such case has a line of its own
use Rattle.std.proofs.Common.{refl, inl, inr, rules}
use Rattle.std.specs.Prelude.{codes}
use Rattle.std.proofs.lemmas.Result.{IfOk-weaker}
use Rattle.cell_orders.proofs.show.show_still.Goals as goal

pub returns-in_default : goal.returns-in_default
returns-in_default g c =
    inr (inr (
      (
        c.in_ok-wrong.ensures.status,
        refl,
        codes "of --svg, --html and --unicode one alone can be given",
        c.in_ok-wrong.ensures.line,
      ),
      inl (search rules),
    ))

pub returns-in_ok-wrong-in-Loose : goal.returns-in_ok-wrong-in-Loose
returns-in_ok-wrong-in-Loose g c =
    inr (inr (
      (
        c.in_ok-wrong-in-Loose.ensures.status,
        refl,
        codes "--times goes with --svg or --html",
        c.in_ok-wrong-in-Loose.ensures.line,
      ),
      inr (inl (search rules)),
    ))

pub returns-then-is_alone : goal.returns-then-is_alone
returns-then-is_alone g c =
    inr (inr (
      (c.in_ok-wrong-2.ensures.status, refl, codes "--beside goes with --html", c.in_ok-wrong-2.ensures.line),
      inr (inr (search rules)),
    ))

pub returns-in-Form : goal.returns-in-Form
returns-in-Form g c =
    IfOk-weaker c.show_windowed.result _ _
    (λ s shows. inl (c.in-Form.form, (c.in-Some.form, search rules, search rules), shows)) c.show_windowed.ensures
