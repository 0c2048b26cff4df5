-- Forms that don't go together are wrong arguments, with a line of their own
use Rattle.std.proofs.Common.{refl, sym, ◌∙◌}
use Rattle.std.specs.Prelude.{codes}
use Rattle.cell_orders.proofs.measure.measure_words.Goals as goal

pub returns-in_ok-wrong-in-None : goal.returns-in_ok-wrong-in-None
returns-in_ok-wrong-in-None g c =
    rw (sym c.form_asked.ensures ∙ c.in-None.is) (
      c.in_ok-wrong-in-None.ensures.status,
      refl,
      codes "of --csv and --svg one alone can be given",
      c.in_ok-wrong-in-None.ensures.line,
    )
