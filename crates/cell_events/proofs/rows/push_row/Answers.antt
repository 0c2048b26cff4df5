-- The row's fields are added one behind the other
use Rattle.std.proofs.Common.{◌∙◌}
use Rattle.cell_events.proofs.Lines.{more}
use Rattle.cell_events.proofs.rows.push_row.Goals as goal

pub returns : goal.returns
returns c =
    let chain =
    c.in_ok-push_field.ensures
    ∙ more _ _ _ _ _ c.in_ok-push_word-6.ensures
    ∙ more _ _ _ _ _ c.in_ok-push_plate.ensures
    ∙ more _ _ _ _ _ c.in_ok-push_word-5.ensures
    ∙ more _ _ _ _ _ c.in_ok-push_word-4.ensures
    ∙ more _ _ _ _ _ c.in_ok-push_word-3.ensures
    ∙ more _ _ _ _ _ c.in_ok-push_word-2.ensures
    ∙ more _ _ _ _ _ c.in_ok-push_word.ensures
    ∙ more _ _ _ _ _ c.in_ok-push_number-3.ensures
    ∙ more _ _ _ _ _ c.in_ok-push_number-2.ensures
    ∙ more _ _ _ _ _ c.in_ok-push_number.ensures in
    rw (
      c.from.ensures,
      c.actor_text.ensures,
      c.actor_of.ensures,
      c.kind_text.ensures,
      c.axis_text.ensures,
      c.axis_of.ensures,
      c.pose_text.ensures,
      c.zone_text.ensures,
      c.place_text.ensures,
      c.as_bytes.ensures.value,
      c.cause_text.ensures,
    ) at chain
