use Rattle.std.proofs.Common.{◌∙◌, refl}
use Rattle.cell_lines.specs.Known.{hearing}
use Rattle.cell_lines.specs.Said.{answers}
use Rattle.cell_lines.proofs.Talking.{answers-not, passes-more, passes-none}
use Rattle.cell_lines.proofs.far_end.FarEnd.answer.Goals as goal

pub loop-count-init : goal.loop-count-init
loop-count-init g c = record { silent = refl; passes = passes-none answers hearing _ _ refl }

pub loop-count-preserved : goal.loop-count-preserved
loop-count-preserved g c = record {
  silent = c.in_ok-note-in_default.ensures.silent ∙ c.in_ok-other.ensures.silent ∙ c.loop-count.invariant.silent;
  passes = passes-more answers hearing _ _ _ _ _ c.loop-count.invariant.passes c.in_ok-other.ensures.takes
      (answers-not _ c.in_default.not-Answers c.in_ok-note-in_default.ensures.going)
      c.in_ok-note-in_default.ensures.known;
}
