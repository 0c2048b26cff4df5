use Rattle.std.proofs.Common.{◌∙◌, ap, refl}
use Rattle.cell_lines.specs.Known.{seeing}
use Rattle.cell_lines.specs.Said.{opens}
use Rattle.cell_lines.specs.Stands.{stand_of}
use Rattle.cell_lines.proofs.Talking.{opens-not, passes-more, passes-none, takes-is, takes-to}
use Rattle.cell_lines.proofs.far_end.FarEnd.open.Goals as goal

pub loop-count-init : goal.loop-count-init
loop-count-init g c = record {
  silent = refl;
  passes = passes-none opens seeing _ _
      (ap (λ k. record (stand_of g.R.Read.remaining g.W.Write.contents c.args.self.now) { known = k })
      c.forget_readings.ensures);
}

pub loop-count-preserved : goal.loop-count-preserved
loop-count-preserved g c = record {
  silent = c.in_ok-note_shown-in_default.ensures.silent ∙ c.in_ok-other.ensures.silent ∙ c.loop-count.invariant.silent;
  passes = passes-more opens seeing _ _ _ _ _ c.loop-count.invariant.passes c.in_ok-other.ensures.takes
      (opens-not _ c.in_default.not-Round c.in_ok-note_shown-in_default.ensures.going)
      c.in_ok-note_shown-in_default.ensures.known;
}

pub returns-in-Round-clause-takes : goal.returns-in-Round-clause-takes
returns-in-Round-clause-takes g c = takes-to opens seeing _ _ _ _ c.loop-count.invariant.passes
    (takes-is _ _ _ _ c.in-Round.is c.in_ok-other.ensures.takes)
