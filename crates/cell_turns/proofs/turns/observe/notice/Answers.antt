use Rattle.std.proofs.Common.{[], ◌∷◌, ◌++◌, ◌∙◌}
use Rattle.std.specs.Option.{option_map}
use Rattle.cell_diagnosis.specs.RestWatches.{noted_by}
use Rattle.cell_turns.specs.Observed.{with_reading, followed}
use Rattle.cell_turns.proofs.Minds.{fitted_again}
use Rattle.cell_turns.proofs.turns.observe.notice.Goals as goal

-- the readings that fitted fit again with this one added
pub invariant_of-watch : goal.invariant_of-watch
invariant_of-watch c =
    let watch = c.args.watch.now in
    record {
      same_machine = c.note-at_rest.ensures.machine ∙ watch.same_machine;
      fitted =
          fitted_again watch.axis c.note_motion-at_axis.new.axis watch.rest c.note-at_rest.new.self
          (λ f. option_map (with_reading c.args.reading) (followed f c.motion_of_machine-motion.result))
          (λ L. L ++ noted_by watch.rest c.expected_of-expect.result c.args.reading ∷ [])
          c.note_motion-at_axis.ensures.fits c.note-at_rest.ensures.fits watch.fitted;
    }
