-- A motion is taken or passed over
use Rattle.std.proofs.Common.{◌≡◌, ◌∙◌, ◌<◌, ◌≤◌, ◌-◌, ◌+◌, ◌∷◌, ◌++◌, [], Vec, Global, ap, subst, refl}
use Rattle.std.proofs.Common.{length, drop}
use Rattle.std.specs.Prelude.{min}
use Rattle.cell_sim.specs.declared.fault.PlannedFault.{PlannedFault}
use Rattle.cell_types.specs.declared.words.Axis.TheVariants as axis
use Rattle.cell_sweep.specs.declared.places.Motion.{Motion}
use Rattle.cell_sweep.specs.declared.lots.Lots.{Lots}
use Rattle.cell_sweep.specs.Cases.{below, drawn_in, motions_of}
use Rattle.cell_sweep.proofs.Drawing.{drawn-done, drawn-named, drawn-passed, drawn-taken}
use Rattle.cell_sweep.proofs.places.Places.draw.Goals as goal
use Rattle.cell_sweep.proofs.places.Places.draw.Goals.{then-below-wanted+in_ok-push, else-below-wanted}

pub loop-motion-preserved : goal.loop-motion-preserved
loop-motion-preserved c =
    let self = c.args.self.now in
    let m : Motion = record { axis = axis.FeedBelt; number = 0 } in
    let ms = motions_of self.counts in
    let i = c.loop-motion.motion in
    let inside : i < length ms = subst (λ n. i < n) self.counted c.loop-motion-test.true in
    elim c.if-below-wanted.branch [
      | then-below-wanted+in_ok-push w ↦
          let items : c.if-below-wanted.drawn.items ≡ c.loop-motion.drawn.items ++ w.draw_fault.result ∷ [] =
          ap (λ (v : Vec PlannedFault Global). v.items) w.drawn-is ∙ w.in_ok-push.ensures.items in
          let state = ap (λ (l : Lots). l.generator) w.lots-is ∙ w.draw_fault.ensures.lots in
          let less = w.wanted-is in
          drawn-named self.kinds.now (drop (i + 1) ms) (c.loop-motion.wanted - 1) c.if-below-wanted.wanted _
          c.if-below-wanted.lots.generator _ c.if-below-wanted.drawn.items _ items less state
          (drawn-taken self.kinds.now ms i self.motions c.loop-motion.wanted c.below.result
          (below (length self.kinds.now) c.below.new.self.generator).0 c.loop-motion.lots.generator
          c.below.new.self.generator (below (length self.kinds.now) c.below.new.self.generator).1
          c.loop-motion.drawn.items _ w.draw_fault.result m inside self.counted c.below.ensures.drawn
          w.if-below-wanted.true refl (w.draw_fault.ensures.fault m) c.loop-motion.invariant)
      | else-below-wanted w ↦
          let items = ap (λ (v : Vec PlannedFault Global). v.items) w.drawn-is in
          let state = ap (λ (l : Lots). l.generator) w.lots-is in
          let same = w.wanted-is in
          drawn-named self.kinds.now (drop (i + 1) ms) c.loop-motion.wanted c.if-below-wanted.wanted _
          c.if-below-wanted.lots.generator _ c.if-below-wanted.drawn.items _ items same state
          (drawn-passed self.kinds.now ms i self.motions c.loop-motion.wanted c.below.result
          c.loop-motion.lots.generator c.below.new.self.generator c.loop-motion.drawn.items _ m inside self.counted
          c.below.ensures.drawn w.if-below-wanted.false c.loop-motion.invariant)
    ]

pub returns : goal.returns
returns c =
    let self = c.args.self.now in
    let ms = motions_of self.counts in
    drawn-done self.kinds.now ms c.loop-motion.motion c.loop-motion.wanted c.loop-motion.lots.generator
    c.loop-motion.drawn.items _ (subst (λ n. n ≤ c.loop-motion.motion) self.counted c.loop-motion-test.false)
    (c.loop-motion.invariant
    ∙ ap (λ n. drawn_in self.kinds.now ms (min c.args.faults n) c.args.lots.now.generator) self.counted)
