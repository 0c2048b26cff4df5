-- A start counts for its own axis alone, and any other entry for none
use Rattle.std.proofs.Common.{◌≡◌, ◌+◌, ◌-◌, ◌≤◌, ◌∙◌, Some, ap, arith, drop, get_or, length, refl}
use Rattle.std.proofs.Math.ListN.{length-set}
use Rattle.cell_types.specs.Same.{axis_number}
use Rattle.cell_types.specs.declared.words.Axis.{Axis}
use Rattle.cell_explain.specs.Missed.{motions_of}
use Rattle.cell_explain.proofs.Onward.{between, between-all, between-none, get-onward, one-onward}
use Rattle.cell_explain.proofs.SetOut.{few-motions, none-set_out, started-more, still-more}
use Rattle.cell_explain.proofs.endings.faults.motions.Goals as goal
use Rattle.cell_explain.proofs.endings.faults.motions.Goals.{in-Started, in_default}

pub loop-place-init : goal.loop-place-init
loop-place-init c =
    let J = c.args.journal.now.entries in
    let counted = none-set_out _ (between-none c.args.before J) in
    record {
      sized = refl;
      counted = counted;
      few = λ a. few-motions J a c.args.before c.args.before _ (counted a);
      from = omega arith;
    }

pub loop-place-preserved : goal.loop-place-preserved
loop-place-preserved c =
    let J = c.args.journal.now.entries in
    let before = c.args.before in
    let K = drop before J in
    let place = c.loop-place.place in
    let i = place - before in
    let known = c.loop-place.invariant in
    elim c.match-at.branch [
      | in-Started w ↦
          let counted : (a : Axis)
          → get_or c.match-at.counts (axis_number a) 0 ≡ motions_of (between before (place + 1) J) a =
          rw (w.counts-is, one-onward J before place known.from) (started-more c.loop-place.counts K i
          w.axis_number.result w.in-Started.axis w.in-Started.to known.sized w.axis_number.ensures.value
          w.axis_number.ensures.below
          (get-onward J before place _ known.from (c.at.ensures ∙ ap Some w.in-Started.is)) known.counted) in
          record {
            sized = ap length w.counts-is ∙ (length-set _ _ _ ∙ known.sized);
            counted = counted;
            few = λ a. few-motions J a before (place + 1) _ (counted a);
            from = omega arith;
          }
      | in_default w ↦
          let counted : (a : Axis)
          → get_or c.match-at.counts (axis_number a) 0 ≡ motions_of (between before (place + 1) J) a =
          rw (w.counts-is, one-onward J before place known.from) (still-more c.loop-place.counts K i c.at.result
          (get-onward J before place _ known.from c.at.ensures) w.in_default.not-Started known.counted) in
          record {
            sized = ap length w.counts-is ∙ known.sized;
            counted = counted;
            few = λ a. few-motions J a before (place + 1) _ (counted a);
            from = omega arith;
          }
    ]

pub returns : goal.returns
returns c =
    let J = c.args.journal.now.entries in
    let past : length J ≤ c.loop-place.place = omega arith in
    λ a. c.loop-place.invariant.counted a
    ∙ ap (λ es. motions_of es a) (between-all c.args.before c.loop-place.place J past c.loop-place.invariant.from)
