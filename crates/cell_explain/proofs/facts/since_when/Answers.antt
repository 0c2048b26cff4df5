-- A fact that holds after one entry more held before, or since that entry
use Rattle.std.proofs.Common.{◌∙◌, ◌+◌, arith, refl, sym, true≢false}
use Rattle.cell_journal.specs.Snapshots.{state_of}
use Rattle.cell_explain.proofs.Sinces.{holds-here, since-fact, since-more, since-whole}
use Rattle.cell_explain.proofs.facts.since_when.Goals as goal
use Rattle.cell_explain.proofs.facts.since_when.Goals.{then-holds+then-not-held, else-holds}
use Rattle.cell_explain.proofs.facts.since_when.Goals.{else-holds-via-else-holds}
use Rattle.cell_explain.proofs.facts.since_when.Goals.{else-holds-via-then-holds+else-not-held}

pub loop-place-init : goal.loop-place-init
loop-place-init c =
    let known = since-fact c.args.journal.now.entries c.args.fact.now 0 c.holds-held.result
    (state_of c.opening-state.result) c.opening-state.ensures c.holds-held.ensures.so c.holds-held.ensures.not_so in
    record {
      state = c.opening-state.ensures;
      holds = known.0;
      fails = known.1;
      since = λ h. holds-here c.args.journal.now.entries c.args.fact.now 0 (known.0 h);
    }

pub loop-place-preserved : goal.loop-place-preserved
loop-place-preserved c =
    let J = c.args.journal.now.entries in
    let f = c.args.fact.now in
    let n = c.loop-place.place in
    let known = since-fact J f (n + 1) c.holds-holds.result (state_of c.left_after-state.result)
    c.left_after-state.ensures c.holds-holds.ensures.so c.holds-holds.ensures.not_so in
    record {
      state = c.left_after-state.ensures;
      holds = known.0;
      fails = known.1;
      since = elim c.if-holds.branch [
        | then-holds+then-not-held w ↦ λ h. rw w.since-is (
          n,
          refl,
          omega arith,
          w.at.ensures,
          c.loop-place.invariant.fails w.if-not-held.true,
          holds-here J f (n + 1) (known.0 h),
        )
        | else-holds w ↦ elim w.else-holds.branch [
          | else-holds-via-then-holds+else-not-held v ↦ λ h. rw w.since-is
              (since-more J n f c.loop-place.since (c.loop-place.invariant.since v.if-not-held.false) (known.0 h))
          | else-holds-via-else-holds v ↦ λ h. absurd (true≢false (sym h ∙ v.if-holds.false))
        ]
      ];
    }

pub returns : goal.returns
returns c = since-whole c.args.journal.now.entries c.args.fact.now c.loop-place.place c.loop-place.held
    c.loop-place.since (omega arith) c.loop-place.invariant.since c.loop-place.invariant.fails
