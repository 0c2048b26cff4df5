-- A turn books one entry at most, so what stands where the journal ended tells whether it waited
use Rattle.std.proofs.Common.{◌≡◌, ◌<◌, ◌∙◌, append-nil, length, refl, sym, true, false, rules}
use Rattle.std.specs.Prelude.{is_some, slice_get}
use Rattle.cell_turns.specs.declared.schedule.Step.TheVariants.{Turn}
use Rattle.cell_turns.specs.Schedules.{now}
use Rattle.cell_runs.proofs.Acting.{waits_start, work_books, work_grown, work_quiet, work_rests, work_waits}
use Rattle.cell_runs.proofs.OneRound.{err_of}
use Rattle.cell_runs.proofs.follow.work.Goals as goal

pub loop-turn-init : goal.loop-turn-init
loop-turn-init g c =
    let cell = c.args.cell.now in
    record {
      machines = c.requires;
      limits = refl;
      same = (refl, refl);
      waits = λ minds fits. waits_start cell.kept.limits c.args.plan.now c.args.machine cell.kept.entries cell.watches
          minds fits;
    }

pub returns-in_err-take_step-clause-unchanged : goal.returns-in_err-take_step-clause-unchanged
returns-in_err-take_step-clause-unchanged g c =
    let start = c.args.cell.now in
    let cell = c.loop-turn.cell in
    let was = c.loop-turn.invariant in
    err_of _ _ _ c.from_residual.ensures.1
    (λ minds fits.
    let waited = was.waits minds fits in
    c.in_err-take_step.ensures.unchanged waited.0 waited.1 ∙ work_quiet start.kept.limits c.args.plan.now c.args.machine
    (now start.kept.entries minds) c.loop-turn._turn cell.kept.entries cell.watches waited)

pub returns-then-is_some-clause-works : goal.returns-then-is_some-clause-works
returns-then-is_some-clause-works g c = λ minds fits.
    let start = c.args.cell.now in
    let cell = c.loop-turn.cell in
    let next = c.take_step.new.cell in
    let was = c.loop-turn.invariant in
    let step = Turn c.args.machine c.read-reading.result in
    let few : c.loop-turn._turn < c.args.plan.now.turns = c.loop-turn-test.true in
    let size : c.len-before.result ≡ length start.kept.entries = search rules in
    let sees : c.get-booked.result ≡ slice_get next.kept.entries c.len-before.result = search rules in
    let some : is_some c.get-booked.result ≡ true = search rules in
    work_books start.kept.limits cell.kept.limits c.args.plan.now c.args.machine step (now start.kept.entries minds)
    start.script next.script start.lost next.lost c.loop-turn._turn c.len-before.result cell.kept.entries
    next.kept.entries cell.watches next.watches c.get-booked.result
    was.limits (c.take_step.ensures.same.0 ∙ was.same.0) (c.take_step.ensures.same.1 ∙ was.same.1) refl few size sees
    some (was.waits minds fits) c.in_ok-take_step.ensures.took

pub returns-then-is_some-clause-grown : goal.returns-then-is_some-clause-grown
returns-then-is_some-clause-grown g c = λ minds fits.
    let start = c.args.cell.now in
    let cell = c.loop-turn.cell in
    let next = c.take_step.new.cell in
    let was = c.loop-turn.invariant in
    let step = Turn c.args.machine c.read-reading.result in
    let size : c.len-before.result ≡ length start.kept.entries = search rules in
    let sees : c.get-booked.result ≡ slice_get next.kept.entries c.len-before.result = search rules in
    work_grown start.kept.limits cell.kept.limits c.args.plan.now c.args.machine step (now start.kept.entries minds)
    c.loop-turn._turn c.len-before.result cell.kept.entries next.kept.entries cell.watches next.watches
    c.get-booked.result
    was.limits refl size sees (was.waits minds fits) c.in_ok-take_step.ensures.took

pub loop-turn-preserved : goal.loop-turn-preserved
loop-turn-preserved g c =
    let start = c.args.cell.now in
    let cell = c.loop-turn.cell in
    let next = c.take_step.new.cell in
    let was = c.loop-turn.invariant in
    let step = Turn c.args.machine c.read-reading.result in
    let size : c.len-before.result ≡ length start.kept.entries = search rules in
    let sees : c.get-booked.result ≡ slice_get next.kept.entries c.len-before.result = search rules in
    let none : is_some c.get-booked.result ≡ false = search rules in
    record {
      machines = c.take_step.ensures.machines;
      limits = c.take_step.ensures.limits ∙ was.limits;
      same = (c.take_step.ensures.same.0 ∙ was.same.0, c.take_step.ensures.same.1 ∙ was.same.1);
      waits = λ minds fits.
          work_waits start.kept.limits cell.kept.limits c.args.plan.now c.args.machine step
          (now start.kept.entries minds) c.loop-turn._turn c.len-before.result cell.kept.entries next.kept.entries
          cell.watches next.watches c.get-booked.result
          was.limits refl size sees none (was.waits minds fits) c.in_ok-take_step.ensures.took;
    }

pub returns-clause-works : goal.returns-clause-works
returns-clause-works g c = λ minds fits.
    let start = c.args.cell.now in
    let cell = c.loop-turn.cell in
    let was = c.loop-turn.invariant in
    let all : c.loop-turn._turn ≡ c.args.plan.now.turns = search rules in
    work_rests start.kept.limits c.args.plan.now c.args.machine (now start.kept.entries minds) start.script cell.script
    start.lost cell.lost c.loop-turn._turn cell.kept.entries cell.watches was.same.0 was.same.1 all
    (was.waits minds fits)

pub returns-clause-grown : goal.returns-clause-grown
returns-clause-grown g c = λ minds fits.
    let start = c.args.cell.now in
    let cell = c.loop-turn.cell in
    work_quiet start.kept.limits c.args.plan.now c.args.machine (now start.kept.entries minds) c.loop-turn._turn
    cell.kept.entries cell.watches (c.loop-turn.invariant.waits minds fits) ∙ sym (append-nil start.kept.entries)
