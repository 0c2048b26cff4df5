-- Each entry that its actor books is one more that was followed, and the first that isn't ends it
use Rattle.std.proofs.Common.{refl, ◌∙◌}
use Rattle.cell_turns.specs.Schedules.{now}
use Rattle.cell_runs.specs.Rounds.{place}
use Rattle.cell_runs.proofs.Acting.{follows_ends, follows_more, follows_start}
use Rattle.cell_runs.proofs.follow.follow_entries.Goals as goal

pub loop-i-init : goal.loop-i-init
loop-i-init g c =
    let cell = c.args.cell.now in
    record {
      machines = c.requires;
      limits = refl;
      follows = λ minds fits. follows_start cell.kept.limits c.args.plan.now cell.kept.entries cell.watches cell.script
          cell.lost minds fits;
    }

pub loop-i-preserved : goal.loop-i-preserved
loop-i-preserved g c =
    let was = c.loop-i.invariant in
    let start = c.args.cell.now in
    let cell = c.loop-i.cell in
    let next = c.follow_entry.new.cell in
    record {
      machines = c.follow_entry.ensures.machines;
      limits = c.follow_entry.ensures.limits ∙ was.limits;
      follows = λ minds fits.
          follows_more start.kept.limits cell.kept.limits c.args.plan.now
          (place (now start.kept.entries minds) start.script start.lost) c.args.journal.now.entries c.loop-i.i
          c.at-wanted.result cell.kept.entries next.kept.entries cell.watches next.watches cell.script next.script
          cell.lost next.lost
          was.limits c.at-wanted.ensures (was.follows minds fits) c.in_default.ensures.acts;
    }

pub returns-in-Err-clause-ends : goal.returns-in-Err-clause-ends
returns-in-Err-clause-ends g c = λ minds fits.
    let was = c.loop-i.invariant in
    let start = c.args.cell.now in
    let cell = c.loop-i.cell in
    follows_ends start.kept.limits cell.kept.limits c.args.plan.now
    (place (now start.kept.entries minds) start.script start.lost) c.args.journal.now.entries c.loop-i.i
    c.at-wanted.result cell.kept.entries c.follow_entry.new.cell.kept.entries cell.watches cell.script cell.lost _
    was.limits c.at-wanted.ensures (was.follows minds fits) c.in-Err.ensures.ends
