-- The operator books one entry at most, so what stands where the journal ended is his
use Rattle.std.proofs.Common.{◌≡◌, length, rules}
use Rattle.std.specs.Prelude.{slice_get}
use Rattle.cell_types.specs.declared.words.Actor.TheVariants as actors
use Rattle.cell_turns.specs.Schedules.{now}
use Rattle.cell_runs.specs.Rounds.{place}
use Rattle.cell_runs.proofs.Acting.{acted_grow, operate_books}
use Rattle.cell_runs.proofs.follow.operate.Goals as goal

pub returns-clause-operates : goal.returns-clause-operates
returns-clause-operates g c = λ minds fits.
    let cell = c.args.cell.now in
    let next = c.act.new.cell in
    let size : c.len-before.result ≡ length cell.kept.entries = search rules in
    let sees : c.get.result ≡ slice_get next.kept.entries c.len-before.result = search rules in
    operate_books cell.kept.limits c.args.plan.now (place (now cell.kept.entries minds) cell.script cell.lost)
    c.len-before.result next.kept.entries next.watches next.script next.lost c.get.result size sees
    (c.in_ok-act.ensures.operates minds fits)

pub returns-clause-grown : goal.returns-clause-grown
returns-clause-grown g c = λ minds fits.
    let cell = c.args.cell.now in
    let next = c.act.new.cell in
    let size : c.len-before.result ≡ length cell.kept.entries = search rules in
    let sees : c.get.result ≡ slice_get next.kept.entries c.len-before.result = search rules in
    let s = place (now cell.kept.entries minds) cell.script cell.lost in
    acted_grow cell.kept.limits c.args.plan.now actors.Operator s c.get.result next.kept.entries next.watches
    next.script next.lost
    (operate_books cell.kept.limits c.args.plan.now s c.len-before.result next.kept.entries next.watches next.script
    next.lost c.get.result size sees (c.in_ok-act.ensures.operates minds fits))
