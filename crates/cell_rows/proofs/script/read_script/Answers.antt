-- At each way out the answer is the one that is due, and it means what it should
use Rattle.std.proofs.Common.{◌≡◌, ◌≤◌, ◌<◌, length, rules, arith, true, Some, ◌∷◌, [], length-append}
use Rattle.std.specs.Result.{is_ok}
use Rattle.cell_rows.specs.Rows.{rows_left, rows_of}
use Rattle.cell_rows.proofs.Scripts.{due-end, due-many, due-means, due-more, due-stopped, due-unread, gives-stopped}
use Rattle.cell_rows.proofs.Scripts.{means-stopped}
use Rattle.cell_rows.proofs.script.read_script.Goals as goal

pub returns-then-not-found : goal.returns-then-not-found
returns-then-not-found g c =
    let exact = due-end _ _ _ _ _ _ c.loop-place.invariant.due c.in-Ok.found (search rules) c.in-Ok.ensures.takes in
    record { exact = exact; means = due-means _ _ _ exact }

pub returns-then-place-eq-MAX_LINES : goal.returns-then-place-eq-MAX_LINES
returns-then-place-eq-MAX_LINES g c =
    let most : 1000 ≤ length c.loop-place.lines.items = rw c.loop-place.invariant.counted (search rules) in
    let exact = due-many _ _ _ _ _ _ c.loop-place.invariant.due c.in-Ok.found (search rules) c.in-Ok.ensures.takes most
    in
    record { exact = exact; means = due-means _ _ _ exact }

pub returns-in-None : goal.returns-in-None
returns-in-None g c =
    let few : length c.loop-place.lines.items < 1000 =
    rw c.loop-place.invariant.counted (omega (arith, c.loop-place.invariant.few)) in
    let exact = due-unread _ _ _ _ _ _ c.loop-place.invariant.due c.in-Ok.found (search rules) c.in-Ok.ensures.takes few
    (search rules) in
    rw (← c.loop-place.invariant.counted) (record { exact = exact; means = due-means _ _ _ exact })

pub loop-place-preserved : goal.loop-place-preserved
loop-place-preserved g c =
    let good : is_ok c.push.result ≡ true = search rules in
    let items = rw good at c.push.ensures.items in
    let few : length c.loop-place.lines.items < 1000 =
    rw c.loop-place.invariant.counted (omega (arith, c.loop-place.invariant.few)) in
    record {
      may_go_on = c.in-Ok.ensures.open;
      counted = rw items (omega (
        arith,
        length-append c.loop-place.lines.items (c.in-Some.line ∷ []),
        c.loop-place.invariant.counted,
      ));
      few = omega (arith, few, c.loop-place.invariant.counted);
      due = rw items (due-more _ _ _ _ _ _ c.in-Some.line c.loop-place.invariant.due c.in-Ok.found (search rules)
          c.in-Ok.ensures.takes few (search rules));
    }

pub returns-in-Err : goal.returns-in-Err
returns-in-Err g c =
    let lines = c.loop-place.lines.items in
    let stopped = due-stopped g.L.ScriptLine.line_of (rows_of c.args.text.now)
    (rows_left (λ s. Some s.now) c.loop-place.rows) lines c.loop-place.place c.in-Err.why c.stopped.result
    c.stopped.ensures.fits c.loop-place.invariant.due c.in-Err.ensures.unfit c.loop-place.invariant.counted
    c.loop-place.invariant.few
    c.stopped.ensures.unread c.stopped.ensures.many c.stopped.ensures.memory in
    record {
      exact = gives-stopped _ c.stopped.result stopped;
      means =
          means-stopped g.L.ScriptLine.line_of (rows_of c.args.text.now) c.stopped.result stopped;
    }
