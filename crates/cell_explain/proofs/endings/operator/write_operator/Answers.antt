-- The line that is told is the first of the script that isn't done
use Rattle.std.proofs.Common.{drop}
use Rattle.std.specs.Io.KnownBytes.{Appends}
use Rattle.operator_desk.specs.Lines.{line_of}
use Rattle.cell_explain.specs.Endings.{IsUndone, script_lines}
use Rattle.cell_explain.specs.Waiting.{waiting_of}
use Rattle.cell_explain.proofs.Whole.{with-both}
use Rattle.cell_explain.proofs.endings.operator.write_operator.Goals as goal

pub returns : goal.returns
returns g c =
    let J = drop c.args.before c.args.book.now.entries in
    let text = c.args.operator.now in
    let n = c.lines_done-done.result in
    let at = c.record_of-at.result.line in
    let undone : IsUndone text J n at = (
      rw (c.as_slice.ensures.value, c.in_ok-lines.ensures, c.journal.ensures) at c.lines_done-done.ensures.done,
      (c.record_of-at.result.bytes.now, c.record_of-at.ensures),
    ) in
    with-both c.write_first.result (IsUndone text J) (λ m k. Appends (g.W.Write.contents c.args.writer.now)
    (g.W.Write.contents c.write_first.new.writer)
    (waiting_of c.args.book.now.limits c.args.book.now.entries m k (script_lines line_of text))) n at undone
    (rw (c.as_slice-2.ensures.value, c.in_ok-lines.ensures) at c.write_first.ensures)
