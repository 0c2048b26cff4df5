-- The first row comes first, and that of each entry behind those before it
use Rattle.std.proofs.Common.{◌++◌, ◌-◌, ◌≡◌, ◌≤◌, ℕ, ap, ap₂, arith, length, refl, subst, ◌∙◌}
use Rattle.std.specs.Io.KnownBytes.{Appends}
use Rattle.std.specs.Prelude.{codes}
use Rattle.cell_show.specs.Rows.{row_text}
use Rattle.cell_show.specs.Page.{rows_on}
use Rattle.cell_show.proofs.Pages.{first_row, row_more, window_rows}
use Rattle.cell_show.proofs.page.whole.write_rows.Goals as goal

pub loop-taken-init : goal.loop-taken-init
loop-taken-init g c = record {
  rows = first_row c.args.book.now.entries _ _ _ _ _ (omega arith)
      (ap₂ row_text c.row_left.ensures.facts c.row_left.ensures.last) c.in_ok-write_line.ensures;
  left = c.state_at-snapshot.ensures.state;
}

pub loop-taken-preserved : goal.loop-taken-preserved
loop-taken-preserved g c =
    let its = c.row_left-row.ensures in
    record {
      rows = row_more c.args.book.now.entries _ c.loop-taken.taken _ _ _ _ (omega arith)
          (ap₂ (λ f last. codes ",\n" ++ row_text f last) its.facts its.last) c.loop-taken.invariant.rows
          c.in_ok-write_line-2.ensures;
      left = c.step_on.ensures;
    }

pub returns-clause-rows : goal.returns-clause-rows
returns-clause-rows g c =
    let until = c.end-until.result in
    let within : c.args.window.from ≤ until = omega (arith, c.end-until.ensures) in
    let same : c.loop-taken.taken ≡ until =
    omega (arith, c.loop-taken-test.false, c.loop-taken.auto.taken-end within) in
    let rows = subst (λ (k : ℕ). Appends (g.W.Write.contents c.args.writer.now) (g.W.Write.contents c.loop-taken.writer)
    (rows_on c.args.book.now.entries c.args.window.from (k - c.args.window.from))) same c.loop-taken.invariant.rows in
    window_rows c.args.window c.args.book.now.entries _ until c.len.result _ _ refl c.end-until.ensures
    (c.len.ensures.value ∙ ap (λ j. length j.entries) c.journal.ensures) rows
