-- So many lines are done as the journal has entries of, of those that the text says
use Rattle.std.proofs.Common.{◌≡◌, ◌∙◌, List, ap, arith, refl, subst, sym}
use Rattle.std.specs.Prelude.{Ok}
use Rattle.cell_rows.specs.Rows.{rows_of}
use Rattle.cell_rows.specs.Scripts.{lines_of}
use Rattle.operator_desk.specs.Lines.{line_of}
use Rattle.operator_desk.specs.Next.{left_after}
use Rattle.operator_desk.specs.declared.line.Line.{Line}
use Rattle.cell_explain.proofs.Leaving.{drop-next}
use Rattle.cell_control.proofs.Going.{left-due}
use Rattle.cell_control.proofs.going_on.go_on.Goals as goal

pub loop-line-init : goal.loop-line-init
loop-line-init c = record { left = refl }

pub loop-line-preserved : goal.loop-line-preserved
loop-line-preserved c = record {
  left = c.done.ensures
      ∙ (ap left_after c.loop-line.invariant.left ∙ sym (drop-next c.args.script.now c.loop-line._line));
}

pub returns : goal.returns
returns c =
    let n = c.loop-line._line in
    let m = c.lines_done-line-end.result in
    let J = c.args.journal.now.entries in
    let read = c.as_slice.result.now in
    let is : n ≡ m = omega arith in (
      n,
      c.loop-line.invariant.left,
      λ says. left-due c.args.operator.now c.args.script.now read c.loop-line.script J n m is
          c.loop-line.invariant.left
          (subst (λ (lines : List Line). lines_of line_of (rows_of c.args.operator.now) ≡ Ok lines)
          (sym c.as_slice.ensures.value) c.in-Ok.ensures.exact) says c.lines_done-line-end.ensures.done,
    )
