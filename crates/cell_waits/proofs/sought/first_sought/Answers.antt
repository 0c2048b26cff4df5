-- A row is found, or passed, or none is left
use Rattle.std.proofs.Common.{sym, ◌∙◌, arith}
use Rattle.cell_waits.proofs.Finding.{found, none_left, passed}
use Rattle.cell_waits.proofs.sought.first_sought.Goals as goal

pub returns-then-is_found : goal.returns-then-is_found
returns-then-is_found g c =
    found (g.C.Reads.situation c.args.cell.now) c.args.sought c.args.rows.now c.loop-row.row-index c.row-item.result
    (omega arith) c.row-item.is (sym c.is_found.ensures ∙ c.if-is_found.true)
    ∙ c.loop-row.invariant

pub loop-row-preserved : goal.loop-row-preserved
loop-row-preserved g c =
    passed (g.C.Reads.situation c.args.cell.now) c.args.sought c.args.rows.now c.loop-row.row-index c.row-item.result
    (omega arith) c.row-item.is (sym c.is_found.ensures ∙ c.if-is_found.false)
    ∙ c.loop-row.invariant

pub returns : goal.returns
returns g c =
    none_left (g.C.Reads.situation c.args.cell.now) c.args.sought c.args.rows.now c.loop-row.row-index (omega arith)
    ∙ c.loop-row.invariant
