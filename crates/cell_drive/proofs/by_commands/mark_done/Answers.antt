-- One place on, the line that is done is left behind
use Rattle.std.proofs.Common.{◌≡◌, ◌+◌, List, add-one, ap, drop}
use Rattle.operator_desk.proofs.Left.{left-next}
use Rattle.operator_desk.specs.Next.{left_after}
use Rattle.operator_desk.specs.declared.line.Line.{Line}
use Rattle.cell_drive.specs.Commanded.{stand_of}
use Rattle.cell_drive.proofs.by_commands.mark_done.Goals as goal

pub returns-then-run-len : goal.returns-then-run-len
returns-then-run-len c =
    let n = c.args.run.now.done in
    let xs = c.args.run.now.script.items in
    let next : drop (n + 1) xs ≡ left_after (drop n xs) = rw add-one (left-next n xs) in
    ap (λ (ls : List Line). record (stand_of c.args.run.now) { lines = ls }) next
