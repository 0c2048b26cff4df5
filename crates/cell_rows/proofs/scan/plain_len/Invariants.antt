-- The loop over plain bytes: none that it passed needs quotes
use Rattle.std.proofs.Common.{◌≡◌, false, take}
use Rattle.csv.specs.Writing.{default_writer, needs_quotes}
use Rattle.cell_rows.proofs.scan.plain_len.Given as goal

abbrev pub invariant-loop-place : goal.invariant-loop-place
invariant-loop-place l = needs_quotes default_writer (take l.place l.text) ≡ false
