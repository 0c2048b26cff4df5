-- What is counted in a new piece is added to the count of those before it
use Rattle.std.proofs.Common.{◌≡◌, ◌+◌, rules}
use Rattle.std.specs.Prelude.{count_by}
use Rattle.std.specs.Io.KnownBytes.{prepend_known}
use Rattle.std.proofs.KnownBytes.{Keeps-trans}
use Rattle.cell_orders.specs.Parts.{ends_no_line}
use Rattle.cell_orders.proofs.Known.{counted-on}
use Rattle.cell_orders.proofs.reading.script.script_text.Goals as goal

pub returns-then-count-gt-MOST-clause-cut : goal.returns-then-count-gt-MOST-clause-cut
returns-then-count-gt-MOST-clause-cut g c =
    let behind = rw c.deref.ensures.value at c.count_in_lines-count.ensures in
    let counted : c.pieces.count + c.count_in_lines-count.result ≡ count_by ends_no_line c.read_on.new.text.items =
    counted-on ends_no_line c.pieces.bytes.items c.read_on.new.text.items c.len-start.result c.pieces.count
    c.count_in_lines-count.result c.read_on.ensures.appends
    (search rules) c.pieces.invariant.counted behind in
    λ e. rw (← counted) c.if-count-gt-MOST.true

pub pieces-preserved : goal.pieces-preserved
pieces-preserved g c =
    let behind = rw c.deref.ensures.value at c.count_in_lines-count.ensures in
    record {
      counted = counted-on ends_no_line c.pieces.bytes.items c.read_on.new.text.items c.len-start.result c.pieces.count
          c.count_in_lines-count.result
          c.read_on.ensures.appends (search rules) c.pieces.invariant.counted behind;
      whole = Keeps-trans _ _ (prepend_known c.read_on.new.text.items (g.R.Read.remaining c.read_on.new.reader))
          c.pieces.invariant.whole c.read_on.ensures.whole;
    }
