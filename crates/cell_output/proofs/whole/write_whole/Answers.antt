-- What a write takes comes right behind what was written before
use Rattle.std.proofs.Common.{arith, length-drop, take-add}
use Rattle.std.proofs.KnownBytes.{Appends-trans}
use Rattle.cell_output.proofs.Pieces.{slice-end}
use Rattle.cell_output.proofs.whole.write_whole.Goals as goal

pub writes-preserved : goal.writes-preserved
writes-preserved g c =
    let inv = c.writes.invariant in
    let all = c.args.bytes.now in
    let taken = c.writes.taken in
    let more = rw (slice-end all taken) at c.in_ok-taken.ensures.bytes in
    let bound = rw (slice-end all taken) at c.in_ok-taken.ensures.bound in
    record {
      bound = omega (arith, inv.bound, bound, length-drop taken all);
      bytes = rw (take-add taken c.in_ok-taken.field-0 all) (Appends-trans _ _ _ _ _ inv.bytes more);
    }
