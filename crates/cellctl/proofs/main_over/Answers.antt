-- A write that was refused is all that was told, and nothing is written after it
use Rattle.std.proofs.Common.{Err, inl, refl}
use Rattle.std.proofs.KnownBytes.{Keeps-refl}
use Rattle.cell_output.specs.Watched.{bytes_held}
use Rattle.cellctl.proofs.main_over.Goals as goal

pub returns-in-Err-Write : goal.returns-in-Err-Write
returns-in-Err-Write g c =
    inl (record {
      order = c.in-Ok.order;
      ordered = c.in-Ok.ensures.order;
      out = bytes_held g.W.Write.contents c.carry_out.new.output;
      errors = bytes_held g.E.Write.contents c.carry_out.new.errors;
      written = Err c.in-Err-Write.field-0-0;
      carried = rw c.in-Err-Write.field-0-is at c.in-Err-Write.ensures;
      kept = Keeps-refl _;
      ends = refl;
    })
