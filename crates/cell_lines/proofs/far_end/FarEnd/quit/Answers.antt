use Rattle.std.proofs.Common.{rules, true}
use Rattle.cell_lines.specs.Stands.{Writes, stand_of}
use Rattle.cell_lines.specs.Written.{line_of}
use Rattle.cell_lines.specs.declared.written.Written.TheVariants as written
use Rattle.cell_lines.proofs.Sending.{wrote-all, wrote-still}
use Rattle.cell_lines.proofs.far_end.FarEnd.quit.Goals as goal

-- all was written, and then only read
pub returns : goal.returns
returns g c =
    let whole : Writes (line_of (written.Stop true)) (stand_of g.R.Read.remaining g.W.Write.contents c.args.self.now)
    (stand_of g.R.Read.remaining g.W.Write.contents c.send.new.self) = search rules in
    wrote-still _ _ _ (line_of (written.Stop true)) (wrote-all _ _ (line_of (written.Stop true)) whole.bytes)
    c.read_end.ensures
