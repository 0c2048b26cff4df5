-- A record of other than four fields is no line
use Rattle.std.proofs.Common.{sym, refl}
use Rattle.cell_rows.proofs.Scripts.{other-row}
use Rattle.cell_rows.proofs.script.current_line.Goals as goal

pub returns-in-None : goal.returns-in-None
returns-in-None g c = sym (other-row g.L.ScriptLine.line_of c.args.before.now _ (c.in-None.ensures.none refl))
