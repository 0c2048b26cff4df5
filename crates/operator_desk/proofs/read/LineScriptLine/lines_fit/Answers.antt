-- The fields that write a line are short
use Rattle.operator_desk.proofs.Fit.{lines_fit}
use Rattle.operator_desk.proofs.read.LineScriptLine.lines_fit.Goals as goal

pub returns : goal.returns
returns c = lines_fit
