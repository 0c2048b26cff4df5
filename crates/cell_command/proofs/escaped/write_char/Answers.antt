-- A control character is written as its escape
use Rattle.std.proofs.Common.{rules}
use Rattle.std.proofs.Output.{has_written_of_eq}
use Rattle.cell_command.proofs.Escapes.{escape-text}
use Rattle.cell_command.proofs.escaped.write_char.Goals as goal

pub returns-then-is_control : goal.returns-then-is_control
returns-then-is_control g c = λ plain ok.
    has_written_of_eq _ _ _ _ _
    (escape-text c.args.c _ _ (search rules) c.digit-high.ensures.digit c.digit-high.ensures.ascii
    c.digit-low.ensures.digit c.digit-low.ensures.ascii)
    (c.write.ensures.writes plain ok)
