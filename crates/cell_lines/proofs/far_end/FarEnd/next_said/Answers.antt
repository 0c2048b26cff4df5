use Rattle.std.proofs.Common.{rules, ◌∙◌, ap, refl, sym}
use Rattle.line_reader.specs.Lines.{current}
use Rattle.cell_lines.specs.Said.{said_of}
use Rattle.cell_lines.proofs.Talking.{takes-one}
use Rattle.cell_lines.proofs.far_end.FarEnd.next_said.Goals as goal

pub returns-in-Some-clause-takes : goal.returns-in-Some-clause-takes
returns-in-Some-clause-takes g c = takes-one _ _ (current c.advance.new.self) _ _ (search rules)
    c.in-Ok-true.ensures.line (ap said_of c.in-Some.ensures.some ∙ sym c.said_of.ensures) refl

pub returns-in-None-clause-takes : goal.returns-in-None-clause-takes
returns-in-None-clause-takes g c = takes-one _ _ (current c.advance.new.self) _ _ (search rules)
    c.in-Ok-true.ensures.line (ap said_of (c.in-None.ensures.none refl)) refl
