-- One place on, the line that is done is left behind
use Rattle.std.proofs.Common.{◌∙◌, ap, add-one}
use Rattle.operator_desk.specs.Next.{left_after}
use Rattle.operator_desk.proofs.Left.{left-next}
use Rattle.operator_desk.proofs.script.Script.done.Goals as goal

pub returns-then-self-len : goal.returns-then-self-len
returns-then-self-len c = rw add-one (left-next c.self.inside.position c.self.inside.lines.items
    ∙ ap left_after c.self.view_is)
