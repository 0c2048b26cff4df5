use Rattle.std.proofs.Common.{◌≡◌, ◌++◌, ◌∙◌, ap}
use Rattle.std.proofs.lemmas.Fmt.{contents_after_writes}
use Rattle.cell_lines.specs.Written.{line_of}
use Rattle.cell_lines.proofs.put.text_of.Goals as goal

pub returns-in-Ok : goal.returns-in-Ok
returns-in-Ok c =
    contents_after_writes (λ s bytes t. t.bytes ≡ s.bytes ++ bytes) (λ s. s.bytes) (λ s bytes t h. h)
    c.new-text.result (line_of c.args.line) c.write.new.self c.in-Ok.ensures.writes
    ∙ ap (λ bytes. bytes ++ line_of c.args.line) c.new-text.ensures
