-- Character by character, what is written and what is left make up the whole
use Rattle.std.proofs.Common.{◌++◌, rules}
use Rattle.std.proofs.Output.{has_written_append, has_written_of_eq}
use Rattle.std.proofs.lemmas.List.{nil_from_length}
use Rattle.std.proofs.lemmas.Str.{IsUtf8-past_char}
use Rattle.cell_command.specs.Escaped.{escaped_char}
use Rattle.cell_command.proofs.Escapes.{escaped-end, escaped-more}
use Rattle.cell_command.proofs.escaped.write_text.Goals as goal

pub loop-c-preserved : goal.loop-c-preserved
loop-c-preserved g c =
    let parts = c.in-Some.ensures.steps.0 in
    record {
      utf8 = IsUtf8-past_char _ _ _ c.loop-c.invariant.utf8 parts;
      written = λ plain.
          let now = c.loop-c.invariant.written plain in (
            now.0 ++ escaped_char c.in-Some.c,
            has_written_append _ _ _ _ _ _ now.1 (search rules),
            escaped-more _ _ _ _ _ c.loop-c.invariant.utf8 parts now.2,
          );
    }

pub returns : goal.returns
returns g c = λ plain ok.
    let now = c.loop-c.invariant.written plain in
    has_written_of_eq _ _ _ _ _ (escaped-end _ _ _ (nil_from_length _ c.in-None.ensures.steps.0.0) now.2) now.1
