-- Where a write is refused, the characters before are written whole
use Rattle.std.proofs.Common.{◌++◌, ◌∙◌, refl}
use Rattle.std.proofs.KnownBytes.{Appends-trans}
use Rattle.std.proofs.lemmas.List.{nil_from_length}
use Rattle.std.proofs.lemmas.Str.{IsUtf8-past_char}
use Rattle.cell_output.proofs.Pieces.{part-after}
use Rattle.cell_settings.specs.Checked.{escaped_char}
use Rattle.cell_settings.proofs.Escapes.{escaped-end, escaped-more, escaped-split}
use Rattle.cell_settings.proofs.escaped.write_escaped.Goals as goal

pub returns-in_err-write_char-clause-part : goal.returns-in_err-write_char-clause-part
returns-in_err-write_char-clause-part g c = λ failed.
    let inv = c.loop-c.invariant in
    part-after _ _ _ inv.bytes.0 _ _ _
    (escaped-split _ _ _ c.in-Some.c _ inv.utf8 c.in-Some.ensures.steps.0 inv.bytes.2)
    inv.bytes.1 (c.in_err-write_char.ensures.part refl)

pub loop-c-preserved : goal.loop-c-preserved
loop-c-preserved g c =
    let inv = c.loop-c.invariant in
    let parts = c.in-Some.ensures.steps.0 in
    record {
      utf8 = IsUtf8-past_char _ _ _ inv.utf8 parts;
      writer = c.in_ok-write_char.ensures.writer ∙ inv.writer;
      bytes = (
        inv.bytes.0 ++ escaped_char c.in-Some.c,
        Appends-trans _ _ _ _ _ inv.bytes.1 c.in_ok-write_char.ensures.whole,
        escaped-more _ _ _ _ _ inv.utf8 parts inv.bytes.2,
      );
      same = c.in_ok-write_char.ensures.same ∙ inv.same;
    }

pub returns-clause-whole : goal.returns-clause-whole
returns-clause-whole g c =
    let inv = c.loop-c.invariant in
    escaped-end _ _ _ _ _ (nil_from_length _ c.in-None.ensures.steps.0.0) inv.bytes.2 inv.bytes.1
