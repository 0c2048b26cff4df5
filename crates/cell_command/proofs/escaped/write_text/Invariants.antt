-- The loop over the characters of a text
use Rattle.std.proofs.Common.{◌≡◌, ℕ, List, ◌++◌}
use Rattle.std.specs.Fmt.{HasWritten, IsPlainFormatter}
use Rattle.std.specs.Str.{IsUtf8}
use Rattle.std.specs.Str.Iter.{chars_rest}
use Rattle.cell_command.specs.Escaped.{escaped}
use Rattle.cell_command.proofs.escaped.write_text.Given as goal

-- what is written, and what is to be written of the characters that are left
abbrev pub invariant-loop-c : goal.invariant-loop-c
invariant-loop-c g l = record {
  utf8 : IsUtf8 (chars_rest l.c-iterator);
  written : IsPlainFormatter l.initial.f → (done : List ℕ) × HasWritten g.W.Write.write_str_gives l.initial.f done l.f
      × (done ++ escaped (chars_rest l.c-iterator) ≡ escaped l.text);
}
