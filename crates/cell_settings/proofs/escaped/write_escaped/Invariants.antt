-- The loop over the characters of a path
use Rattle.std.proofs.Common.{◌≡◌, ◌++◌, ℕ, List}
use Rattle.std.specs.Str.{IsUtf8}
use Rattle.std.specs.Str.Iter.{chars_rest}
use Rattle.std.specs.Io.KnownBytes.{Appends}
use Rattle.cell_output.specs.Watched.{IsSameWriter, bytes_held, has_refused}
use Rattle.cell_settings.specs.Checked.{escaped}
use Rattle.cell_settings.proofs.escaped.write_escaped.Given as goal

-- what is written and what is to be written of the characters that are left make up the whole, and no write was refused
abbrev pub invariant-loop-c : goal.invariant-loop-c
invariant-loop-c g l = record {
  utf8 : IsUtf8 (chars_rest l.c-iterator);
  writer : IsSameWriter l.fn.writer l.writer;
  bytes : (done : List ℕ) × Appends (bytes_held g.W.Write.contents l.fn.writer)
      (bytes_held g.W.Write.contents l.writer) done × (done ++ escaped (chars_rest l.c-iterator) ≡ escaped l.path);
  same : has_refused l.writer ≡ has_refused l.fn.writer;
}
