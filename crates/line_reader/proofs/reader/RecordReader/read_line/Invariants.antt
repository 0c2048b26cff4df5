use Rattle.std.proofs.Common.{◌≡◌, ℕ, List, length}
use Rattle.std.specs.Io.KnownBytes.{Consumes}
use Rattle.line_reader.specs.Lines.{Holds}
use Rattle.line_reader.proofs.reader.RecordReader.read_line.Given as goal

-- the bytes of the line so far, which are counted
abbrev pub invariant-loop-count : goal.invariant-loop-count
invariant-loop-count g l = (line : List ℕ) × Holds l.self line
    × Consumes (g.R.Read.remaining l.fn.self.source) (g.R.Read.remaining l.self.source) line × (length line ≡ l._count)
