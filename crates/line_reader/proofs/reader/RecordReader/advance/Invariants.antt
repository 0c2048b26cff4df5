use Rattle.line_reader.specs.Lines.{bytes_left, lines_left}
use Rattle.line_reader.proofs.LineFacts.{KeepsLines, ReadsSome}
use Rattle.line_reader.proofs.reader.RecordReader.advance.Given as goal

-- only blank lines were read, each of which has a byte at least
abbrev pub invariant-loop-count : goal.invariant-loop-count
invariant-loop-count g l = KeepsLines (lines_left g.R.Read.remaining l.fn.self) (lines_left g.R.Read.remaining l.self)
    × ReadsSome (bytes_left g.R.Read.remaining l.fn.self) (bytes_left g.R.Read.remaining l.self) l._count
