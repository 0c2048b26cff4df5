use Rattle.std.proofs.Common.{rules, tests, arith, ◌∷◌, ◌++◌, [], ap, inr}
use Rattle.std.specs.Io.KnownBytes.{Consumes}
use Rattle.std.proofs.KnownBytes.{Consumes-trans}
use Rattle.line_reader.proofs.LineFacts.{one-longer, taken-same}
use Rattle.line_reader.proofs.reader.RecordReader.read_line.Goals as goal

pub returns-in-Some-eq10-clause-line : goal.returns-in-Some-eq10-clause-line
returns-in-Some-eq10-clause-line g c = let (line, h, taken, count) =
    c.loop-count.invariant in (line, h, Consumes-trans _ _ _ _ _ taken (search rules))

pub loop-count-preserved : goal.loop-count-preserved
loop-count-preserved g c =
    let (line, h, taken, count) = c.loop-count.invariant in
    let b = c.in-Some.byte in
    let one : Consumes (g.R.Read.remaining c.loop-count.self.source) (g.R.Read.remaining c.take_byte.new.source)
    (b ∷ []) = search rules in (
      line ++ b ∷ [],
      c.keep.ensures.holds line h (search (rules, tests)),
      taken-same _ _ _ _ (ap g.R.Read.remaining c.keep.ensures.source) (Consumes-trans _ _ _ _ _ taken one),
      one-longer line b _ count,
    )

-- the bytes of the line can't be counted any further
pub returns-clause-fault : goal.returns-clause-fault
returns-clause-fault g c = λ _.
    let (line, h, taken, count) = c.loop-count.invariant in
    inr (line, taken, omega (arith, count, c.loop-count-test.false))
