use Rattle.std.proofs.Common.{rules}
use Rattle.line_reader.proofs.Holding.{kept-full, kept-more}
use Rattle.line_reader.proofs.reader.RecordReader.keep.Goals as goal

pub returns-in-Err-clause-holds : goal.returns-in-Err-clause-holds
returns-in-Err-clause-holds g c = λ line h w. rw (c.in-Err.ensures.err) (kept-full _ _ line _ h w c.in-Err.ensures.full)

pub returns-in-Ok-clause-holds : goal.returns-in-Ok-clause-holds
returns-in-Ok-clause-holds g c = λ line h w. kept-more _ _ _ line _ h w (search rules) c.in-Ok.ensures.ok
