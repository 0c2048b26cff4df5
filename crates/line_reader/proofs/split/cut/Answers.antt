use Rattle.line_reader.proofs.Splitting.{parts-some}
use Rattle.line_reader.proofs.split.cut.Goals as goal

-- after a sign there is a part, if an empty one
pub returns-then-byte-sign-clause-more : goal.returns-then-byte-sign-clause-more
returns-then-byte-sign-clause-more c = parts-some _ _ _
