-- The answer to a line of a method, and its own line
use Rattle.std.specs.Prelude.{ℕ, List, [], ◌∷◌, Option, Some, None, Bool, codes, decimal, if◌then◌else◌}
use Rattle.cell_rows.specs.Lines.{line}
use Rattle.cell_rules.specs.declared.refusal.Refusal.{Refusal}
use Rattle.cell_rules.specs.Words.{refusal_name, refusal_word}
use Rattle.cell_method.specs.Lines.{Row}
use Rattle.cell_method.specs.declared.reply.Reply.{Reply}
use Rattle.cell_method.specs.declared.reply.Reply.TheVariants as reply

abbrev pub or_blank : Option (List ℕ) → List ℕ
or_blank (Some word) = word
or_blank None = []

abbrev pub word_or_blank : Refusal → List ℕ
word_or_blank why = or_blank (refusal_word why)

-- the record of an answer
abbrev pub record_of : Reply → Row
record_of (reply.Booked n) = codes "ok" ∷ decimal n ∷ [] ∷ [] ∷ []
record_of (reply.Failed n) = codes "failed" ∷ decimal n ∷ [] ∷ [] ∷ []
record_of (reply.Refused why) = codes "refused" ∷ refusal_name why ∷ word_or_blank why ∷ [] ∷ []
record_of reply.Unreadable = codes "unreadable" ∷ [] ∷ [] ∷ [] ∷ []

-- the line of an answer
abbrev pub line_of : Reply → List ℕ
line_of r = line (record_of r)

abbrev pub booked_as : ℕ → Bool → Reply
booked_as n failed = if failed then reply.Failed n else reply.Booked n
