-- Which text is meant where a journal's text is judged
use Rattle.cell_orders.proofs.reading.journal.journal_text.Given as goal

-- the text is that of the reader
abbrev pub ghosts-judge : goal.ghosts-judge
ghosts-judge g a = record { text = g.R.Read.remaining a.reader }
