-- A run of a low status went well, so all that it had to write was written, part after part
use Rattle.std.proofs.Common.{refl, subst}
use Rattle.std.specs.Io.KnownBytes.{Appends}
use Rattle.cell_journal.specs.Stored.{Stored}
use Rattle.cell_method.specs.Rounds.{entry_lines}
use Rattle.cell_output.specs.Watched.{bytes_held}
use Rattle.cell_drive.proofs.Drove.{drove, of-ok, of-told}
use Rattle.cell_drive.proofs.by_entries.drive_on.Goals as goal

pub returns-clause-run : goal.returns-clause-run
returns-clause-run g c = of-told _ c.tell_run.ensures.told c.tell_run.ensures.status c.tell_run.ensures.memory
    (λ status told is ended.
    drove _ _ c.args.inputs.plan c.args.inputs.script c.args.book.entries _ _ _ _ _ _ _ _ _ _ _ _ _ _ status
    refl c.requires
    c.drive-ran.ensures.limits c.drive-ran.ensures.legal c.in_ok-begin.ensures
    (subst (λ (j : Stored). Appends (bytes_held g.W.Write.contents c.begin.new.output)
    (bytes_held g.W.Write.contents c.tell_entries.new.writer) (entry_lines j.entries)) c.journal.ensures
    c.in_ok-tell_entries.ensures)
    (of-ok _ _ _ (c.in_ok-end.ensures ended) c.drive-ran.ensures.run) told is)
