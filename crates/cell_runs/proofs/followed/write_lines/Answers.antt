-- Each way in which a journal was followed has its own first line and its own status
use Rattle.std.proofs.Common.{◌≡◌, ◌∙◌, List, ℕ, ap, inl, refl, rules, subst, sym}
use Rattle.std.specs.Io.KnownBytes.{Appends}
use Rattle.cell_output.specs.Watched.{WritesPart}
use Rattle.cell_runs.specs.Runs.{counts_after}
use Rattle.cell_runs.specs.Told.{first_line, followed_status}
use Rattle.cell_runs.proofs.followed.write_lines.Goals as goal

pub returns-in_err-write_counts-in-Parted-clause-part : goal.returns-in_err-write_counts-in-Parted-clause-part
returns-in_err-write_counts-in-Parted-clause-part g c = λ failed.
    let text : c.as_str.result.now ≡ first_line c.args.followed.now = c.as_str.ensures.value ∙ c.in-Ok.ensures
    ∙ ap first_line (sym c.in-Parted.is) in
    subst (λ (t : List ℕ). WritesPart (g.W.Write.contents c.args.writer.now.writer.now)
    (g.W.Write.contents c.write_counts-in-Parted.new.writer.writer.now) (counts_after t c.args.totals)) text
    (c.in_err-write_counts-in-Parted.ensures.part (search rules))

pub returns-in_ok-write_counts-in-Whole-clause-whole : goal.returns-in_ok-write_counts-in-Whole-clause-whole
returns-in_ok-write_counts-in-Whole-clause-whole g c =
    rw c.in-Whole.is (inl (c.in_ok-write_counts-in-Whole.ensures.whole, refl))

pub returns-in_ok-write_counts-in-Memory-clause-whole : goal.returns-in_ok-write_counts-in-Memory-clause-whole
returns-in_ok-write_counts-in-Memory-clause-whole g c =
    rw c.in-Memory.is (inl (c.in_ok-write_counts-in-Memory.ensures.whole, refl))

pub returns-in_ok-write_counts-in-Parted-clause-whole : goal.returns-in_ok-write_counts-in-Parted-clause-whole
returns-in_ok-write_counts-in-Parted-clause-whole g c =
    let text : c.as_str.result.now ≡ first_line c.args.followed.now = c.as_str.ensures.value ∙ c.in-Ok.ensures
    ∙ ap first_line (sym c.in-Parted.is) in
    inl (
      subst (λ (t : List ℕ). Appends (g.W.Write.contents c.args.writer.now.writer.now)
          (g.W.Write.contents c.write_counts-in-Parted.new.writer.writer.now) (counts_after t c.args.totals)) text
          c.in_ok-write_counts-in-Parted.ensures.whole,
      ap followed_status (sym c.in-Parted.is),
    )
