-- The lowest mark is that of the field's end
use Rattle.std.proofs.Common.{◌≡◌, ◌<◌, ◌+◌, ◌∙◌, ℕ, List, false, rules, sym, subst, arith}
use Rattle.csv.specs.Writing.{default_writer, needs_quotes}
use Rattle.cell_rows.specs.Plain.{EndsField}
use lib.Count.{count_trailing_zeros}
use Rattle.cell_rows.proofs.Marks.{found}
use Rattle.cell_rows.proofs.Scans.{ends_field_at, first_bytes}
use Rattle.cell_rows.proofs.together.ended_by.Goals as goal

pub bounds-text-at : goal.bounds-text-at
bounds-text-at c =
    let f = found c.args.text.now c.args.from c.args.edge c.args.marks c.requires.range.0 c.requires.range.1
    (omega (arith, c.requires.range.2)) c.requires.marks (search rules) in
    omega (arith, f.0, c.requires.range.2)

pub returns-clause-end : goal.returns-clause-end
returns-clause-end c =
    let text = c.args.text.now in
    let from = c.args.from in
    let n = count_trailing_zeros 64 c.args.marks in
    let f = found text from c.args.edge c.args.marks c.requires.range.0 c.requires.range.1
    (omega (arith, c.requires.range.2)) c.requires.marks (search rules) in
    let to : from + n < c.args.to = omega (arith, f.0, c.requires.range.2) in
    let plain = subst (λ (x : List ℕ). needs_quotes default_writer x ≡ false)
    (first_bytes text from c.args.edge n (omega (arith, f.0))
    ∙ sym (first_bytes text from c.args.to n (omega (arith, to)))) f.1 in
    subst (λ (b : ℕ). EndsField text from c.args.to b (from + n)) (search rules)
    (ends_field_at text from c.args.to n to (omega (arith, c.requires.range.2)) (omega arith) plain)

pub returns-clause-inside : goal.returns-clause-inside
returns-clause-inside c =
    let f = found c.args.text.now c.args.from c.args.edge c.args.marks c.requires.range.0 c.requires.range.1
    (omega (arith, c.requires.range.2)) c.requires.marks (search rules) in
    (f.0, omega arith)

pub returns-clause-marks : goal.returns-clause-marks
returns-clause-marks c =
    let f = found c.args.text.now c.args.from c.args.edge c.args.marks c.requires.range.0 c.requires.range.1
    (omega (arith, c.requires.range.2)) c.requires.marks (search rules) in
    f.2
