-- Plain bytes and the byte behind them are a field, unless there are too many
use Rattle.std.proofs.Common.{rules, arith}
use Rattle.cell_rows.proofs.Scans.{ends_field_at, long_field}
use Rattle.cell_rows.proofs.scan.field_end.Goals as goal

pub returns-then-len-gt-LONGEST_FIELD-clause-long : goal.returns-then-len-gt-LONGEST_FIELD-clause-long
returns-then-len-gt-LONGEST_FIELD-clause-long c =
    let n = c.plain_run-len.result in
    λ e. long_field c.args.text.now c.args.from c.args.to n c.requires.range.0 c.requires.range.1 (search rules)
    (omega arith) (search rules)

pub returns-then-at-to-clause-end : goal.returns-then-at-to-clause-end
returns-then-at-to-clause-end c =
    let n = c.plain_run-len.result in (
      omega arith,
      ends_field_at c.args.text.now c.args.from c.args.to n (omega arith) c.requires.range.1 (omega arith)
          (search rules),
    )
