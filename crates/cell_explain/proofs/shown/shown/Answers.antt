-- A short record is shown whole, and of a long one the first bytes
use Rattle.std.proofs.Common.{◌≡◌, IfOk, arith, string_bytes, subst, sym}
use Rattle.std.proofs.lemmas.List.{length-take-le}
use Rattle.cell_explain.proofs.Parts.{short-shown}
use Rattle.cell_explain.proofs.shown.shown.Goals as goal

pub returns-then-record-le-MOST : goal.returns-then-record-le-MOST
returns-then-record-le-MOST c =
    subst (λ b. IfOk c.shown_bytes.result (λ t. string_bytes t ≡ b)) (short-shown c.args.record.now (omega arith))
    c.shown_bytes.ensures

-- the record is longer than what is shown of it, so that part has its full length
pub slice_bounds-shown_bytes-end : goal.slice_bounds-shown_bytes-end
slice_bounds-shown_bytes-end c = sym (length-take-le 80 c.args.record.now (omega arith))
