-- Bytes in sight are handed out first, and where there are none the reader itself is read
use Rattle.std.proofs.Common.{◌≡◌, ℕ, ◌+◌, ◌-◌, ◌∙◌, rules, arith, take, drop, length, ◌++◌, ap, sym}
use Rattle.std.specs.Prelude.{slice_range}
use Rattle.std.proofs.Math.Seq.{take-append_seam}
use Rattle.std.proofs.lemmas.List.{length-append, length-drop}
use Rattle.cell_rows.proofs.Sights.{handed_out, none_in_sight, read_through}
use Rattle.cell_rows.proofs.Pieces.{seam}
use Rattle.cell_rows.proofs.ahead.ReadAheadRead.read.Goals as goal

pub returns-then-self-filled-clause-bytes : goal.returns-then-self-filled-clause-bytes
returns-then-self-filled-clause-bytes g c =
    let l = c.args.self.now in
    read_through (g.R.Read.remaining l.source) (g.R.Read.remaining c.read.new.self) (slice_range l.buffer l.at l.filled)
    c.read.result c.read.new.buf
    (none_in_sight l.buffer l.at l.filled (search rules)) c.read.ensures.bytes

pub returns-clause-bytes : goal.returns-clause-bytes
returns-clause-bytes g c =
    let l = c.args.self.now in
    let n = c.min-count.result in
    let copied = c.copy_from_slice.new.self in
    let rest = drop n c.args.buf.now in
    let is : copied ≡ slice_range l.buffer l.at (l.at + n) = c.copy_from_slice.ensures.after in
    let len : length copied ≡ n = search rules in
    let taken : take n (copied ++ rest) ≡ slice_range l.buffer l.at (l.at + n) =
    ap (λ (k : ℕ). take k (copied ++ rest)) (sym len) ∙ take-append_seam copied rest ∙ is in
    let some : n ≡ 0 → length c.args.buf.now ≡ 0 = λ e. omega arith in (
      rw taken (handed_out (g.R.Read.remaining l.source) (slice_range l.buffer l.at l.filled)
          (slice_range l.buffer l.at (l.at + n)) (slice_range l.buffer (l.at + n) l.filled)
          (seam l.buffer l.at (l.at + n) l.filled (omega arith) (omega arith) (search rules))),
      λ e more. absurd (
          let size : length (copied ++ rest) ≡ length copied + length rest = length-append copied rest in
          let left : length rest ≡ length c.args.buf.now - n = length-drop n c.args.buf.now in
          let empty : length c.args.buf.now ≡ 0 = some e in
          omega arith
          ),
    )
