-- A piece comes right behind those before it, and a part of it makes a part of them all
use Rattle.std.proofs.Common.{◌∙◌, refl}
use Rattle.cell_output.proofs.Pieces.{part-after, piece-after, pieces-split}
use Rattle.cell_output.proofs.watched.WatchedWriter.write_each.Goals as goal

pub returns-in_err-write_bytes-clause-part : goal.returns-in_err-write_bytes-clause-part
returns-in_err-write_bytes-clause-part g c = λ failed.
    part-after _ _ _ _ _ _ _ (pieces-split (λ p. p.now) c.args.pieces.now c.loop-piece.piece-index _
    c.loop-piece-test.true) c.loop-piece.invariant.bytes (c.in_err-write_bytes.ensures.part refl)

pub loop-piece-preserved : goal.loop-piece-preserved
loop-piece-preserved g c =
    let inv = c.loop-piece.invariant in
    record {
      writer = c.in_ok-write_bytes.ensures.writer ∙ inv.writer;
      bytes = piece-after _ _ _ (λ p. p.now) c.args.pieces.now c.loop-piece.piece-index _ c.loop-piece-test.true
          inv.bytes c.in_ok-write_bytes.ensures.whole;
      same = c.in_ok-write_bytes.ensures.same ∙ inv.same;
    }
