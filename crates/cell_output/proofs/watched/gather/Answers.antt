-- One more piece stands behind those before
use Rattle.cell_output.proofs.Pieces.{gathered-more, gathered-none}
use Rattle.cell_output.proofs.watched.gather.Goals as goal

pub loop-piece-init : goal.loop-piece-init
loop-piece-init c = gathered-none (λ p. p.now) c.args.pieces.now _

pub loop-piece-preserved : goal.loop-piece-preserved
loop-piece-preserved c =
    gathered-more (λ p. p.now) c.args.pieces.now c.loop-piece.piece-index _ _ _ _ c.loop-piece-test.true
    c.loop-piece.invariant c.in_ok-try_extend_from_slice.ensures.ok
