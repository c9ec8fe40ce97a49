use Rattle.sbcets_core.proofs.Pieces.{part_of_pieces}
use Rattle.sbcets_core.proofs.report.put_pieces.Goals as goal

pub returns-in-Err-clause-err : goal.returns-in-Err-clause-err
returns-in-Err-clause-err g c =
    part_of_pieces _ _ _ c.args.pieces.now c.loop-piece.piece-index _ c.loop-piece-test.true
    c.loop-piece.invariant.gains c.in-Err.ensures.err
