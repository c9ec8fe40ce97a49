use Rattle.std.proofs.Common.{◌≡◌, take}
use Rattle.std.specs.Prelude.{flat_map}
use Rattle.sb_outside.specs.Content.{gained}
use Rattle.sbcets_core.proofs.report.put_pieces.Given as goal

abbrev pub invariant-loop-piece : goal.invariant-loop-piece
invariant-loop-piece g l = record {
  gains : g.S.Sink.taken l.sink ≡ gained (g.S.Sink.taken l.fn.sink)
      (flat_map (λ p. p.now) (take l.piece-index l.pieces));
  counts : g.S.Sink.faults l.sink ≡ g.S.Sink.faults l.fn.sink;
}
