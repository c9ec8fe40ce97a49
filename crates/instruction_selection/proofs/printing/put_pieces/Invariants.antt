use Rattle.std.proofs.Common.{◌≡◌, ◌+◌, ◌++◌, drop, length}
use Rattle.c_tree.specs.Format.{directives}
use Rattle.metadata_relation.specs.Blocks.{runtime_number}
use Rattle.metadata_relation.specs.Printing.{put_pieces}
use Rattle.instruction_selection.proofs.printing.put_pieces.Given as goal

abbrev pub invariant-loop-piece : goal.invariant-loop-piece
invariant-loop-piece l = record {
  made : l.code.items ++ put_pieces (runtime_number l.context.program.now) l.context.function.now
      (drop l.piece-index l.pieces) l.temporary l.count
      ≡ l.initial.code.items ++ put_pieces (runtime_number l.fn.context.program.now) l.fn.context.function.now
      l.fn.pieces l.fn.first l.fn.count;
  count : l.temporary + length (directives (drop l.piece-index l.pieces)) ≡ l.fn.first + length (directives l.fn.pieces);
}
