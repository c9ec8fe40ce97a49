use Rattle.std.proofs.Common.{◌≡◌, ◌+◌, ◌++◌, drop, length}
use Rattle.c_tree.specs.Format.{directives}
use Rattle.metadata_relation.specs.Blocks.{runtime_number, status_code}
use Rattle.metadata_relation.specs.Printing.{scan_pieces, scan_statuses}
use Rattle.instruction_selection.proofs.printing.put_scans.Given as goal

abbrev pub invariant-loop-i : goal.invariant-loop-i
invariant-loop-i l = record {
  made : l.code.items ++ scan_pieces (runtime_number l.context.program.now) (λ r. status_code r l.line scan_statuses)
      l.context.function.now (drop l.i l.pieces) l.temporary
      ≡ l.initial.code.items ++ scan_pieces (runtime_number l.fn.context.program.now)
      (λ r. status_code r l.fn.line scan_statuses) l.fn.context.function.now l.fn.pieces l.fn.first;
  count : l.temporary + length (directives (drop l.i l.pieces)) ≡ l.fn.first + length (directives l.fn.pieces);
}
