use Rattle.std.proofs.Common.{map, drop}
use Rattle.c_tree.specs.Statements.{items_in}
use Rattle.program_lowering.specs.StatementParts.Items.{item_of}
use Rattle.program_lowering.specs.StatementCode.Code.{TestsCode}
use Rattle.program_lowering.proofs.statements.labels.test_items.Given as goal

abbrev pub invariant-loop-i : goal.invariant-loop-i
invariant-loop-i l =
    TestsCode l.fn.code l.code (items_in (map item_of (drop l.i l.items))) (drop l.i l.starts) l.node l.next
