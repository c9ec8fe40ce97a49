use Rattle.std.proofs.Common.{◌≡◌, map, drop}
use Rattle.c_tree.specs.Statements.{items_in}
use Rattle.program_lowering.specs.StatementParts.Items.{item_of}
use Rattle.program_lowering.specs.StatementCode.Switches.{default_start}
use Rattle.program_lowering.proofs.statements.labels.default_start.Given as goal

abbrev pub invariant-loop-i : goal.invariant-loop-i
invariant-loop-i l =
    default_start (items_in (map item_of (drop l.i l.items))) (drop l.i l.starts) l.end
    ≡ default_start (items_in (map item_of l.fn.items)) l.fn.starts l.fn.end
