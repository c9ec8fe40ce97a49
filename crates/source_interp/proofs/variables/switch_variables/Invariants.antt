use Rattle.std.proofs.Common.{◌≡◌, ◌++◌, map, drop}
use Rattle.c_tree.specs.Statements.{items_in}
use Rattle.c_tree.specs.Blocks.{switch_variables}
use Rattle.source_interp.specs.Variables.{item_of}
use Rattle.source_interp.proofs.variables.switch_variables.Given as goal

abbrev pub invariant-loop-item : goal.invariant-loop-item
invariant-loop-item l =
    l.numbers.items ++ switch_variables (items_in (map item_of (drop l.item-index l.items)))
    ≡ switch_variables (items_in (map item_of l.fn.items))
