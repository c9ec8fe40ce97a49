use Rattle.std.proofs.Common.{◌≡◌, ◌++◌, map, drop}
use Rattle.c_tree.specs.Statements.{statements_in}
use Rattle.c_tree.specs.View.{statement_of}
use Rattle.c_tree.specs.Blocks.{block_variables}
use Rattle.source_interp.proofs.variables.block_variables.Given as goal

abbrev pub invariant-loop-statement : goal.invariant-loop-statement
invariant-loop-statement l =
    l.numbers.items ++ block_variables (statements_in (map statement_of (drop l.statement-index l.body)))
    ≡ block_variables (statements_in (map statement_of l.fn.body))
