use Rattle.std.proofs.Common.{◌≡◌, ◌≤◌, drop}
use Rattle.c_syntax.specs.View.{more_enumerators_in}
use Rattle.c_syntax.specs.Levels.{more_enumerators_levels}
use Rattle.c_typing_state.specs.State.{state_of}
use Rattle.c_expression_typing.specs.Typed.{more_enumerators}
use Rattle.c_syntax_typing.proofs.nested.Nested.more_enumerators.Given as goal

abbrev pub invariant-loop-tree : goal.invariant-loop-tree
invariant-loop-tree g l = record {
  same : more_enumerators (more_enumerators_in (drop l.tree-index l.trees)) l.next (state_of l.typer)
      ≡ more_enumerators (more_enumerators_in l.trees) l.fn.next (state_of l.fn.typer);
  low : more_enumerators_levels (more_enumerators_in (drop l.tree-index l.trees))
      ≤ more_enumerators_levels (more_enumerators_in l.trees);
}
