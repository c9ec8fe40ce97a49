use Rattle.std.proofs.Common.{◌≡◌, ◌≤◌, drop}
use Rattle.c_syntax.specs.View.{more_declarators_in}
use Rattle.c_syntax.specs.Levels.{more_declarators_levels}
use Rattle.c_declarator_typing.specs.Members.{entries_of}
use Rattle.c_declarator_typing.specs.Specifications.{specification_of}
use Rattle.c_typing_state.specs.State.{state_of}
use Rattle.c_expression_typing.specs.Typed.{with_more_declared}
use Rattle.c_syntax_typing.proofs.nested.Nested.with_more_declared.Given as goal

abbrev pub invariant-loop-tree : goal.invariant-loop-tree
invariant-loop-tree g l = record {
  same : with_more_declared (specification_of l.specification) (more_declarators_in (drop l.tree-index l.trees))
      (entries_of l.entries) (state_of l.typer)
      ≡ with_more_declared (specification_of l.specification) (more_declarators_in l.trees) (entries_of l.fn.before)
      (state_of l.fn.typer);
  low : more_declarators_levels (more_declarators_in (drop l.tree-index l.trees))
      ≤ more_declarators_levels (more_declarators_in l.trees);
}
