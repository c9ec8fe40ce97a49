use Rattle.std.proofs.Common.{◌≡◌, ◌≤◌, drop}
use Rattle.c_syntax.specs.View.{specifiers_in}
use Rattle.c_syntax.specs.Levels.{specifiers_levels}
use Rattle.c_declarator_typing.specs.Specifications.{gathered_of, nothing_gathered}
use Rattle.c_typing_state.specs.State.{state_of}
use Rattle.c_expression_typing.specs.Typed.{gathered}
use Rattle.c_syntax_typing.proofs.nested.Nested.gathered.Given as goal

abbrev pub invariant-loop-tree : goal.invariant-loop-tree
invariant-loop-tree g l = record {
  same : gathered l.is_alone l.line (specifiers_in (drop l.tree-index l.trees)) (gathered_of l.gathered)
      (state_of l.typer)
      ≡ gathered l.is_alone l.line (specifiers_in l.trees) nothing_gathered (state_of l.fn.typer);
  low : specifiers_levels (specifiers_in (drop l.tree-index l.trees)) ≤ specifiers_levels (specifiers_in l.trees);
}
