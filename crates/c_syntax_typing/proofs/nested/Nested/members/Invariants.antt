use Rattle.std.proofs.Common.{◌≡◌, ◌≤◌, drop}
use Rattle.c_syntax.specs.View.{members_in}
use Rattle.c_syntax.specs.Levels.{members_levels}
use Rattle.c_declarator_typing.specs.Members.{entries_of, no_entries}
use Rattle.c_typing_state.specs.State.{state_of}
use Rattle.c_expression_typing.specs.Typed.{with_members}
use Rattle.c_syntax_typing.proofs.nested.Nested.members.Given as goal

abbrev pub invariant-loop-tree : goal.invariant-loop-tree
invariant-loop-tree g l = record {
  same : with_members (members_in (drop l.tree-index l.trees)) (entries_of l.entries) (state_of l.typer)
      ≡ with_members (members_in l.trees) no_entries (state_of l.fn.typer);
  low : members_levels (members_in (drop l.tree-index l.trees)) ≤ members_levels (members_in l.trees);
}
