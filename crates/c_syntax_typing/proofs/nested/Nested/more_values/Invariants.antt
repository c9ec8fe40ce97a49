use Rattle.std.proofs.Common.{◌≡◌, ◌≤◌, drop, map}
use Rattle.c_syntax.specs.View.{more_arguments_in}
use Rattle.c_syntax.specs.Levels.{more_arguments_levels}
use Rattle.c_rules.specs.Values.{value_of}
use Rattle.c_typing_state.specs.State.{state_of}
use Rattle.c_expression_typing.specs.Typed.{more_values}
use Rattle.c_syntax_typing.proofs.nested.Nested.more_values.Given as goal

abbrev pub invariant-loop-argument : goal.invariant-loop-argument
invariant-loop-argument g l = record {
  same : more_values l.is_evaluated (more_arguments_in (drop l.argument-index l.arguments))
      (map value_of l.values.items) (state_of l.typer)
      ≡ more_values l.is_evaluated (more_arguments_in l.arguments) (map value_of l.fn.before.items)
      (state_of l.fn.typer);
  low : more_arguments_levels (more_arguments_in (drop l.argument-index l.arguments))
      ≤ more_arguments_levels (more_arguments_in l.arguments);
}
