use Rattle.std.proofs.Common.{◌≡◌, ◌≤◌, drop}
use Rattle.c_syntax.specs.View.{more_parameters_in}
use Rattle.c_syntax.specs.Levels.{more_parameters_levels}
use Rattle.c_typing_state.specs.State.{state_of}
use Rattle.c_expression_typing.specs.Typed.{more_types}
use Rattle.c_syntax_typing.proofs.nested.Nested.more_types.Given as goal

abbrev pub invariant-loop-parameter : goal.invariant-loop-parameter
invariant-loop-parameter g l = record {
  same : more_types l.in_definition (more_parameters_in (drop l.parameter-index l.parameters)) l.types.items
      (state_of l.typer)
      ≡ more_types l.in_definition (more_parameters_in l.parameters) l.fn.before.items (state_of l.fn.typer);
  low : more_parameters_levels (more_parameters_in (drop l.parameter-index l.parameters))
      ≤ more_parameters_levels (more_parameters_in l.parameters);
}
