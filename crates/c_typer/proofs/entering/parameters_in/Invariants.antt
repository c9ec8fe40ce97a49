use Rattle.std.proofs.Common.{◌≡◌, ◌++◌, drop}
use Rattle.c_scope.specs.Names.{names_of}
use Rattle.c_typing_state.specs.State.{state_of}
use Rattle.c_unit_typing.specs.Units.{parameters_in}
use Rattle.c_typer.proofs.entering.parameters_in.Given as goal

abbrev pub invariant-loop-number : goal.invariant-loop-number
invariant-loop-number l =
    l.parameters.items ++ parameters_in (state_of l.typer) (drop l.number (names_of l.names))
    ≡ parameters_in (state_of l.fn.typer) (names_of l.fn.names)
