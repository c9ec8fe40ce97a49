use Rattle.std.proofs.Common.{◌≡◌, drop}
use Rattle.c_syntax.specs.StatementsView.{designators_in}
use Rattle.c_initializer_rules.specs.Initializing.{initializing_of}
use Rattle.c_typing_state.specs.State.{state_of}
use Rattle.c_unit_typing.specs.Initializers.{designated}
use Rattle.c_typer.proofs.initializers.designators.designated.Given as goal

abbrev pub invariant-loop-tree : goal.invariant-loop-tree
invariant-loop-tree l =
    designated (designators_in (drop l.tree-index l.trees)) (initializing_of l.begun) (state_of l.typer)
    ≡ designated (designators_in l.fn.trees) (initializing_of l.fn.begun) (state_of l.fn.typer)
