use Rattle.std.proofs.Common.{◌≡◌, drop}
use Rattle.c_syntax.specs.StatementsView.{more_items_in}
use Rattle.c_initializer_rules.specs.Initializing.{initializing_of}
use Rattle.c_typing_state.specs.State.{state_of}
use Rattle.c_unit_typing.specs.Initializers.{with_items}
use Rattle.c_typer.proofs.initializers.+initializers.Given as goal

abbrev pub invariant-with_items-loop-item : goal.invariant-with_items-loop-item
invariant-with_items-loop-item l =
    with_items (more_items_in (drop l.item-index l.more)) (initializing_of l.begun) (state_of l.typer)
    ≡ with_items (more_items_in l.fn.more) (initializing_of l.fn.begun) (state_of l.fn.typer)
