use Rattle.std.proofs.Common.{◌≡◌, map, take}
use Rattle.c_typing_state.specs.State.{literal_of}
use Rattle.c_typing_state.proofs.typer.same_literals.Given as goal

abbrev pub invariant-loop-literal : goal.invariant-loop-literal
invariant-loop-literal l = map literal_of l.same.items ≡ map literal_of (take l.literal-index l.literals)
