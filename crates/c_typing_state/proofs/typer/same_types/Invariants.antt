use Rattle.std.proofs.Common.{◌≡◌, take}
use Rattle.c_typing_state.proofs.typer.same_types.Given as goal

abbrev pub invariant-loop-c_type : goal.invariant-loop-c_type
invariant-loop-c_type l = l.same.items ≡ take l.c_type-index l.types
