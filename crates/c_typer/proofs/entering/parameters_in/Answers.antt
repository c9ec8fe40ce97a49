use Rattle.std.proofs.Common.{arith}
use Rattle.c_scope.specs.Names.{names_of}
use Rattle.c_typing_state.specs.State.{state_of}
use Rattle.c_typer.proofs.Parameters.{parameters_next}
use Rattle.c_typer.proofs.entering.parameters_in.Goals as goal

pub loop-number-preserved : goal.loop-number-preserved
loop-number-preserved c =
    let at = c.loop-number in
    parameters_next (state_of c.args.typer.now) (names_of c.args.names.now) at.number _ at.parameters.items
    c.add_parameter.new.parameters.items _ (omega arith) c.at.ensures c.in_ok-add_parameter.ensures at.invariant
