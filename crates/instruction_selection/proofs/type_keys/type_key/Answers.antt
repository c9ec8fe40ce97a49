use Rattle.std.proofs.Common.{arith}
use Rattle.instruction_selection.proofs.TypeKeys.{key_low}
use Rattle.instruction_selection.proofs.type_keys.type_key.Goals as goal

pub overflow_add-result-2 : goal.overflow_add-result-2
overflow_add-result-2 c =
    let low = key_low c.args.functions.now c.args.function.now c.requires.few in
    omega (arith, low, c.first_of_type-kind.ensures, c.in_ok-units.ensures.value, c.min-room.ensures)

pub returns-clause-room : goal.returns-clause-room
returns-clause-room c =
    let low = key_low c.args.functions.now c.args.function.now c.requires.few in
    omega (arith, low, c.first_of_type-kind.ensures, c.in_ok-units.ensures.value, c.min-room.ensures)
