use Rattle.instruction_selection.proofs.TypeKeys.{all_told, keys_told, keys_low}
use Rattle.instruction_selection.proofs.type_keys.type_keys.Goals as goal

pub returns-clause-keys : goal.returns-clause-keys
returns-clause-keys c =
    let l = c.loop-function in
    let all = all_told c.args.functions.now l.keys.items l.function-index c.loop-function-test.false l.invariant in
    keys_told c.args.functions.now l.keys.items c.requires.few all

pub returns-clause-room : goal.returns-clause-room
returns-clause-room c =
    let l = c.loop-function in
    let all = all_told c.args.functions.now l.keys.items l.function-index c.loop-function-test.false l.invariant in
    keys_low c.args.functions.now l.keys.items c.requires.few all
