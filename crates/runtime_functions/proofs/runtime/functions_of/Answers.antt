use Rattle.std.proofs.Common.{arith}
use Rattle.std.proofs.lemmas.List.{drop_all}
use Rattle.runtime_functions.proofs.Listed.{all_there}
use Rattle.runtime_functions.proofs.runtime.functions_of.Goals as goal

pub returns : goal.returns
returns g c =
    let over = c.loop-function-test.false in
    all_there c.args.map.now g.S.ShadowForm.entry (g.S.ShadowForm.IsGood c.args.map.now) c.args.list.now _ _
    (drop_all c.loop-function.function-index c.args.list.now (omega (arith, over))) c.loop-function.invariant
