use Rattle.static_data.proofs.Laying.{next_functions}
use Rattle.static_data.proofs.pointers.function_pointers.Goals as goal

pub loop-i-preserved : goal.loop-i-preserved
loop-i-preserved c =
    next_functions c.loop-i.i c.args.count _ c.loop-i.pointers.items _ _ c.loop-i-test.true c.function_address.ensures
    c.in_ok-push.ensures.items c.loop-i.invariant
