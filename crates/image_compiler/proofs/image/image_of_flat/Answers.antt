use Rattle.image_compiler.proofs.Images.{ready}
use Rattle.image_compiler.proofs.image.image_of_flat.Goals as goal

pub image_of-requires-clause-ready : goal.image_of-requires-clause-ready
image_of-requires-clause-ready c =
    ready c.args.code.now c.in_ok-plan.plan.functions.items c.deref.result.now c.deref.ensures.value
    c.in_ok-plan.ensures c.requires.count c.requires.plannable
