use Rattle.image_laws.proofs.Images.Runtime.{runtime_has_room}
use Rattle.image_laws.proofs.laws.images.runtimes_have_room.Goals as goal

pub returns : goal.returns
returns c = λ m r small count plannable encodable plans planned.
    runtime_has_room m r small.main count plannable encodable.parameters plans planned
