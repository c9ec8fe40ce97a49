use Rattle.std.proofs.Common.{refl, Ok}
use Rattle.source_meaning.specs.State.{done, tally}
use Rattle.source_meaning.specs.Structures.{with_contents}
use Rattle.source_interp.proofs.Acting.{then_acts}
use Rattle.source_interp.proofs.machine.Machine.taken_part.Goals as goal

pub returns : goal.returns
returns c g o =
    then_acts g c.args.self.now c.tally.new.self c.tally.new.self o o o (Ok tt) tt c.part_at.result (tally c.args.size)
    (λ _. done (with_contents c.args.size c.args.value.word c.args.contents.now)) refl (c.tally.ensures g o)
    (c.part_at.ensures g o)
