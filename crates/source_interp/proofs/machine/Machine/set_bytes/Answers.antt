use Rattle.std.proofs.Common.{refl, Ok, length}
use Rattle.source_meaning.specs.State.{change, tally}
use Rattle.obj_memory.specs.Access.{write_bytes}
use Rattle.source_interp.proofs.Acting.{then_acts}
use Rattle.source_interp.proofs.machine.Machine.set_bytes.Goals as goal

pub returns : goal.returns
returns c g o =
    then_acts g c.args.self.now c.tally.new.self c.write_bytes.new.self o o o (Ok tt) tt c.write_bytes.result
    (tally (length c.args.bytes.now)) (λ _. (change (λ s. record s {
      objects = write_bytes c.args.bytes.now
          c.args.place s.objects;
    }))) refl (c.tally.ensures g o) (c.write_bytes.ensures g o)
