use Rattle.std.proofs.Common.{ap, refl, ◌∙◌, Ok, Err, false}
use Rattle.std.proofs.lemmas.Result.{err_from_is_err_and}
use Rattle.source_meaning.specs.State.{◌>>=◌, read_state}
use Rattle.std.specs.Prelude.{min}
use Rattle.obj_memory.specs.Objects.{object_at}
use Rattle.source_meaning.specs.Actions.{located, move_bytes}
use Rattle.source_interp.proofs.Heaping.{reads_least}
use Rattle.source_interp.proofs.Acting.{stop_acts, then_acts}
use Rattle.source_interp.proofs.machine.Machine.move_block.Goals as goal

pub returns-in_err-to : goal.returns-in_err-to
returns-in_err-to c g o =
    let p = err_from_is_err_and c.from_residual.result c.from_residual.ensures.1 in stop_acts g c.args.self.now
    c.args.self.now o o c.located.result c.from_residual.result c.in_err-to.field-0.0 (located false c.args.size
    c.args.new c.args.line) (λ to. ((read_state (λ s. min c.args.size (object_at s.objects c.args.number).size))
    >>= λ lesser. (move_bytes lesser to (record { object = c.args.number; offset = 0 })))) c.in_err-to.was (p.1
    ∙ ap Err p.2) (c.located.ensures g o)

pub returns : goal.returns
returns c g o =
    then_acts g c.args.self.now c.args.self.now c.move_bytes.new.self o o o c.located.result c.in_ok-to.to
    c.move_bytes.result (located false c.args.size c.args.new c.args.line) (λ to. ((read_state (λ s. min
    c.args.size (object_at s.objects c.args.number).size)) >>= λ lesser. (move_bytes lesser to (record {
      object
          = c.args.number;
      offset = 0;
    })))) c.in_ok-to.was (c.located.ensures g o) (then_acts g c.args.self.now
    c.args.self.now c.move_bytes.new.self o o o (Ok c.least-lesser.result) c.least-lesser.result
    c.move_bytes.result (read_state (λ s. min c.args.size (object_at s.objects c.args.number).size)) (λ lesser.
    (move_bytes lesser c.in_ok-to.to (record { object = c.args.number; offset = 0 }))) refl (reads_least g
    c.args.self.now o c.args.number c.args.size c.size.result c.least-lesser.result c.size.ensures
    c.least-lesser.ensures) (c.move_bytes.ensures g o))
