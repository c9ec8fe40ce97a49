use Rattle.std.proofs.Common.{ap, ◌∙◌, Err}
use Rattle.std.proofs.lemmas.Result.{err_from_is_err_and}
use Rattle.source_meaning.specs.State.{change}
use Rattle.obj_memory.specs.Objects.{with_dead}
use Rattle.source_meaning.specs.Heap.{tally_blocks}
use Rattle.source_interp.proofs.Acting.{stop_acts, then_acts}
use Rattle.source_interp.proofs.machine.Machine.release.Goals as goal

pub returns-in_err-tally_blocks : goal.returns-in_err-tally_blocks
returns-in_err-tally_blocks c g o =
    let p = err_from_is_err_and c.from_residual.result c.from_residual.ensures.1 in stop_acts g c.args.self.now
    c.tally_blocks.new.self o o c.tally_blocks.result c.from_residual.result c.in_err-tally_blocks.field-0.0
    (tally_blocks) (λ _. (change (λ s. record s { objects = with_dead c.args.number s.objects })))
    c.in_err-tally_blocks.was (p.1 ∙ ap Err p.2) (c.tally_blocks.ensures g o)

pub returns : goal.returns
returns c g o =
    then_acts g c.args.self.now c.tally_blocks.new.self c.bury.new.self o o o c.tally_blocks.result
    c.in_ok-tally_blocks.field-0 c.bury.result (tally_blocks) (λ _. (change (λ s. record s {
      objects = with_dead
          c.args.number s.objects;
    }))) c.in_ok-tally_blocks.was (c.tally_blocks.ensures g o) (c.bury.ensures g o)
