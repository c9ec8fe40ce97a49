use Rattle.std.proofs.Common.{ap, ◌∙◌, Err}
use Rattle.std.proofs.lemmas.Result.{err_from_is_err_and}
use Rattle.source_meaning.specs.State.{stop}
use Rattle.sb_base.specs.declared.ending.Ending.TheVariants.{BadFree}
use Rattle.source_meaning.specs.Heap.{tally_blocks}
use Rattle.source_interp.proofs.Heaping.{frees_badly}
use Rattle.source_interp.proofs.Acting.{stop_acts}
use Rattle.source_interp.proofs.machine.Machine.bad_free.Goals as goal

pub returns-in_err-tally_blocks : goal.returns-in_err-tally_blocks
returns-in_err-tally_blocks c g o =
    let p = err_from_is_err_and c.from_residual.result c.from_residual.ensures.1 in stop_acts g c.args.self.now
    c.tally_blocks.new.self o o c.tally_blocks.result c.from_residual.result c.in_err-tally_blocks.field-0.0
    tally_blocks (λ _. stop (BadFree c.args.line)) c.in_err-tally_blocks.was (p.1 ∙ ap Err p.2)
    (c.tally_blocks.ensures g o)

pub returns : goal.returns
returns c g o =
    frees_badly g o c.args.self.now c.tally_blocks.new.self c.args.line c.in_ok-tally_blocks.field-0
    c.tally_blocks.result c.in_ok-tally_blocks.was (c.tally_blocks.ensures g o)
