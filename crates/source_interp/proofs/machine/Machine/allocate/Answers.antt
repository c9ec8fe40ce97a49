use Rattle.std.proofs.Common.{ap, ◌∙◌, Err}
use Rattle.std.proofs.lemmas.Result.{err_from_is_err_and}
use Rattle.source_meaning.specs.State.{◌>>=◌, read_state}
use Rattle.source_meaning.specs.Heap.{block_place, make_block, tally_blocks}
use Rattle.source_interp.proofs.Acting.{stop_acts, then_acts}
use Rattle.source_interp.proofs.machine.Machine.allocate.Goals as goal

pub returns-in_err-tally_blocks : goal.returns-in_err-tally_blocks
returns-in_err-tally_blocks c g o limits =
    let p = err_from_is_err_and c.from_residual.result c.from_residual.ensures.1 in stop_acts g c.args.self.now
    c.tally_blocks.new.self o o c.tally_blocks.result c.from_residual.result c.in_err-tally_blocks.field-0.0
    (tally_blocks) (λ _. ((read_state (λ s. block_place g c.args.size s.objects)) >>= λ place. (make_block g
    c.args.size c.args.line place))) c.in_err-tally_blocks.was (p.1 ∙ ap Err p.2) (c.tally_blocks.ensures g o)

pub returns-in_err-place : goal.returns-in_err-place
returns-in_err-place c g o limits =
    let p = err_from_is_err_and c.from_residual-in_err-place.result c.from_residual-in_err-place.ensures.1 in
    then_acts g c.args.self.now c.tally_blocks.new.self c.tally_blocks.new.self o o o c.tally_blocks.result
    c.in_ok-tally_blocks.field-0 c.from_residual-in_err-place.result (tally_blocks) (λ _. ((read_state (λ s.
    block_place g c.args.size s.objects)) >>= λ place. (make_block g c.args.size c.args.line place)))
    c.in_ok-tally_blocks.was (c.tally_blocks.ensures g o) (stop_acts g c.tally_blocks.new.self
    c.tally_blocks.new.self o o c.block_place.result c.from_residual-in_err-place.result
    c.in_err-place.field-0.0 (read_state (λ s. block_place g c.args.size s.objects)) (λ place. (make_block g
    c.args.size c.args.line place)) c.in_err-place.was (p.1 ∙ ap Err p.2) (c.block_place.ensures g o limits))

pub returns : goal.returns
returns c g o limits =
    then_acts g c.args.self.now c.tally_blocks.new.self c.make_block.new.self o o o c.tally_blocks.result
    c.in_ok-tally_blocks.field-0 c.make_block.result (tally_blocks) (λ _. ((read_state (λ s. block_place g
    c.args.size s.objects)) >>= λ place. (make_block g c.args.size c.args.line place))) c.in_ok-tally_blocks.was
    (c.tally_blocks.ensures g o) (then_acts g c.tally_blocks.new.self c.tally_blocks.new.self
    c.make_block.new.self o o o c.block_place.result c.in_ok-place.place c.make_block.result (read_state (λ s.
    block_place g c.args.size s.objects)) (λ place. (make_block g c.args.size c.args.line place))
    c.in_ok-place.was (c.block_place.ensures g o limits) (c.make_block.ensures g o limits))
