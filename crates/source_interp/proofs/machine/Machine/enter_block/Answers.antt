use Rattle.std.proofs.Common.{ap, ◌∙◌, Err}
use Rattle.std.proofs.lemmas.Result.{err_from_is_err_and}
use Rattle.source_meaning.specs.State.{◌>>◌}
use Rattle.source_interp.proofs.Acting.{then_acts, stop_acts}
use Rattle.source_meaning.specs.Blocks.{test_space, test_keys, place_block}
use Rattle.source_interp.proofs.machine.Machine.enter_block.Goals as goal

pub returns-in_err-test_space : goal.returns-in_err-test_space
returns-in_err-test_space c g o limits =
    let p = err_from_is_err_and c.from_residual.result c.from_residual.ensures.1 in stop_acts g c.args.self.now
    c.args.self.now o o c.test_space.result c.from_residual.result c.in_err-test_space.field-0.0 (test_space g
    c.args.variables.now c.args.line) (λ _. (test_keys g c.args.variables.now c.args.line) >> (place_block
    c.args.variables.now)) c.in_err-test_space.was (p.1 ∙ ap Err p.2) (c.test_space.ensures g o limits)

pub returns-in_err-test_keys : goal.returns-in_err-test_keys
returns-in_err-test_keys c g o limits =
    let p = err_from_is_err_and c.from_residual-in_err-test_keys.result c.from_residual-in_err-test_keys.ensures.1 in
    then_acts g c.args.self.now c.args.self.now c.test_keys.new.self o o o c.test_space.result
    c.in_ok-test_space.field-0 c.from_residual-in_err-test_keys.result (test_space g c.args.variables.now c.args.line)
    (λ _. (test_keys g c.args.variables.now c.args.line) >> (place_block c.args.variables.now)) c.in_ok-test_space.was
    (c.test_space.ensures g o limits) (stop_acts g c.args.self.now c.test_keys.new.self o o c.test_keys.result
    c.from_residual-in_err-test_keys.result c.in_err-test_keys.field-0.0 (test_keys g c.args.variables.now
    c.args.line) (λ _. place_block c.args.variables.now) c.in_err-test_keys.was (p.1 ∙ ap Err p.2)
    (c.test_keys.ensures g o limits))

pub returns : goal.returns
returns c g o limits =
    then_acts g c.args.self.now c.args.self.now c.place_block.new.self o o o c.test_space.result
    c.in_ok-test_space.field-0 c.place_block.result (test_space g c.args.variables.now c.args.line) (λ _. (test_keys g
    c.args.variables.now c.args.line) >> (place_block c.args.variables.now)) c.in_ok-test_space.was
    (c.test_space.ensures g o limits) (then_acts g c.args.self.now c.test_keys.new.self c.place_block.new.self o o o
    c.test_keys.result c.in_ok-test_keys.field-0 c.place_block.result (test_keys g c.args.variables.now c.args.line)
    (λ _. place_block c.args.variables.now) c.in_ok-test_keys.was (c.test_keys.ensures g o limits)
    (c.place_block.ensures g o))
