use Rattle.std.proofs.Common.{ap, subst, ◌∙◌, Err}
use Rattle.std.proofs.lemmas.Result.{err_from_is_err_and}
use Rattle.source_meaning.specs.State.{◌>>◌}
use Rattle.source_interp.specs.Standing.{Acts}
use Rattle.c_tree.specs.View.{function_of}
use Rattle.source_meaning.specs.Blocks.{test_keys, test_space}
use Rattle.source_meaning.specs.Calls.{body_objects, header_of, test_charge}
use Rattle.source_interp.proofs.Acting.{stop_acts, then_acts}
use Rattle.source_interp.proofs.machine.Machine.call_tests.Goals as goal

pub returns-in_err-test_charge : goal.returns-in_err-test_charge
returns-in_err-test_charge c g o limits =
    let p = err_from_is_err_and c.from_residual.result c.from_residual.ensures.1 in stop_acts g c.args.self.now
    c.args.self.now o o c.test_charge.result c.from_residual.result c.in_err-test_charge.field-0.0 (test_charge
    g (header_of (function_of c.args.function.now)) c.args.line) (λ _. ((test_space g (body_objects (header_of
    (function_of c.args.function.now))) c.args.line) >> (test_keys g (body_objects (header_of (function_of
    c.args.function.now))) c.args.line))) c.in_err-test_charge.was (p.1 ∙ ap Err p.2) (c.test_charge.ensures g o
    limits)

pub returns-in_err-test_space : goal.returns-in_err-test_space
returns-in_err-test_space c g o limits =
    let p = err_from_is_err_and c.from_residual-in_err-test_space.result
    c.from_residual-in_err-test_space.ensures.1 in then_acts g c.args.self.now c.args.self.now c.args.self.now o
    o o c.test_charge.result c.in_ok-test_charge.field-0 c.from_residual-in_err-test_space.result (test_charge g
    (header_of (function_of c.args.function.now)) c.args.line) (λ _. ((test_space g (body_objects (header_of
    (function_of c.args.function.now))) c.args.line) >> (test_keys g (body_objects (header_of (function_of
    c.args.function.now))) c.args.line))) c.in_ok-test_charge.was (c.test_charge.ensures g o limits) (stop_acts
    g c.args.self.now c.args.self.now o o c.test_space.result c.from_residual-in_err-test_space.result
    c.in_err-test_space.field-0.0 (test_space g (body_objects (header_of (function_of c.args.function.now)))
    c.args.line) (λ _. (test_keys g (body_objects (header_of (function_of c.args.function.now))) c.args.line))
    c.in_err-test_space.was (p.1 ∙ ap Err p.2) (subst (λ vs. Acts g c.args.self.now c.args.self.now o o
    c.test_space.result (test_space g vs c.args.line)) c.requires (c.test_space.ensures g o limits)))

pub returns : goal.returns
returns c g o limits =
    then_acts g c.args.self.now c.args.self.now c.test_keys.new.self o o o c.test_charge.result
    c.in_ok-test_charge.field-0 c.test_keys.result (test_charge g (header_of (function_of c.args.function.now))
    c.args.line) (λ _. ((test_space g (body_objects (header_of (function_of c.args.function.now))) c.args.line)
    >> (test_keys g (body_objects (header_of (function_of c.args.function.now))) c.args.line)))
    c.in_ok-test_charge.was (c.test_charge.ensures g o limits) (then_acts g c.args.self.now c.args.self.now
    c.test_keys.new.self o o o c.test_space.result c.in_ok-test_space.field-0 c.test_keys.result (test_space g
    (body_objects (header_of (function_of c.args.function.now))) c.args.line) (λ _. (test_keys g (body_objects
    (header_of (function_of c.args.function.now))) c.args.line)) c.in_ok-test_space.was (subst (λ vs. Acts g
    c.args.self.now c.args.self.now o o c.test_space.result (test_space g vs c.args.line)) c.requires
    (c.test_space.ensures g o limits)) (subst (λ vs. Acts g c.args.self.now c.test_keys.new.self o o
    c.test_keys.result (test_keys g vs c.args.line)) c.requires (c.test_keys.ensures g o limits)))
