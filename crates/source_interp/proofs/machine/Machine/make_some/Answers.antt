use Rattle.std.proofs.Common.{ap, ◌∙◌, Err}
use Rattle.std.proofs.lemmas.Result.{err_from_is_err_and}
use Rattle.source_meaning.specs.State.{◌>>=◌, read_state}
use Rattle.obj_memory.specs.declared.object.Storage.TheVariants.{Allocated}
use Rattle.obj_memory.specs.Objects.{pointer_to}
use Rattle.source_meaning.specs.Actions.{make_object, take_key}
use Rattle.source_interp.proofs.Acting.{stop_acts, then_acts}
use Rattle.source_interp.proofs.machine.Machine.make_some.Goals as goal

pub returns-in_err-take_key : goal.returns-in_err-take_key
returns-in_err-take_key c g o limits =
    let p = err_from_is_err_and c.from_residual.result c.from_residual.ensures.1 in stop_acts g c.args.self.now
    c.take_key.new.self o o c.take_key.result c.from_residual.result c.in_err-take_key.field-0.0 (take_key g
    c.args.line) (λ _. ((make_object Allocated c.args.address c.args.size) >>= λ number. (read_state (λ s.
    pointer_to number s.objects)))) c.in_err-take_key.was (p.1 ∙ ap Err p.2) (c.take_key.ensures g o
    limits.keys)

pub returns-in_err-number : goal.returns-in_err-number
returns-in_err-number c g o limits =
    let p = err_from_is_err_and c.from_residual-in_err-number.result c.from_residual-in_err-number.ensures.1 in
    then_acts g c.args.self.now c.take_key.new.self c.make_allocated.new.self o o o c.take_key.result
    c.in_ok-take_key.field-0 c.from_residual-in_err-number.result (take_key g c.args.line) (λ _. ((make_object
    Allocated c.args.address c.args.size) >>= λ number. (read_state (λ s. pointer_to number s.objects))))
    c.in_ok-take_key.was (c.take_key.ensures g o limits.keys) (stop_acts g c.take_key.new.self
    c.make_allocated.new.self o o c.make_allocated.result c.from_residual-in_err-number.result
    c.in_err-number.field-0.0 (make_object Allocated c.args.address c.args.size) (λ number. (read_state (λ s.
    pointer_to number s.objects))) c.in_err-number.was (p.1 ∙ ap Err p.2) (c.make_allocated.ensures g o limits))

pub returns : goal.returns
returns c g o limits =
    then_acts g c.args.self.now c.take_key.new.self c.make_allocated.new.self o o o c.take_key.result
    c.in_ok-take_key.field-0 c.pointer_to.result (take_key g c.args.line) (λ _. ((make_object Allocated
    c.args.address c.args.size) >>= λ number. (read_state (λ s. pointer_to number s.objects))))
    c.in_ok-take_key.was (c.take_key.ensures g o limits.keys) (then_acts g c.take_key.new.self
    c.make_allocated.new.self c.make_allocated.new.self o o o c.make_allocated.result c.in_ok-number.number
    c.pointer_to.result (make_object Allocated c.args.address c.args.size) (λ number. (read_state (λ s.
    pointer_to number s.objects))) c.in_ok-number.was (c.make_allocated.ensures g o limits)
    (c.pointer_to.ensures g o))
