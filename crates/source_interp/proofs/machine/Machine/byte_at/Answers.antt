use Rattle.std.proofs.Common.{ap, ◌∙◌, Ok, Err}
use Rattle.std.proofs.lemmas.Result.{err_from_is_err_and}
use Rattle.source_meaning.specs.State.{done, read_state}
use Rattle.obj_memory.specs.declared.int_type.IntType.TheVariants.{UnsignedChar}
use Rattle.obj_memory.specs.declared.value.Scalar.TheVariants.{Integer}
use Rattle.obj_memory.specs.Access.{read_value}
use Rattle.source_interp.proofs.Acting.{gives_acts, stop_acts, then_acts}
use Rattle.source_interp.proofs.machine.Machine.byte_at.Goals as goal

pub returns-in_err-found : goal.returns-in_err-found
returns-in_err-found c g o =
    let p = err_from_is_err_and c.from_residual.result c.from_residual.ensures.1 in stop_acts g c.args.self.now
    c.args.self.now o o c.scalar_at.result c.from_residual.result c.in_err-found.field-0.0 (read_state (λ s.
    read_value (Integer UnsignedChar) c.args.place s.objects)) (λ v. done v.word) c.in_err-found.was (p.1 ∙ ap
    Err p.2) (c.scalar_at.ensures g o)

pub returns-in-Some : goal.returns-in-Some
returns-in-Some c g o =
    then_acts g c.args.self.now c.args.self.now c.args.self.now o o o c.scalar_at.result c.in_ok-found.found (Ok
    c.in-Some.byte) (read_state (λ s. read_value (Integer UnsignedChar) c.args.place s.objects)) (λ v. done
    v.word) c.in_ok-found.was (c.scalar_at.ensures g o) (gives_acts g c.args.self.now o c.in-Some.byte
    c.in_ok-found.found.word c.in-Some.ensures)
