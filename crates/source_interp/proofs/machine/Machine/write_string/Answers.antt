use Rattle.std.proofs.Common.{◌+◌, ◌++◌, ◌∷◌, [], ap, subst, ◌∙◌, Err, true, length}
use Rattle.std.proofs.lemmas.Result.{err_from_is_err_and}
use Rattle.source_interp.specs.Standing.{Acts}
use Rattle.std.proofs.lemmas.List.{length-append}
use Rattle.source_meaning.specs.Actions.{located}
use Rattle.source_meaning.specs.Bytes.{set_bytes}
use Rattle.source_interp.proofs.Acting.{stop_acts, then_acts}
use Rattle.source_interp.proofs.machine.Machine.write_string.Goals as goal

pub returns-in_err-place : goal.returns-in_err-place
returns-in_err-place c g o =
    let p = err_from_is_err_and c.from_residual-in_err-place.result c.from_residual-in_err-place.ensures.1 in
    stop_acts g c.args.self.now c.args.self.now o o c.located.result c.from_residual-in_err-place.result
    c.in_err-place.field-0.0 (located true (length c.args.bytes + 1) c.args.to c.args.line) (λ place. (set_bytes
    (c.args.bytes ++ (0 ∷ [])) place)) c.in_err-place.was (p.1 ∙ ap Err p.2) (subst (λ n. Acts g c.args.self.now
    c.args.self.now o o c.located.result (located true n c.args.to c.args.line)) (ap length
    (c.as_slice-whole.ensures.value ∙ c.in_ok-append.ensures ∙ ap (λ xs. xs ++ (0 ∷ [])) c.into_vec-all.ensures)
    ∙ length-append c.args.bytes (0 ∷ [])) (c.located.ensures g o))

pub returns : goal.returns
returns c g o =
    then_acts g c.args.self.now c.args.self.now c.set_bytes.new.self o o o c.located.result c.in_ok-place.place
    c.set_bytes.result (located true (length c.args.bytes + 1) c.args.to c.args.line) (λ place. (set_bytes
    (c.args.bytes ++ (0 ∷ [])) place)) c.in_ok-place.was (subst (λ n. Acts g c.args.self.now c.args.self.now o o
    c.located.result (located true n c.args.to c.args.line)) (ap length (c.as_slice-whole.ensures.value ∙
    c.in_ok-append.ensures ∙ ap (λ xs. xs ++ (0 ∷ [])) c.into_vec-all.ensures) ∙ length-append c.args.bytes (0 ∷
    [])) (c.located.ensures g o)) (subst (λ bs. Acts g c.args.self.now c.set_bytes.new.self o o
    c.set_bytes.result (set_bytes bs c.in_ok-place.place)) (c.as_slice-whole.ensures.value ∙
    c.in_ok-append.ensures ∙ ap (λ xs. xs ++ (0 ∷ [])) c.into_vec-all.ensures) (c.set_bytes.ensures g o))
