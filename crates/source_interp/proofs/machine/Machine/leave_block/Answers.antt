use Rattle.std.proofs.Common.{ap, subst, ◌∙◌, Ok, Err}
use Rattle.std.proofs.lemmas.Result.{err_from_is_err_and}
use Rattle.source_meaning.specs.State.{change}
use Rattle.source_meaning.specs.Blocks.{leave_block, without_homes}
use Rattle.source_interp.specs.Standing.{Acts}
use Rattle.source_interp.proofs.Acting.{then_acts, stop_acts}
use Rattle.source_interp.proofs.machine.Machine.leave_block.Goals as goal

pub returns-in_err-bury_all : goal.returns-in_err-bury_all
returns-in_err-bury_all c g o =
    let p = err_from_is_err_and c.from_residual.result c.from_residual.ensures.1 in
    subst (λ b. Acts g c.args.self.now c.bury_all.new.self o o c.from_residual.result (change (leave_block b)))
    c.block.view_is (stop_acts g c.args.self.now c.bury_all.new.self o o c.bury_all.result c.from_residual.result
    c.in_err-bury_all.field-0.0 (change (λ s. record s { objects = without_homes c.block.inside.homes s.objects })) (λ
    _. change (λ s. record s { frame = c.block.inside.frame; stacked = c.block.inside.stacked }))
    c.in_err-bury_all.was (p.1 ∙ ap Err p.2) (subst (λ hs. Acts g c.args.self.now c.bury_all.new.self o o
    c.bury_all.result (change (λ s. record s { objects = without_homes hs s.objects }))) c.as_slice.ensures
    (c.bury_all.ensures g o)))

pub returns : goal.returns
returns c g o =
    subst (λ b. Acts g c.args.self.now c.go_back.new.self o o (Ok tt) (change (leave_block b))) c.block.view_is
    (then_acts g c.args.self.now c.bury_all.new.self c.go_back.new.self o o o c.bury_all.result
    c.in_ok-bury_all.field-0 (Ok tt) (change (λ s. record s {
      objects = without_homes c.block.inside.homes s.objects;
    })) (λ _. change (λ s. record s { frame = c.block.inside.frame; stacked = c.block.inside.stacked }))
    c.in_ok-bury_all.was (subst (λ hs. Acts g c.args.self.now c.bury_all.new.self o o c.bury_all.result (change (λ s.
    record s { objects = without_homes hs s.objects }))) c.as_slice.ensures (c.bury_all.ensures g o))
    (c.go_back.ensures g o))
