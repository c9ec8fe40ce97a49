use Rattle.std.proofs.Common.{refl, ap, ◌∙◌, Ok, Err}
use Rattle.std.proofs.lemmas.Result.{err_from_is_err_and}
use Rattle.source_meaning.specs.State.{◌>>=◌, done, change, InObject}
use Rattle.source_meaning.specs.Actions.{make_object}
use Rattle.source_interp.proofs.Acting.{then_acts, stop_acts, done_acts}
use Rattle.obj_memory.specs.declared.object.Storage.TheVariants.{Automatic}
use Rattle.source_interp.specs.Homes.{housed}
use Rattle.source_interp.proofs.machine.Machine.place_in.Goals as goal

pub returns-in_err-number : goal.returns-in_err-number
returns-in_err-number c g o =
    let p = err_from_is_err_and c.from_residual.result c.from_residual.ensures.1 in then_acts g c.args.self.now
    c.set_top.new.self c.make_automatic.new.self o o o (Ok tt) tt (housed c.from_residual.result) (change (λ s. record
    s { stacked = c.args.extent.end })) (λ _. (make_object Automatic c.args.extent.start c.args.size) >>= λ n. done
    (InObject n)) refl (c.set_top.ensures g o) (stop_acts g c.set_top.new.self c.make_automatic.new.self o o
    c.make_automatic.result (housed c.from_residual.result) c.in_err-number.field-0.0 (make_object Automatic
    c.args.extent.start c.args.size) (λ n. done (InObject n)) c.in_err-number.was (ap housed (p.1 ∙ ap Err p.2))
    (c.make_automatic.ensures g o))

pub returns : goal.returns
returns c g o =
    then_acts g c.args.self.now c.set_top.new.self c.make_automatic.new.self o o o (Ok tt) tt (Ok (InObject
    c.in_ok-number.number)) (change (λ s. record s { stacked = c.args.extent.end })) (λ _. (make_object Automatic
    c.args.extent.start c.args.size) >>= λ n. done (InObject n)) refl (c.set_top.ensures g o) (then_acts g
    c.set_top.new.self c.make_automatic.new.self c.make_automatic.new.self o o o c.make_automatic.result
    c.in_ok-number.number (Ok (InObject c.in_ok-number.number)) (make_object Automatic c.args.extent.start
    c.args.size) (λ n. done (InObject n)) c.in_ok-number.was (c.make_automatic.ensures g o) (done_acts g
    c.make_automatic.new.self o (InObject c.in_ok-number.number)))
