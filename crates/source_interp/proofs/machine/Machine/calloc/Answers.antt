use Rattle.std.proofs.Common.{sym, ap, subst, ◌∙◌, Ok}
use Rattle.source_meaning.specs.State.{done, choose}
use Rattle.source_interp.specs.Standing.{Acts}
use Rattle.std.proofs.Common.{◌*◌}
use Rattle.source_meaning.specs.Actions.{integer}
use Rattle.source_meaning.specs.Heap.{allocate}
use Rattle.source_interp.proofs.Acting.{done_acts, same_acts}
use Rattle.source_interp.proofs.machine.Machine.calloc.Goals as goal

pub returns-in-Some : goal.returns-in-Some
returns-in-Some c g o limits =
    same_acts g c.args.self.now c.allocate.new.self o o c.allocate.result (allocate g (c.args.count.word *
    c.args.size.word) c.args.line) _ (ap (λ b. choose b (allocate g (c.args.count.word * c.args.size.word)
    c.args.line) (done (integer 0))) c.in-Some.ensures.fits) (subst (λ n. Acts g c.args.self.now
    c.allocate.new.self o o c.allocate.result (allocate g n c.args.line)) c.in-Some.ensures.value
    (c.allocate.ensures g o limits))

pub returns-in-None : goal.returns-in-None
returns-in-None c g o limits =
    same_acts g c.args.self.now c.args.self.now o o (Ok c.integer.result) (done c.integer.result) _ (ap (λ b.
    choose b (allocate g (c.args.count.word * c.args.size.word) c.args.line) (done (integer 0)))
    c.in-None.ensures.none ∙ ap (λ v. done v) (sym c.integer.ensures)) (done_acts g c.args.self.now o
    c.integer.result)
