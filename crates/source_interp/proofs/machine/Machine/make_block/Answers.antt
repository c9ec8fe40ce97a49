use Rattle.std.proofs.Common.{sym, ap, ◌∙◌, Ok, Some}
use Rattle.source_meaning.specs.State.{done}
use Rattle.source_meaning.specs.Heap.{make_block}
use Rattle.source_interp.proofs.Acting.{done_acts, same_acts}
use Rattle.source_interp.proofs.machine.Machine.make_block.Goals as goal

pub returns-in-Some : goal.returns-in-Some
returns-in-Some c g o limits =
    same_acts g c.args.self.now c.make_some.new.self o o c.make_some.result (make_block g c.args.size
    c.args.line (Some c.in-Some.address)) _ (ap (make_block g c.args.size c.args.line) c.in-Some.is)
    (c.make_some.ensures g o limits)

pub returns-in-None : goal.returns-in-None
returns-in-None c g o limits =
    same_acts g c.args.self.now c.args.self.now o o (Ok c.integer.result) (done c.integer.result) _ (ap
    (make_block g c.args.size c.args.line) c.in-None.is ∙ ap (λ v. done v) (sym c.integer.ensures)) (done_acts g
    c.args.self.now o c.integer.result)
