use Rattle.std.proofs.Common.{ap, Ok}
use Rattle.source_meaning.specs.State.{done, choose}
use Rattle.source_meaning.specs.Heap.{bad_free}
use Rattle.source_interp.proofs.Acting.{done_acts, same_acts}
use Rattle.source_interp.proofs.machine.Machine.freed_at.Goals as goal

pub returns-then-is_start : goal.returns-then-is_start
returns-then-is_start c g o =
    same_acts g c.args.self.now c.args.self.now o o (Ok c.args.number) (done c.args.number) _ (ap (λ b. choose b
    (done c.args.number) (bad_free c.args.line)) c.if-is_start.true) (done_acts g c.args.self.now o
    c.args.number)

pub returns-else-is_start : goal.returns-else-is_start
returns-else-is_start c g o =
    same_acts g c.args.self.now c.bad_free.new.self o o c.bad_free.result (bad_free c.args.line) _ (ap (λ b.
    choose b (done c.args.number) (bad_free c.args.line)) c.if-is_start.false) (c.bad_free.ensures g o)
