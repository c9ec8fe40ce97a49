use Rattle.std.proofs.Common.{refl, sym, ◌∙◌}
use Rattle.source_interp.proofs.Structures.{puts_range}
use Rattle.source_interp.proofs.machine.Machine.put_range.Goals as goal

pub returns-then-put : goal.returns-then-put
returns-then-put c g o =
    puts_range g o c.args.self.now _ c.args.size c.args.to c.args.source c.args.contents.now (sym c.if-put.true ∙
    c.put.ensures.there) c.put.ensures.value refl
