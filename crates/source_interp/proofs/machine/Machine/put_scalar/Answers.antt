use Rattle.std.proofs.Common.{refl, sym, ◌∙◌}
use Rattle.source_interp.proofs.Accesses.{puts}
use Rattle.source_interp.proofs.machine.Machine.put_scalar.Goals as goal

pub returns-then-write : goal.returns-then-write
returns-then-write c g o =
    puts g o c.args.self.now _ c.args.scalar c.args.place c.args.value (sym c.if-write.true ∙ c.write.ensures.there)
    c.write.ensures.value refl
