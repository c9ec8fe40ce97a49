use Rattle.std.proofs.Common.{refl, sym, ◌∙◌}
use Rattle.source_interp.proofs.Zeroing.{clears}
use Rattle.source_interp.proofs.machine.Machine.clear_object.Goals as goal

pub returns-then-cleared : goal.returns-then-cleared
returns-then-cleared c g o =
    clears g o c.args.self.now (record c.args.self.now { store = c.clear.new.self }) c.args.number
    (sym c.if-cleared.true ∙ c.in_ok-cleared.ensures.there) c.in_ok-cleared.ensures.value refl
