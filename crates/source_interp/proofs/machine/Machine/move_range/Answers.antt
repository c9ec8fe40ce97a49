use Rattle.std.proofs.Common.{refl, sym, ◌∙◌}
use Rattle.source_interp.proofs.Structures.{moves}
use Rattle.source_interp.proofs.machine.Machine.move_range.Goals as goal

pub returns-then-moved : goal.returns-then-moved
returns-then-moved c g o =
    moves g o c.args.self.now _ c.args.size c.args.to c.args.from (sym c.if-moved.true ∙
    c.in_ok-moved.ensures.there) c.in_ok-moved.ensures.value refl
