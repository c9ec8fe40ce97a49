use Rattle.std.proofs.Common.{refl}
use Rattle.source_interp.proofs.Heaping.{adds_block}
use Rattle.source_interp.proofs.machine.Machine.fill_gap.Goals as goal

pub returns-then-is_at : goal.returns-then-is_at
returns-then-is_at c g o limits =
    adds_block g o c.args.limits.now c.args.self.now (record c.args.self.now {
      store = c.add.new.self;
      blocks =
          c.place.new.self;
    }) c.args.address c.args.size c.in_ok-number.number c.in_ok-found.found limits
    c.requires.first c.in_ok-found.ensures.place (c.is_at.ensures c.if-is_at.true) c.in_ok-found.ensures.added
    c.in_ok-number.ensures.number c.in_ok-number.ensures.added refl
