use Rattle.std.proofs.Common.{ap, arith, refl}
use Rattle.c_scope.specs.Structures.{structures_of}
use Rattle.c_scope.proofs.Changing.{replaced, unreplaced}
use Rattle.c_scope.proofs.structures.Structures.set_constness.Goals as goal

pub returns-then-number-len : goal.returns-then-number-len
returns-then-number-len c =
    ap (λ bs. record (structures_of c.args.self.now) { with_const = bs })
    (replaced (λ b. c.args.has_const) c.args.self.now.with_const.items c.args.number _ (omega arith) refl)

pub returns-else-number-len : goal.returns-else-number-len
returns-else-number-len c =
    ap (λ bs. record (structures_of c.args.self.now) { with_const = bs })
    (unreplaced (λ b. c.args.has_const) c.args.self.now.with_const.items c.args.number (omega arith))
