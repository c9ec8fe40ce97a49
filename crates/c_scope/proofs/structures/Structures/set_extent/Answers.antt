use Rattle.std.proofs.Common.{Some, ap, arith, refl}
use Rattle.c_scope.specs.Structures.{structures_of}
use Rattle.c_scope.proofs.Changing.{replaced, unreplaced}
use Rattle.c_scope.proofs.structures.Structures.set_extent.Goals as goal

pub returns-then-number-len : goal.returns-then-number-len
returns-then-number-len c =
    ap (λ es. record (structures_of c.args.self.now) { extents = es })
    (replaced (λ e. Some c.args.extent) c.args.self.now.extents.items c.args.number _ (omega arith) refl)

pub returns-else-number-len : goal.returns-else-number-len
returns-else-number-len c =
    ap (λ es. record (structures_of c.args.self.now) { extents = es })
    (unreplaced (λ e. Some c.args.extent) c.args.self.now.extents.items c.args.number (omega arith))
