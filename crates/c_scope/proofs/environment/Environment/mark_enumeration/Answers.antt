use Rattle.std.proofs.Common.{true, ap, arith, refl}
use Rattle.c_scope.specs.Environment.{environment_of}
use Rattle.c_scope.proofs.Changing.{replaced, unreplaced}
use Rattle.c_scope.proofs.environment.Environment.mark_enumeration.Goals as goal

pub returns-then-number-len : goal.returns-then-number-len
returns-then-number-len c =
    ap (λ es. record (environment_of c.args.self.now) { enumerations = es })
    (replaced (λ b. true) c.args.self.now.enumerations.items c.args.number _ (omega arith) refl)

pub returns-else-number-len : goal.returns-else-number-len
returns-else-number-len c =
    ap (λ es. record (environment_of c.args.self.now) { enumerations = es })
    (unreplaced (λ b. true) c.args.self.now.enumerations.items c.args.number (omega arith))
