use Rattle.std.proofs.Common.{ap, arith, refl}
use Rattle.c_scope.specs.Names.{names_of}
use Rattle.c_scope.specs.Structures.{body_of, structures_of}
use Rattle.c_scope.proofs.Changing.{changed_element, nothing_changed}
use Rattle.c_scope.proofs.structures.Structures.set_members.Goals as goal

pub returns-then-number-len : goal.returns-then-number-len
returns-then-number-len c =
    ap (λ bs. record (structures_of c.args.self.now) { bodies = bs })
    (changed_element body_of (λ b. record b { members = names_of c.args.members }) c.args.self.now.bodies.items
    c.args.number c.index_mut.result.now _ (omega arith) c.index_mut.ensures.value refl)

pub returns-else-number-len : goal.returns-else-number-len
returns-else-number-len c =
    ap (λ bs. record (structures_of c.args.self.now) { bodies = bs })
    (nothing_changed body_of (λ b. record b { members = names_of c.args.members }) c.args.self.now.bodies.items
    c.args.number (omega arith))
