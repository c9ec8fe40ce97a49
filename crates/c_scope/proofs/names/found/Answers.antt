use Rattle.std.proofs.Common.{arith}
use Rattle.c_scope.specs.Names.{names_of}
use Rattle.c_scope.proofs.Scoping.{found_here, found_outside}
use Rattle.c_scope.proofs.names.found.Goals as goal

pub returns-in-Some : goal.returns-in-Some
returns-in-Some g c =
    found_here names_of c.args.name.now c.args.scopes.now c.loop-count.count _ _ _ (omega arith)
    c.loop-count.invariant.within c.index-scopes-count.is c.loop-count.invariant.not_inside
    (rw c.in-Some.is at c.get.ensures)

pub loop-count-preserved : goal.loop-count-preserved
loop-count-preserved g c =
    record {
      within = omega arith;
      not_inside = found_outside names_of c.args.name.now c.args.scopes.now c.loop-count.count _ _ (omega arith)
          c.loop-count.invariant.within c.index-scopes-count.is c.loop-count.invariant.not_inside
          (rw c.in_default.is at c.get.ensures);
    }
