use Rattle.std.proofs.Common.{◌≡◌, length}
use Rattle.c_pre.specs.Directives.{names_among}
use Rattle.c_pre.specs.Names.{same_names}
use Rattle.c_pre.specs.Outcomes.{BeginsName}
use Rattle.c_pre.proofs.parameters.same_names.Given as goal

abbrev pub invariant-loop-a : goal.invariant-loop-a
invariant-loop-a l = record {
  same : same_names (names_among l.fn.a) (names_among l.fn.b) ≡ same_names (names_among l.a) (names_among l.b);
  begins : BeginsName l.b;
}

abbrev pub decreases-loop-a : goal.decreases-loop-a
decreases-loop-a l = length l.a
