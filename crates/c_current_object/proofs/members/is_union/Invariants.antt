use Rattle.std.proofs.Common.{◌≡◌, drop}
use Rattle.c_scope.specs.Names.{names_of}
use Rattle.c_current_object.specs.Members.{is_union}
use Rattle.c_current_object.proofs.members.is_union.Given as goal

abbrev pub invariant-loop-number : goal.invariant-loop-number
invariant-loop-number l = is_union (drop l.number (names_of l.members)) ≡ is_union (names_of l.fn.members)
