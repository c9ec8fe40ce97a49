use Rattle.std.proofs.Common.{◌≡◌, drop}
use Rattle.c_syntax.specs.Formed.{has_typedef}
use Rattle.c_syntax.specs.View.{specifiers_in}
use Rattle.c_syntax.proofs.specifiers.has_typedef.Given as goal

abbrev pub invariant-loop-specifier : goal.invariant-loop-specifier
invariant-loop-specifier l = has_typedef (specifiers_in (drop l.specifier-index l.specifiers))
    ≡ has_typedef (specifiers_in l.specifiers)
