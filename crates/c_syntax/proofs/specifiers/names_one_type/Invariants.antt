use Rattle.std.proofs.Common.{◌≡◌, drop}
use Rattle.c_syntax.specs.Formed.{names_type, names_one_type}
use Rattle.c_syntax.specs.View.{specifiers_in}
use Rattle.c_syntax.proofs.specifiers.names_one_type.Given as goal

abbrev pub invariant-loop-specifier : goal.invariant-loop-specifier
invariant-loop-specifier l = names_type l.words (specifiers_in (drop l.specifier-index l.specifiers))
    ≡ names_one_type (specifiers_in l.specifiers)
