use Rattle.std.proofs.Common.{◌≡◌, drop}
use Rattle.c_syntax.specs.View.{specifiers_in}
use Rattle.c_scope.specs.Names.{names_of}
use Rattle.c_facts.specs.Facts.{name_function}
use Rattle.c_facts.proofs.specifiers.name_function.Given as goal

abbrev pub invariant-loop-specifier : goal.invariant-loop-specifier
invariant-loop-specifier l =
    name_function (names_of l.types) (specifiers_in (drop l.specifier-index l.specifiers))
    ≡ name_function (names_of l.fn.types) (specifiers_in l.fn.specifiers)
