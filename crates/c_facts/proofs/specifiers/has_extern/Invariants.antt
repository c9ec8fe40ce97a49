use Rattle.std.proofs.Common.{◌≡◌, drop}
use Rattle.c_syntax.specs.View.{specifiers_in}
use Rattle.c_facts.specs.Facts.{has_extern}
use Rattle.c_facts.proofs.specifiers.has_extern.Given as goal

abbrev pub invariant-loop-specifier : goal.invariant-loop-specifier
invariant-loop-specifier l =
    has_extern (specifiers_in (drop l.specifier-index l.specifiers)) ≡ has_extern (specifiers_in l.fn.specifiers)
