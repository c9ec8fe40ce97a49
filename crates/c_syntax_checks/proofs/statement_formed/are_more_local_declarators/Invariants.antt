use Rattle.std.proofs.Common.{◌↔◌, drop, false}
use Rattle.c_syntax.specs.Formed.{AreMoreInitDeclarators}
use Rattle.c_syntax.specs.StatementsView.{more_init_declarators_in}
use Rattle.c_syntax_checks.proofs.statement_formed.are_more_local_declarators.Given as goal

abbrev pub invariant-loop-declared : goal.invariant-loop-declared
invariant-loop-declared l = AreMoreInitDeclarators l.levels false l.names
    (more_init_declarators_in (drop l.declared-index l.others))
    ↔ AreMoreInitDeclarators l.levels false l.names (more_init_declarators_in l.others)
