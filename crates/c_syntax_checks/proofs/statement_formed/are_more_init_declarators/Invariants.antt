use Rattle.std.proofs.Common.{◌↔◌, ◌≡◌, drop}
use Rattle.c_syntax.specs.Formed.{AreMoreInitDeclarators, names_after_more}
use Rattle.c_syntax.specs.StatementsView.{more_init_declarators_in}
use Rattle.c_syntax_checks.proofs.statement_formed.are_more_init_declarators.Given as goal

-- those that are left are well formed with the names so far where all are, and leave the same names
abbrev pub invariant-loop-declared : goal.invariant-loop-declared
invariant-loop-declared l =
    (AreMoreInitDeclarators l.levels l.is_typedef l.names.items
    (more_init_declarators_in (drop l.declared-index l.others)) ↔
    AreMoreInitDeclarators l.levels l.is_typedef l.fn.names.items (more_init_declarators_in l.others)) ×
    (names_after_more l.is_typedef (more_init_declarators_in (drop l.declared-index l.others)) l.names.items ≡
    names_after_more l.is_typedef (more_init_declarators_in l.others) l.fn.names.items)
