use Rattle.std.proofs.Common.{◌↔◌, ◌≤◌, drop}
use Rattle.c_syntax.specs.Levels.{more_arguments_levels, more_parameters_levels, specifiers_levels, members_levels}
use Rattle.c_syntax.specs.Levels.{more_declarators_levels, more_enumerators_levels}
use Rattle.c_syntax.specs.View.{more_arguments_in, more_parameters_in, specifiers_in, members_in, more_declarators_in}
use Rattle.c_syntax.specs.View.{more_enumerators_in}
use Rattle.c_syntax_checks.proofs.levels.+levels.Given as goal

abbrev pub invariant-more_arguments_fit-loop-argument : goal.invariant-more_arguments_fit-loop-argument
invariant-more_arguments_fit-loop-argument l =
    (more_arguments_levels (more_arguments_in (drop l.argument-index l.others)) ≤ l.levels)
    ↔ (more_arguments_levels (more_arguments_in l.others) ≤ l.levels)

abbrev pub invariant-more_parameters_fit-loop-parameter : goal.invariant-more_parameters_fit-loop-parameter
invariant-more_parameters_fit-loop-parameter l =
    (more_parameters_levels (more_parameters_in (drop l.parameter-index l.others)) ≤ l.levels)
    ↔ (more_parameters_levels (more_parameters_in l.others) ≤ l.levels)

abbrev pub invariant-specifiers_fit-loop-specifier : goal.invariant-specifiers_fit-loop-specifier
invariant-specifiers_fit-loop-specifier l =
    (specifiers_levels (specifiers_in (drop l.specifier-index l.specifiers)) ≤ l.levels)
    ↔ (specifiers_levels (specifiers_in l.specifiers) ≤ l.levels)

abbrev pub invariant-members_fit-loop-member : goal.invariant-members_fit-loop-member
invariant-members_fit-loop-member l = (members_levels (members_in (drop l.member-index l.members)) ≤ l.levels)
    ↔ (members_levels (members_in l.members) ≤ l.levels)

abbrev pub invariant-more_declarators_fit-loop-declarator : goal.invariant-more_declarators_fit-loop-declarator
invariant-more_declarators_fit-loop-declarator l =
    (more_declarators_levels (more_declarators_in (drop l.declarator-index l.others)) ≤ l.levels)
    ↔ (more_declarators_levels (more_declarators_in l.others) ≤ l.levels)

abbrev pub invariant-more_enumerators_fit-loop-enumerator : goal.invariant-more_enumerators_fit-loop-enumerator
invariant-more_enumerators_fit-loop-enumerator l =
    (more_enumerators_levels (more_enumerators_in (drop l.enumerator-index l.others)) ≤ l.levels)
    ↔ (more_enumerators_levels (more_enumerators_in l.others) ≤ l.levels)
