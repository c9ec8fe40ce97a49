use Rattle.std.proofs.Common.{◌↔◌, drop}
use Rattle.c_syntax.specs.Formed.{AreMoreArguments, AreMoreParameters, EachSpecifier, AreMembers, AreMoreDeclarators}
use Rattle.c_syntax.specs.Formed.{AreMoreEnumerators}
use Rattle.c_syntax.specs.View.{more_arguments_in, more_parameters_in, specifiers_in, members_in, more_declarators_in}
use Rattle.c_syntax.specs.View.{more_enumerators_in}
use Rattle.c_syntax_checks.proofs.formed.+shapes.Given as goal

abbrev pub invariant-are_more_arguments-loop-argument : goal.invariant-are_more_arguments-loop-argument
invariant-are_more_arguments-loop-argument l = AreMoreArguments l.names
    (more_arguments_in (drop l.argument-index l.others)) ↔ AreMoreArguments l.names (more_arguments_in l.others)

abbrev pub invariant-are_more_parameters-loop-parameter : goal.invariant-are_more_parameters-loop-parameter
invariant-are_more_parameters-loop-parameter l = AreMoreParameters l.names
    (more_parameters_in (drop l.parameter-index l.others)) ↔ AreMoreParameters l.names (more_parameters_in l.others)

abbrev pub invariant-is_each_specifier-loop-specifier : goal.invariant-is_each_specifier-loop-specifier
invariant-is_each_specifier-loop-specifier l = EachSpecifier l.names
    (specifiers_in (drop l.specifier-index l.specifiers)) ↔ EachSpecifier l.names (specifiers_in l.specifiers)

abbrev pub invariant-are_members-loop-member : goal.invariant-are_members-loop-member
invariant-are_members-loop-member l = AreMembers l.names (members_in (drop l.member-index l.members))
    ↔ AreMembers l.names (members_in l.members)

abbrev pub invariant-are_more_declarators-loop-declarator : goal.invariant-are_more_declarators-loop-declarator
invariant-are_more_declarators-loop-declarator l = AreMoreDeclarators l.names
    (more_declarators_in (drop l.declarator-index l.others)) ↔ AreMoreDeclarators l.names (more_declarators_in l.others)

abbrev pub invariant-are_more_enumerators-loop-enumerator : goal.invariant-are_more_enumerators-loop-enumerator
invariant-are_more_enumerators-loop-enumerator l = AreMoreEnumerators l.names
    (more_enumerators_in (drop l.enumerator-index l.others)) ↔ AreMoreEnumerators l.names (more_enumerators_in l.others)
