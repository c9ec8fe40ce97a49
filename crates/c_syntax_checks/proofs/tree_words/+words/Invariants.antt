use Rattle.std.proofs.Common.{◌≡◌, ◌++◌, drop}
use Rattle.c_syntax.specs.Words.{Words, arguments_words, more_arguments_words, parameters_words, more_parameters_words}
use Rattle.c_syntax.specs.Words.{specifiers_words, members_words, more_declarators_words, more_enumerators_words}
use Rattle.c_syntax.specs.View.{arguments_of, more_arguments_in, parameters_of, more_parameters_in, specifiers_in}
use Rattle.c_syntax.specs.View.{members_in, more_declarators_in, more_enumerators_in}
use Rattle.c_syntax_checks.proofs.tree_words.+words.Given as goal

abbrev pub invariant-put_arguments-loop-comma : goal.invariant-put_arguments-loop-comma
invariant-put_arguments-loop-comma l = (i : Words) → l.out.items
    ++ more_arguments_words (more_arguments_in (drop l.comma-index l.comma-items)) i ≡ l.fn.out.items
    ++ arguments_words (arguments_of l.fn.arguments) i

abbrev pub invariant-put_parameters-loop-comma : goal.invariant-put_parameters-loop-comma
invariant-put_parameters-loop-comma l = (i : Words) → l.out.items
    ++ more_parameters_words (more_parameters_in (drop l.comma-index l.comma-items)) i ≡ l.fn.out.items
    ++ parameters_words (parameters_of l.fn.parameters) i

abbrev pub invariant-put_specifiers-loop-specifier : goal.invariant-put_specifiers-loop-specifier
invariant-put_specifiers-loop-specifier l = (i : Words) → l.out.items
    ++ specifiers_words (specifiers_in (drop l.specifier-index l.specifiers)) i ≡ l.fn.out.items
    ++ specifiers_words (specifiers_in l.fn.specifiers) i

abbrev pub invariant-put_members-loop-member : goal.invariant-put_members-loop-member
invariant-put_members-loop-member l = (i : Words) → l.out.items
    ++ members_words (members_in (drop l.member-index l.members)) i ≡ l.fn.out.items
    ++ members_words (members_in l.fn.members) i

abbrev pub invariant-put_more_declarators-loop-comma : goal.invariant-put_more_declarators-loop-comma
invariant-put_more_declarators-loop-comma l = (i : Words) → l.out.items
    ++ more_declarators_words (more_declarators_in (drop l.comma-index l.others)) i ≡ l.fn.out.items
    ++ more_declarators_words (more_declarators_in l.fn.others) i

abbrev pub invariant-put_more_enumerators-loop-comma : goal.invariant-put_more_enumerators-loop-comma
invariant-put_more_enumerators-loop-comma l = (i : Words) → l.out.items
    ++ more_enumerators_words (more_enumerators_in (drop l.comma-index l.others)) i ≡ l.fn.out.items
    ++ more_enumerators_words (more_enumerators_in l.fn.others) i
