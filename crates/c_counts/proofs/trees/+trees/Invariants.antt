use Rattle.std.proofs.Common.{◌≡◌, List, drop}
use Rattle.c_syntax.specs.View as view
use Rattle.c_counts.specs.Counts.{Count}
use Rattle.c_counts.specs.Counts as counts
use Rattle.c_counts.specs.Excess.{with_counts}
use Rattle.c_counts.proofs.trees.+trees.Given as goal

abbrev pub invariant-more_arguments-loop-argument : goal.invariant-more_arguments-loop-argument
invariant-more_arguments-loop-argument l =
    (cs : List Count) → with_counts
    (counts.more_arguments (view.more_arguments_in (drop l.argument-index l.others)) cs) l.so_far
    ≡ with_counts (counts.more_arguments (view.more_arguments_in l.fn.others) cs) l.fn.so_far

abbrev pub invariant-more_parameters-loop-parameter : goal.invariant-more_parameters-loop-parameter
invariant-more_parameters-loop-parameter l =
    (cs : List Count) → with_counts
    (counts.more_parameters (view.more_parameters_in (drop l.parameter-index l.others)) cs) l.so_far
    ≡ with_counts (counts.more_parameters (view.more_parameters_in l.fn.others) cs) l.fn.so_far

abbrev pub invariant-specifiers-loop-tree : goal.invariant-specifiers-loop-tree
invariant-specifiers-loop-tree l =
    (cs : List Count) → with_counts (counts.specifiers (view.specifiers_in (drop l.tree-index l.trees)) cs) l.so_far
    ≡ with_counts (counts.specifiers (view.specifiers_in l.fn.trees) cs) l.fn.so_far

abbrev pub invariant-members-loop-tree : goal.invariant-members-loop-tree
invariant-members-loop-tree l =
    (cs : List Count) → with_counts (counts.members (view.members_in (drop l.tree-index l.trees)) cs) l.so_far
    ≡ with_counts (counts.members (view.members_in l.fn.trees) cs) l.fn.so_far

abbrev pub invariant-more_declarators-loop-tree : goal.invariant-more_declarators-loop-tree
invariant-more_declarators-loop-tree l =
    (cs : List Count) → with_counts
    (counts.more_declarators (view.more_declarators_in (drop l.tree-index l.others)) cs) l.so_far
    ≡ with_counts (counts.more_declarators (view.more_declarators_in l.fn.others) cs) l.fn.so_far

abbrev pub invariant-more_enumerators-loop-tree : goal.invariant-more_enumerators-loop-tree
invariant-more_enumerators-loop-tree l =
    (cs : List Count) → with_counts
    (counts.more_enumerators (view.more_enumerators_in (drop l.tree-index l.others)) cs) l.so_far
    ≡ with_counts (counts.more_enumerators (view.more_enumerators_in l.fn.others) cs) l.fn.so_far
