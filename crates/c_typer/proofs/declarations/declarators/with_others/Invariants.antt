use Rattle.std.proofs.Common.{◌≡◌, drop, map}
use Rattle.c_syntax.specs.StatementsView.{more_init_declarators_in}
use Rattle.c_tree.specs.View.{declared_of}
use Rattle.c_declarator_typing.specs.Specifications.{specification_of}
use Rattle.c_programs.specs.FileState.{file_of}
use Rattle.c_unit_typing.specs.Declarations.{with_others}
use Rattle.c_typer.proofs.declarations.declarators.with_others.Given as goal

abbrev pub invariant-loop-tree : goal.invariant-loop-tree
invariant-loop-tree l =
    with_others l.in_head (specification_of l.specification)
    (more_init_declarators_in (drop l.tree-index l.trees)) (map declared_of l.variables.items) (file_of l.file)
    ≡ with_others l.in_head (specification_of l.specification) (more_init_declarators_in l.fn.trees)
    (map declared_of l.fn.before.items) (file_of l.fn.file)
