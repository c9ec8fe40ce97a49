use Rattle.std.proofs.Common.{◌≡◌, drop}
use Rattle.c_syntax.specs.StatementsView.{externals_in}
use Rattle.c_programs.specs.FileState.{file_of}
use Rattle.c_unit_typing.specs.Units.{externals}
use Rattle.c_typer.proofs.externals.externals.Given as goal

abbrev pub invariant-loop-tree : goal.invariant-loop-tree
invariant-loop-tree l =
    externals (externals_in (drop l.tree-index l.trees)) (file_of l.file)
    ≡ externals (externals_in l.fn.trees) (file_of l.fn.file)
