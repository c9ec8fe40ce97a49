use Rattle.std.proofs.Common.{Some, option_copied, option_map, sym, ap}
use Rattle.c_syntax.specs.StatementsView.{initializer_of}
use Rattle.c_declarator_typing.specs.Declarators.{located}
use Rattle.c_programs.specs.FileState.{file_of}
use Rattle.c_typer.proofs.Meaning.{means}
use Rattle.c_typer.proofs.declarations.declarators.declared_with.Goals as goal

pub returns-in-Named : goal.returns-in-Named
returns-in-Named c =
    means _ _ _ (located c.args.name.now) (option_map initializer_of (option_copied c.args.tree))
    (file_of c.args.file.now) _ _ (ap Some (sym c.in-Named.is)) c.designated.ensures
