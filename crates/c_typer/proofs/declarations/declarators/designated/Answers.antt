use Rattle.std.proofs.Common.{Some, option_copied, option_map, sym, ap}
use Rattle.c_syntax.specs.StatementsView.{initializer_of}
use Rattle.c_scope.specs.declared.meaning.Meaning.TheVariants as meaning
use Rattle.c_declarator_typing.specs.Declarators.{located}
use Rattle.c_programs.specs.FileState.{file_of}
use Rattle.c_typer.proofs.Meaning.{means}
use Rattle.c_typer.proofs.declarations.declarators.designated.Goals as goal

pub returns-in-Variable : goal.returns-in-Variable
returns-in-Variable c =
    means _ _ _ (located c.args.name.now) (option_map initializer_of (option_copied c.args.tree))
    (file_of c.args.file.now) _ _ (ap (λ w. Some (meaning.Named w c.args.c_type.now)) (sym c.in-Variable.is))
    c.variable.ensures

pub returns-in-Static : goal.returns-in-Static
returns-in-Static c =
    means _ _ _ (located c.args.name.now) (option_map initializer_of (option_copied c.args.tree))
    (file_of c.args.file.now) _ _ (ap (λ w. Some (meaning.Named w c.args.c_type.now)) (sym c.in-Static.is))
    c.without_linkage.ensures

pub returns-in-Object : goal.returns-in-Object
returns-in-Object c =
    means _ _ _ (located c.args.name.now) (option_map initializer_of (option_copied c.args.tree))
    (file_of c.args.file.now) _ _ (ap (λ w. Some (meaning.Named w c.args.c_type.now)) (sym c.in-Object.is))
    c.with_linkage.ensures
