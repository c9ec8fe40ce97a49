use Rattle.std.proofs.Common.{ap}
use Rattle.c_syntax.specs.StatementsView.{optional_of}
use Rattle.c_syntax.specs.View.{expression_of}
use Rattle.c_programs.specs.FileState.{file_of}
use Rattle.c_typer.proofs.Composing.{first_evaluated}
use Rattle.c_typer.proofs.statements.heads.first_evaluated.Goals as goal

pub returns-in-Some : goal.returns-in-Some
returns-in-Some c = λ at.
    first_evaluated _ _ _ at (file_of c.args.file.now) _ _ (ap optional_of c.in-Some.is)
    (ap expression_of c.get.ensures) c.first_expression.ensures
