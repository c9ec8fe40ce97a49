use Rattle.std.proofs.Common.{ap}
use Rattle.c_scope.specs.Names.{names_of}
use Rattle.c_scope.specs.Parameters.{scope_of}
use Rattle.c_programs.specs.FileState.{file_of}
use Rattle.c_unit_typing.specs.Files.{File}
use Rattle.c_typer.proofs.Parameters.{same_parameters}
use Rattle.c_typer.proofs.entering.enter.Goals as goal

pub returns-clause-parameters : goal.returns-clause-parameters
returns-clause-parameters c =
    same_parameters c.args.number c.args.words.now (scope_of c.args.scope) (file_of c.args.file.now)
    (names_of c.args.scope.names) _ _ (ap (λ (f : File). f.state) c.in_ok-begin.ensures) c.in_ok-parameters.ensures
