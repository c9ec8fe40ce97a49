use Rattle.program_laws.proofs.Names.Files.{file_known}
use Rattle.program_laws.proofs.laws.names.names_have_types_of_linked_objects.Goals as goal

pub returns-clause-end : goal.returns-clause-end
returns-clause-end c = λ objects end es f regular define is. (file_known objects end es f regular define is).filled

pub returns-clause-definitions : goal.returns-clause-definitions
returns-clause-definitions c = λ objects end es f regular define is.
    (file_known objects end es f regular define is).known
