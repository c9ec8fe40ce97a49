use Rattle.program_laws.proofs.Functions.Continuing.{declaration_continues, externals_continue, items_continue}
use Rattle.program_laws.proofs.laws.functions.linked_names_continue.Goals as goal

pub returns-clause-externals : goal.returns-clause-externals
returns-clause-externals c = externals_continue

pub returns-clause-declarations : goal.returns-clause-declarations
returns-clause-declarations c = declaration_continues

pub returns-clause-items : goal.returns-clause-items
returns-clause-items c = items_continue
