use Rattle.program_laws.proofs.Statics.Declared.{declaration_adds}
use Rattle.program_laws.proofs.Statics.Walked.{items_add, statement_adds}
use Rattle.program_laws.proofs.laws.statics.blocks_add_valid_static_objects.Goals as goal

pub returns : goal.returns
returns c = record { declaration = declaration_adds; statement = statement_adds; items = items_add }
