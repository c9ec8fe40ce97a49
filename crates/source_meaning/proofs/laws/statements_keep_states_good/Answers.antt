use Rattle.source_meaning.proofs.laws.statements_keep_states_good.Goals as goal
use Rattle.source_meaning.proofs.SureFlow.{execute_sure}
use Rattle.source_meaning.proofs.ValidProgramNames.{agree_same, statement_names}
use Rattle.source_meaning.specs.Good.{context_of}

pub returns : goal.returns
returns c = λ base boundary env i vs within s h. execute_sure i vs s
    (statement_names (agree_same (context_of base boundary env.variables vs).scope) within s h)
