use Rattle.machine_laws.proofs.CodeLayout.Bytes.{stand_in_code, stand_in_table}
use Rattle.machine_laws.proofs.laws.layout.words_stand_in_their_segments.Goals as goal

pub returns-clause-code : goal.returns-clause-code
returns-clause-code c = stand_in_code

pub returns-clause-table : goal.returns-clause-table
returns-clause-table c = stand_in_table
