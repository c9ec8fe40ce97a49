use Rattle.machine_laws.proofs.View.Places.{fetch_table, fetch_code}
use Rattle.machine_laws.proofs.laws.view.words_are_fetched.Goals as goal

pub returns-clause-table : goal.returns-clause-table
returns-clause-table c = fetch_table

pub returns-clause-code : goal.returns-clause-code
returns-clause-code c = fetch_code
