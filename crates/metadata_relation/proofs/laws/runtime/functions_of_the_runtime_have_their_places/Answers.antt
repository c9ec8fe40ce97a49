use Rattle.metadata_relation.proofs.LibraryCalls.{listed}
use Rattle.metadata_relation.proofs.PrintScans.{directive_listed}
use Rattle.metadata_relation.proofs.laws.runtime.functions_of_the_runtime_have_their_places.Goals as goal

pub returns-clause-library : goal.returns-clause-library
returns-clause-library c = listed

pub returns-clause-directive : goal.returns-clause-directive
returns-clause-directive c = directive_listed
