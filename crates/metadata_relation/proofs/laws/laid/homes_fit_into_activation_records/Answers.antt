use Rattle.metadata_relation.proofs.Homes.{homes_apart, homes_count, homes_fit}
use Rattle.metadata_relation.proofs.laws.laid.homes_fit_into_activation_records.Goals as goal

pub returns-clause-count : goal.returns-clause-count
returns-clause-count c = homes_count

pub returns-clause-inside : goal.returns-clause-inside
returns-clause-inside c = homes_fit

pub returns-clause-apart : goal.returns-clause-apart
returns-clause-apart c = homes_apart
