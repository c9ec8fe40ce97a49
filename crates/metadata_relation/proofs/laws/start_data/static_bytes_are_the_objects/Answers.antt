use Rattle.metadata_relation.proofs.StartFile.{are_statics}
use Rattle.metadata_relation.proofs.laws.start_data.static_bytes_are_the_objects.Goals as goal

pub returns : goal.returns
returns c = are_statics
