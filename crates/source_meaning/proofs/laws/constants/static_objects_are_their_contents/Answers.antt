use Rattle.source_meaning.proofs.Constants.Statics.{initial_objects_are}
use Rattle.source_meaning.proofs.laws.constants.static_objects_are_their_contents.Goals as goal

pub returns : goal.returns
returns c = initial_objects_are
