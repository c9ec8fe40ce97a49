use Rattle.metadata_relation.proofs.StartHolds.{statics_sound, statics_fit}
use Rattle.metadata_relation.proofs.laws.start_data.static_objects_are_sound_and_in_their_region.Goals as goal

pub returns-clause-sound : goal.returns-clause-sound
returns-clause-sound c = λ p budgets mapped valid ds same. statics_sound p budgets mapped valid ds same

pub returns-clause-region : goal.returns-clause-region
returns-clause-region c = λ p budgets mapped valid ds same. statics_fit p budgets mapped valid ds same
