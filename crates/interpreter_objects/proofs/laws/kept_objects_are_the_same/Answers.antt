use Rattle.interpreter_objects.proofs.Keeping.{address_at, life_at, size_at, storage_at}
use Rattle.interpreter_objects.proofs.laws.kept_objects_are_the_same.Goals as goal

pub returns-clause-storage : goal.returns-clause-storage
returns-clause-storage c = storage_at

pub returns-clause-address : goal.returns-clause-address
returns-clause-address c = address_at

pub returns-clause-size : goal.returns-clause-size
returns-clause-size c = size_at

pub returns-clause-life : goal.returns-clause-life
returns-clause-life c = life_at
