use Rattle.interpreter_objects.proofs.Keeping.{same_contents, same_bytes_at, same_found, same_there}
use Rattle.interpreter_objects.proofs.laws.kept_objects_hold_the_same.Goals as goal

pub returns-clause-there : goal.returns-clause-there
returns-clause-there c = same_there

pub returns-clause-scalars : goal.returns-clause-scalars
returns-clause-scalars c = same_found

pub returns-clause-contents : goal.returns-clause-contents
returns-clause-contents c = same_contents

pub returns-clause-bytes : goal.returns-clause-bytes
returns-clause-bytes c = same_bytes_at
