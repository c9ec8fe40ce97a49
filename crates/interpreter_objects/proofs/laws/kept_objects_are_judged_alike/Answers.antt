use Rattle.interpreter_objects.proofs.Keeping.{same_judged, same_named, same_pointer}
use Rattle.interpreter_objects.proofs.laws.kept_objects_are_judged_alike.Goals as goal

pub returns-clause-judged : goal.returns-clause-judged
returns-clause-judged c = same_judged

pub returns-clause-named : goal.returns-clause-named
returns-clause-named c = same_named

pub returns-clause-pointer : goal.returns-clause-pointer
returns-clause-pointer c = same_pointer
