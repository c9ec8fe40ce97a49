use Rattle.interpreter_objects.proofs.Keeping.{kept_dead, kept_new, same_bytes_put, same_cleared, same_movable}
use Rattle.interpreter_objects.proofs.Keeping.{same_moved, same_put, same_puttable, same_written}
use Rattle.interpreter_objects.proofs.laws.kept_objects_change_alike.Goals as goal

pub returns-clause-made : goal.returns-clause-made
returns-clause-made c = kept_new

pub returns-clause-dead : goal.returns-clause-dead
returns-clause-dead c = kept_dead

pub returns-clause-written : goal.returns-clause-written
returns-clause-written c = same_written

pub returns-clause-movable : goal.returns-clause-movable
returns-clause-movable c = same_movable

pub returns-clause-moved : goal.returns-clause-moved
returns-clause-moved c = same_moved

pub returns-clause-puttable : goal.returns-clause-puttable
returns-clause-puttable c = same_puttable

pub returns-clause-put : goal.returns-clause-put
returns-clause-put c = same_put

pub returns-clause-cleared : goal.returns-clause-cleared
returns-clause-cleared c = same_cleared

pub returns-clause-bytes : goal.returns-clause-bytes
returns-clause-bytes c = same_bytes_put
