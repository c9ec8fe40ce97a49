use Rattle.std.proofs.Common.{refl}
use Rattle.flat_code.proofs.Routines.InputOutput.{computes}
use Rattle.lock_space.proofs.FreedLocks.{release_does}
use Rattle.lock_space.proofs.Shapes.{release_shape}
use Rattle.lib_wrappers.specs.AllocatingRoutines.Entering.{leave_code}
use Rattle.lib_wrappers.proofs.AllocatingRoutines.LeftBlocks.{leave_does}
use Rattle.lib_wrappers.proofs.allocating.laws.blocks_are_left_exactly.Goals as goal

pub returns-clause-does : goal.returns-clause-does
returns-clause-does g c = λ map lock t mapped below.
    leave_does map mapped g.S.ShadowForm.entry (g.S.ShadowForm.IsGood map)
    (λ m m' keep h. c.entries_are_local.ensures map m m' mapped keep h) lock t (leave_code map lock t)
    (release_does map lock t mapped below)

pub returns-clause-shape : goal.returns-clause-shape
returns-clause-shape g c = λ map lock t mapped below. release_shape map mapped lock t below

pub returns-clause-computes : goal.returns-clause-computes
returns-clause-computes g c = λ map lock t. computes (leave_code map lock t) refl
