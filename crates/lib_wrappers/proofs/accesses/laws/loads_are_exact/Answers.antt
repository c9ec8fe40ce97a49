use Rattle.lib_wrappers.proofs.AccessRoutines.Lists.{load_does, load_shape, load_computes}
use Rattle.lib_wrappers.proofs.accesses.laws.loads_are_exact.Goals as goal

pub returns-clause-does : goal.returns-clause-does
returns-clause-does g c = λ map address into t mapped below apart.
    load_does map mapped g.S.ShadowForm.entry g.S.ShadowForm.IsGood g.S.ShadowForm.entry_read
    c.entries_are_read_and_written.ensures.reads address into t below apart

pub returns-clause-shape : goal.returns-clause-shape
returns-clause-shape g c = λ map address into t mapped below.
    load_shape map mapped g.S.ShadowForm.entry_read c.entries_are_read_and_written.ensures.read_shape address into t below

pub returns-clause-computes : goal.returns-clause-computes
returns-clause-computes g c = λ map address into t mapped below.
    load_computes map mapped g.S.ShadowForm.entry_read 16 3 c.entries_are_read_and_written.ensures.read_shape address into t
    below
