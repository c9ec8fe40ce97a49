use Rattle.lib_wrappers.proofs.AccessRoutines.Lists.{store_does, store_shape, store_computes}
use Rattle.lib_wrappers.proofs.accesses.laws.stores_are_exact.Goals as goal

pub returns-clause-does : goal.returns-clause-does
returns-clause-does g c = λ map address from t mapped below.
    store_does map mapped g.S.ShadowForm.entry g.S.ShadowForm.IsGood g.S.ShadowForm.entry_write
    (λ m m' keep h. c.entries_are_local.ensures map m m' mapped keep h)
    c.entries_are_read_and_written.ensures.writes address from t below

pub returns-clause-shape : goal.returns-clause-shape
returns-clause-shape g c = λ map address from t mapped below.
    store_shape map mapped g.S.ShadowForm.entry_write c.entries_are_read_and_written.ensures.write_shape address from t
    below

pub returns-clause-computes : goal.returns-clause-computes
returns-clause-computes g c = λ map address from t mapped below.
    store_computes map mapped g.S.ShadowForm.entry_write 22 5 c.entries_are_read_and_written.ensures.write_shape address from t
    below
