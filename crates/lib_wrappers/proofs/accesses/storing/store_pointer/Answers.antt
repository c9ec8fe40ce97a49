use Rattle.std.proofs.Common.{ap, sym, subst, ◌∙◌}
use Rattle.flat_code.specs.Routines.InputOutput.{IsWithoutInputOutput}
use Rattle.flat_code.proofs.Routines.InputOutput.{computes}
use Rattle.lib_wrappers.specs.AccessRoutines.Accessing.{IsStoreRoutine, store_pointer_code}
use Rattle.lib_wrappers.specs.declared.accesses.held.HeldScalar.TheVariants.{Pointer}
use Rattle.lib_wrappers.proofs.AccessRoutines.PointerStores.{store_pointer_does}
use Rattle.lib_wrappers.proofs.accesses.storing.store_pointer.Goals as goal
use Rattle.flat_actions.specs.Actions.{program_basis}

pub returns-clause-does : goal.returns-clause-does
returns-clause-does g c =
    let a = c.args in
    let entry = g.S.ShadowForm.entry in
    let good = g.S.ShadowForm.IsGood a.map.now in
    let same = c.in_ok-code.ensures ∙ ap (store_pointer_code a.address a.from a.scratch) c.deref.ensures.value in
    subst (IsStoreRoutine (program_basis a.map.now entry good) a.address (Pointer a.from) a.scratch) (sym same)
    (store_pointer_does a.map.now entry good a.address a.from a.scratch c.in_ok-write.write.items c.requires.map
    (λ m m' keep h. c.entries_are_local.ensures a.map.now m m' c.requires.map keep h)
    c.requires.below c.in_ok-write.ensures.does)

pub returns-clause-computes : goal.returns-clause-computes
returns-clause-computes g c =
    let a = c.args in
    let same = c.in_ok-code.ensures ∙ ap (store_pointer_code a.address a.from a.scratch) c.deref.ensures.value in
    subst IsWithoutInputOutput (sym same)
    (computes (store_pointer_code a.address a.from a.scratch c.in_ok-write.write.items) c.in_ok-write.ensures.computes.none)

pub returns-clause-code : goal.returns-clause-code
returns-clause-code g c =
    c.in_ok-code.ensures
    ∙ ap (store_pointer_code c.args.address c.args.from c.args.scratch)
    (c.deref.ensures.value ∙ c.in_ok-write.ensures.code)
