use Rattle.std.proofs.Common.{◌≡◌, refl, sym, subst}
use Rattle.std.specs.Prelude.{IfOk}
use Rattle.std.proofs.lemmas.Result.{IfOk-weaker}
use Rattle.flat_code.specs.Routines.InputOutput.{IsWithoutInputOutput}
use Rattle.flat_code.proofs.Routines.InputOutput.{computes}
use Rattle.lib_wrappers.specs.AccessRoutines.Accessing.{IsStoreRoutine, store_integer_code, store_code}
use Rattle.lib_wrappers.proofs.AccessRoutines.IntegerStores.{store_integer_does}
use Rattle.lib_wrappers.proofs.accesses.storing.store.Goals as goal
use Rattle.flat_actions.specs.Actions.{program_basis}

pub returns-in-Integer-clause-does : goal.returns-in-Integer-clause-does
returns-in-Integer-clause-does g c =
    let a = c.args in
    let entry = g.S.ShadowForm.entry in
    let good = g.S.ShadowForm.IsGood a.map.now in
    let of = c.in-Integer.of in
    let r = c.in-Integer.register in
    let basis = program_basis a.map.now entry good in
    IfOk-weaker _ _ _
    (λ v e. subst (IsStoreRoutine basis a.address a.from a.scratch) (sym e)
    (subst (λ h. IsStoreRoutine basis a.address h a.scratch (store_integer_code a.address of r)) (sym c.in-Integer.is)
    (store_integer_does a.map.now entry good a.address of r a.scratch c.requires.map
    (λ m m' keep h. c.entries_are_local.ensures a.map.now m m' c.requires.map keep h))))
    c.store_integer.ensures

pub returns-in-Integer-clause-computes : goal.returns-in-Integer-clause-computes
returns-in-Integer-clause-computes g c = IfOk-weaker _ _ _
    (λ v e. subst IsWithoutInputOutput (sym e)
    (computes (store_integer_code c.args.address c.in-Integer.of c.in-Integer.register) refl)) c.store_integer.ensures

pub returns-in-Integer-clause-code : goal.returns-in-Integer-clause-code
returns-in-Integer-clause-code g c =
    let a = c.args in
    subst (λ h. IfOk c.store_integer.result (λ r. r.items ≡ store_code g.S.ShadowForm.entry_write a.map.now a.address h a.scratch))
    (sym c.in-Integer.is) c.store_integer.ensures

pub returns-in-Pointer-clause-code : goal.returns-in-Pointer-clause-code
returns-in-Pointer-clause-code g c =
    let a = c.args in
    subst (λ h. IfOk c.store_pointer.result (λ r. r.items ≡ store_code g.S.ShadowForm.entry_write a.map.now a.address h a.scratch))
    (sym c.in-Pointer.is) c.store_pointer.ensures.code
