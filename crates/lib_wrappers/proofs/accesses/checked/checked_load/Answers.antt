use Rattle.std.proofs.Common.{◌≤◌, [], refl, sym, subst, arith}
use Rattle.obj_memory.specs.Access.{scalar_size}
use Rattle.source_meaning.specs.State.{on}
use Rattle.source_meaning.specs.Actions.{read_scalar}
use Rattle.source_meaning.specs.Library.{argument}
use Rattle.lib_wrappers.specs.AccessRoutines.Holding.{scalar_in, holder_in}
use Rattle.lib_wrappers.specs.AccessRoutines.Accessing.{IsCheckedLoad, load_steps}
use Rattle.lib_wrappers.proofs.AccessRoutines.Judged.{both_tests_then, checked_does}
use Rattle.lib_wrappers.proofs.accesses.checked.checked_load.Goals as goal
use Rattle.flat_actions.specs.Actions.{program_basis}

pub returns : goal.returns
returns g c =
    let a = c.args in
    let basis = program_basis a.map.now g.S.ShadowForm.entry (g.S.ShadowForm.IsGood a.map.now) in
    let s = scalar_in a.into in
    let n = scalar_size s in
    let access = c.in_ok-access.access.items in
    let size = c.size.ensures.value in
    let some : 1 ≤ n = subst (λ z. 1 ≤ z) size c.size.ensures.some in
    let few : n ≤ 8 = subst (λ z. z ≤ 8) size c.size.ensures.few in
    let same = both_tests_then a.pointer a.line a.scratch c.size.result n c.in_ok-code.code.items c.deref.result.now
    access
    c.in_ok-code.ensures size c.deref.ensures.value in
    subst (IsCheckedLoad basis a.pointer a.into a.line a.scratch) (sym same)
    (checked_does basis c.requires.map a.pointer n a.line a.scratch c.requires.pointer some (omega arith) [] tt
    (holder_in a.into) (load_steps a.into) access (λ vs o. on o (read_scalar s (argument 0 vs).word))
    (λ vs e x. refl) (c.in_ok-access.ensures.does a.line))
