use Rattle.std.proofs.Common.{sym, subst, ◌+◌, ◌++◌, refl}
use Rattle.flat_code.proofs.Routines.InputOutput.{computes}
use Rattle.lib_wrappers.proofs.AllocatingRoutines.Shapes.{zero_shape}
use Rattle.lib_wrappers.proofs.Quiet.{joined_quiet, same_quiet}
use Rattle.flat_code.proofs.Routines.Shape.{same_shape}
use Rattle.lib_wrappers.specs.AllocatingRoutines.Zeroing.{IsZeroRoutine, word_bytes, zero_bytes, zero_code}
use Rattle.flat_actions.proofs.ByParts.{by_body}
use Rattle.lib_wrappers.proofs.AllocatingRoutines.Zeroed.{zero_does}
use Rattle.lib_wrappers.proofs.allocating.zeroing.zero.Goals as goal

pub returns-clause-does : goal.returns-clause-does
returns-clause-does g c =
    let a = c.args in
    let items = by_body (λ clear. zero_code clear a.first a.bytes a.scratch (a.scratch + 1) (a.scratch + 2)) _ _
    c.in_ok-clear.clear.items
    c.in_ok-r.ensures c.as_slice.ensures.value in
    subst (IsZeroRoutine a.map.now g.S.ShadowForm.entry (g.S.ShadowForm.IsGood a.map.now) a.first a.bytes a.scratch)
    (sym items)
    (zero_does a.map.now c.requires.map g.S.ShadowForm.entry (g.S.ShadowForm.IsGood a.map.now)
    (λ m m' k h. c.entries_are_local.ensures a.map.now m m' c.requires.map k h) a.first a.bytes a.scratch
    c.requires.below c.in_ok-clear.clear.items c.in_ok-clear.ensures.does)

pub returns-clause-computes : goal.returns-clause-computes
returns-clause-computes g c =
    let a = c.args in
    same_quiet (by_body (λ clear. zero_code clear a.first a.bytes a.scratch (a.scratch + 1) (a.scratch + 2)) _ _
    c.in_ok-clear.clear.items c.in_ok-r.ensures c.as_slice.ensures.value)
    (joined_quiet (word_bytes a.bytes a.scratch)
    (c.in_ok-clear.clear.items ++ zero_bytes a.first a.bytes a.scratch (a.scratch + 1) (a.scratch + 2)) (computes (word_bytes a.bytes a.scratch) refl)
    (joined_quiet c.in_ok-clear.clear.items (zero_bytes a.first a.bytes a.scratch (a.scratch + 1) (a.scratch + 2))
    c.in_ok-clear.ensures.computes
    (computes (zero_bytes a.first a.bytes a.scratch (a.scratch + 1) (a.scratch + 2)) refl)))

pub returns-clause-shape : goal.returns-clause-shape
returns-clause-shape g c =
    let a = c.args in
    same_shape (by_body (λ clear. zero_code clear a.first a.bytes a.scratch (a.scratch + 1) (a.scratch + 2)) _ _
    c.in_ok-clear.clear.items c.in_ok-r.ensures c.as_slice.ensures.value)
    (zero_shape c.in_ok-clear.clear.items a.first a.bytes a.scratch c.requires.below c.in_ok-clear.ensures.shape)
