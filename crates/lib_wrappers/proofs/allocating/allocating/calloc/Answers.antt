use Rattle.std.proofs.Common.{sym, subst, ◌+◌}
use Rattle.lib_wrappers.proofs.AllocatingRoutines.Shapes.{calloc_shape}
use Rattle.flat_code.proofs.Routines.Shape.{same_shape}
use Rattle.lib_wrappers.specs.AllocatingRoutines.Allocating.{IsCallocRoutine, calloc_code}
use Rattle.flat_actions.proofs.ByParts.{by_body}
use Rattle.lib_wrappers.proofs.AllocatingRoutines.Callocs.{calloc_does}
use Rattle.lib_wrappers.proofs.allocating.allocating.calloc.Goals as goal

pub returns-clause-does : goal.returns-clause-does
returns-clause-does g c =
    let a = c.args in
    let items = by_body (λ r. calloc_code r a.count a.size a.into a.scratch (a.scratch + 1)) _ _
    c.in_ok-block.block.items c.in_ok-r.ensures c.as_slice.ensures.value in
    subst (IsCallocRoutine a.map.now g.S.ShadowForm.entry (g.S.ShadowForm.IsGood a.map.now) a.count a.size a.into a.line
    a.scratch) (sym items)
    (calloc_does a.map.now c.requires.map g.S.ShadowForm.entry (g.S.ShadowForm.IsGood a.map.now) a.count a.size a.into
    a.line a.scratch c.requires.below c.requires.distinct c.in_ok-block.block.items c.in_ok-block.ensures.does)

pub returns-clause-shape : goal.returns-clause-shape
returns-clause-shape g c =
    let a = c.args in
    same_shape (by_body (λ r. calloc_code r a.count a.size a.into a.scratch (a.scratch + 1)) _ _
    c.in_ok-block.block.items c.in_ok-r.ensures c.as_slice.ensures.value)
    (calloc_shape c.in_ok-block.block.items a.count a.size a.into a.scratch c.requires.below c.in_ok-block.ensures.shape)
