use Rattle.std.proofs.Common.{sym, subst}
use Rattle.lib_wrappers.proofs.Shapes.{memcmp_shape}
use Rattle.flat_code.proofs.Routines.Shape.{same_shape}
use Rattle.std.proofs.lemmas.Result.{IfOk-weaker}
use Rattle.lib_wrappers.specs.ComparingRoutines.Comparing.{IsMemcmp}
use Rattle.lib_wrappers.proofs.ComparingRoutines.RangesCompared.{memcmp_does}
use Rattle.lib_wrappers.proofs.comparing.comparing.memcmp.Goals as goal
use Rattle.flat_actions.specs.Actions.{runtime_basis}

pub returns-clause-does : goal.returns-clause-does
returns-clause-does g c =
    let a = c.args in
    let h = a.ranges in
    let entry = g.S.ShadowForm.entry in
    let good = g.S.ShadowForm.IsGood a.map.now in
    let q = c.requires in
    IfOk-weaker _ _ _
    (λ r e. subst (IsMemcmp (runtime_basis a.map.now entry good) h.left h.right h.size h.into a.line a.scratch) (sym e)
    (memcmp_does a.map.now entry good h.left h.right h.size h.into a.line a.scratch q.map q.left_apart q.right_apart
    q.left q.right q.results))
    c.memcmp_instructions.ensures

pub returns-clause-shape : goal.returns-clause-shape
returns-clause-shape g c =
    let a = c.args in
    IfOk-weaker _ _ _ (λ r e. same_shape e (memcmp_shape a.ranges.left a.ranges.right a.ranges.size a.ranges.into a.line a.scratch c.requires.left
    c.requires.right c.requires.results)) c.memcmp_instructions.ensures
