use Rattle.std.proofs.Common.{sym, subst}
use Rattle.lib_wrappers.proofs.Shapes.{strchr_shape}
use Rattle.flat_code.proofs.Routines.Shape.{same_shape}
use Rattle.std.proofs.lemmas.Result.{IfOk-weaker}
use Rattle.lib_wrappers.specs.ComparingRoutines.Seeking.{IsStrchr}
use Rattle.lib_wrappers.proofs.ComparingRoutines.Sought.{strchr_does}
use Rattle.lib_wrappers.proofs.comparing.seeking.strchr.Goals as goal
use Rattle.flat_actions.specs.Actions.{runtime_basis}

pub returns-clause-does : goal.returns-clause-does
returns-clause-does g c =
    let a = c.args in
    let entry = g.S.ShadowForm.entry in
    let good = g.S.ShadowForm.IsGood a.map.now in
    let q = c.requires in
    IfOk-weaker _ _ _
    (λ r e. subst (IsStrchr (runtime_basis a.map.now entry good) a.string a.byte a.into a.line a.scratch) (sym e)
    (strchr_does a.map.now entry good a.string a.into a.byte a.line a.scratch q.map q.apart q.distinct q.below
    q.results))
    c.strchr_instructions.ensures

pub returns-clause-shape : goal.returns-clause-shape
returns-clause-shape g c =
    let a = c.args in
    IfOk-weaker _ _ _ (λ r e. same_shape e (strchr_shape a.string a.byte a.into a.line a.scratch c.requires.below c.requires.results)) c.strchr_instructions.ensures
