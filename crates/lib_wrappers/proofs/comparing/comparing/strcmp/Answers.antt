use Rattle.std.proofs.Common.{sym, subst}
use Rattle.lib_wrappers.proofs.Shapes.{strcmp_shape}
use Rattle.flat_code.proofs.Routines.Shape.{same_shape}
use Rattle.std.proofs.lemmas.Result.{IfOk-weaker}
use Rattle.lib_wrappers.specs.ComparingRoutines.Comparing.{IsStrcmp}
use Rattle.lib_wrappers.proofs.ComparingRoutines.Compared.{strcmp_does}
use Rattle.lib_wrappers.proofs.comparing.comparing.strcmp.Goals as goal
use Rattle.flat_actions.specs.Actions.{runtime_basis}

pub returns-clause-does : goal.returns-clause-does
returns-clause-does g c =
    let a = c.args in
    let entry = g.S.ShadowForm.entry in
    let good = g.S.ShadowForm.IsGood a.map.now in
    let q = c.requires in
    IfOk-weaker _ _ _
    (λ r e. subst (IsStrcmp (runtime_basis a.map.now entry good) a.left a.right a.into a.line a.scratch) (sym e)
    (strcmp_does a.map.now entry good a.left a.right a.into a.line a.scratch q.map q.left_apart q.right_apart q.left
    q.right q.results))
    c.strcmp_instructions.ensures

pub returns-clause-shape : goal.returns-clause-shape
returns-clause-shape g c =
    let a = c.args in
    IfOk-weaker _ _ _ (λ r e. same_shape e (strcmp_shape a.left a.right a.into a.line a.scratch c.requires.left c.requires.right c.requires.results)) c.strcmp_instructions.ensures
