use Rattle.std.proofs.lemmas.Result.{IfOk-weaker}
use Rattle.lib_wrappers.proofs.AllocatingRoutines.Mallocs.{malloc_does}
use Rattle.lib_wrappers.proofs.allocating.allocating.malloc.Goals as goal

pub returns-clause-does : goal.returns-clause-does
returns-clause-does g c =
    let a = c.args in
    IfOk-weaker _ _ _
    (λ r h. malloc_does a.map.now g.S.ShadowForm.entry (g.S.ShadowForm.IsGood a.map.now) a.size a.into a.line
    a.scratch _
    h) c.allocate.ensures.does
