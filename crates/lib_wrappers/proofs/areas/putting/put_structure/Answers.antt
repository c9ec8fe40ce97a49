use Rattle.std.proofs.lemmas.Result.{IfOk-weaker}
use Rattle.lib_wrappers.proofs.AreaRoutines.PutValues.{puts_structures}
use Rattle.lib_wrappers.proofs.areas.putting.put_structure.Goals as goal

pub returns-clause-does : goal.returns-clause-does
returns-clause-does g c =
    let a = c.args in
    IfOk-weaker _ _ _
    (λ r h. puts_structures a.map.now c.requires.map g.S.ShadowForm.entry (g.S.ShadowForm.IsGood a.map.now) a.to a.part
    a.bytes a.scratch _ h)
    c.put_range.ensures.does

pub returns-clause-computes : goal.returns-clause-computes
returns-clause-computes g c = c.put_range.ensures.computes

pub returns-clause-shape : goal.returns-clause-shape
returns-clause-shape g c = c.put_range.ensures.shape
