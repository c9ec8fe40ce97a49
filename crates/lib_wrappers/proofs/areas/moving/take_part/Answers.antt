use Rattle.std.proofs.lemmas.Result.{IfOk-weaker}
use Rattle.lib_wrappers.proofs.AreaRoutines.Parts.{takes_parts}
use Rattle.lib_wrappers.proofs.areas.moving.take_part.Goals as goal

pub returns-clause-does : goal.returns-clause-does
returns-clause-does g c =
    let a = c.args in
    IfOk-weaker _ _ _
    (λ r h. takes_parts a.map.now c.requires.map g.S.ShadowForm.entry (g.S.ShadowForm.IsGood a.map.now)
    (λ m m' keep good. c.entries_are_local.ensures a.map.now m m' c.requires.map keep good) a.to a.part a.bytes
    a.scratch _ h)
    c.move_area.ensures.does

pub returns-clause-computes : goal.returns-clause-computes
returns-clause-computes g c = c.move_area.ensures.computes

pub returns-clause-shape : goal.returns-clause-shape
returns-clause-shape g c = c.move_area.ensures.shape
