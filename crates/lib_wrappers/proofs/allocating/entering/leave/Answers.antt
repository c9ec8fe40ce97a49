use Rattle.std.proofs.lemmas.Result.{IfOk-weaker}
use Rattle.lib_wrappers.proofs.AllocatingRoutines.LeftBlocks.{leave_does}
use Rattle.lib_wrappers.proofs.allocating.entering.leave.Goals as goal

pub returns-clause-does : goal.returns-clause-does
returns-clause-does g c =
    let a = c.args in
    IfOk-weaker _ _ _
    (λ r h. leave_does a.map.now c.requires.map g.S.ShadowForm.entry (g.S.ShadowForm.IsGood a.map.now)
    (λ m m' k q. c.entries_are_local.ensures a.map.now m m' c.requires.map k q) a.lock a.scratch _ h) c.release.ensures.does
