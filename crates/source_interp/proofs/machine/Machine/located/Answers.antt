use Rattle.std.proofs.Common.{sym, ◌∙◌}
use Rattle.source_interp.proofs.Accesses.{locates_dead, locates_inside, locates_outside}
use Rattle.source_interp.proofs.machine.Machine.located.Goals as goal

pub returns-in-Outside : goal.returns-in-Outside
returns-in-Outside c g o =
    locates_outside g o c.args.self.now c.args.is_judged c.args.size c.args.line c.args.pointer
    (sym c.in-Outside.is ∙ c.verdict.ensures)

pub returns-in-Dead : goal.returns-in-Dead
returns-in-Dead c g o =
    locates_dead g o c.args.self.now c.args.is_judged c.args.size c.args.line c.args.pointer
    (sym c.in-Dead.is ∙ c.verdict.ensures)

pub returns-in-Inside : goal.returns-in-Inside
returns-in-Inside c g o =
    locates_inside g o c.args.self.now c.args.is_judged c.args.size c.args.line c.args.pointer c.in-Inside.place
    (sym c.in-Inside.is ∙ c.verdict.ensures)
