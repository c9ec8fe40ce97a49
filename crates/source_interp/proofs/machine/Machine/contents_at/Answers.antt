use Rattle.std.proofs.Common.{sym, ◌∙◌}
use Rattle.source_interp.proofs.Structures.{takes}
use Rattle.source_interp.proofs.machine.Machine.contents_at.Goals as goal

pub returns-in-Some : goal.returns-in-Some
returns-in-Some c g o =
    takes g o c.args.self.now c.args.size c.args.place _ c.with_contents.result c.with_contents.ensures (sym
    c.in-Some.is ∙ c.in_ok-contents.ensures)
