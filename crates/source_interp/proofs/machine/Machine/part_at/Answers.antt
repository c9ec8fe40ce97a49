use Rattle.std.proofs.Common.{sym, ◌∙◌}
use Rattle.source_interp.proofs.Takes.{takes_part}
use Rattle.source_interp.proofs.machine.Machine.part_at.Goals as goal

pub returns-in-Some : goal.returns-in-Some
returns-in-Some c g o =
    takes_part g c.args.self.now o c.args.size c.args.source c.args.contents.now _ c.with_contents.result
    c.with_contents.ensures (sym c.in-Some.is ∙ c.in_ok-part.ensures)
