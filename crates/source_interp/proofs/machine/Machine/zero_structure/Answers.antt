use Rattle.source_interp.proofs.Takes.{zero_contents}
use Rattle.source_interp.proofs.machine.Machine.zero_structure.Goals as goal

pub returns : goal.returns
returns c g o =
    zero_contents g c.args.self.now o c.args.size c.in_ok-contents.contents c.with_contents.result
    c.in_ok-contents.ensures c.with_contents.ensures
