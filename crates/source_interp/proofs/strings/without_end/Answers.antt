use Rattle.std.proofs.Common.{}
use Rattle.source_interp.proofs.Scanning.{ends_badly, ends_well}
use Rattle.source_interp.proofs.strings.without_end.Goals as goal

pub returns-then-must_end : goal.returns-then-must_end
returns-then-must_end c m g o =
    ends_badly g m o c.args.bytes c.args.must_end c.args.line c.if-must_end.true

pub returns-else-must_end : goal.returns-else-must_end
returns-else-must_end c m g o =
    ends_well g m o c.args.bytes c.args.must_end c.args.line c.if-must_end.false
