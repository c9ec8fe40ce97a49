use Rattle.std.proofs.Common.{sym, refl, ◌∙◌}
use Rattle.source_interp.proofs.Bytes.{writes_bytes}
use Rattle.source_interp.proofs.machine.Machine.write_bytes.Goals as goal

pub returns-then-write_bytes : goal.returns-then-write_bytes
returns-then-write_bytes c g o =
    writes_bytes g o c.args.self.now _ c.args.place c.args.bytes.now (sym c.if-write_bytes.true ∙
    c.write_bytes.ensures.there) c.write_bytes.ensures.value refl
