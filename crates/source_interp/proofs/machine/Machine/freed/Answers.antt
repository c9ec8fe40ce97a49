use Rattle.std.proofs.Common.{}
use Rattle.source_interp.proofs.Heaping.{frees_by}
use Rattle.source_interp.proofs.machine.Machine.freed.Goals as goal

pub returns-in-OfObject : goal.returns-in-OfObject
returns-in-OfObject c g o =
    frees_by g c.args.self.now c.find_freed.new.self o c.args.pointer c.args.line _ c.find_freed.result
    c.in-OfObject.is (c.find_freed.ensures g o)

pub returns-in-Untagged : goal.returns-in-Untagged
returns-in-Untagged c g o =
    frees_by g c.args.self.now c.bad_free.new.self o c.args.pointer c.args.line _ c.bad_free.result
    c.in-Untagged.is (c.bad_free.ensures g o)

pub returns-in-OfFunction : goal.returns-in-OfFunction
returns-in-OfFunction c g o =
    frees_by g c.args.self.now c.bad_free-in-OfFunction.new.self o c.args.pointer c.args.line _
    c.bad_free-in-OfFunction.result c.in-OfFunction.is (c.bad_free-in-OfFunction.ensures g o)
