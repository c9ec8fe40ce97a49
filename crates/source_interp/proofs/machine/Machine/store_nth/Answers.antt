use Rattle.std.proofs.Common.{ap, sym, false}
use Rattle.obj_memory.specs.declared.int_type.IntType.TheVariants.{Char}
use Rattle.obj_memory.specs.declared.value.Scalar.TheVariants.{Integer}
use Rattle.obj_memory.specs.Judgement.{narrowed}
use Rattle.source_meaning.specs.Actions.{integer, store}
use Rattle.source_interp.specs.Outside.{outside}
use Rattle.source_interp.proofs.Acting.{same_acts}
use Rattle.source_interp.proofs.machine.Machine.store_nth.Goals as goal

pub returns-in-Some : goal.returns-in-Some
returns-in-Some g c e w i =
    same_acts e c.args.self.now c.store_byte.new.self (outside w (g.T.Trace.noted c.args.trace.now) i) (outside w
    (g.T.Trace.noted c.store_byte.new.trace) i) c.store_byte.result _ _ (ap (λ n. store (Integer Char) false (narrowed
    n 1 c.args.object) 0 (integer c.args.byte)) (sym c.in-Some.ensures)) (c.store_byte.ensures e w i)
