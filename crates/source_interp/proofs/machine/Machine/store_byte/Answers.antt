use Rattle.std.proofs.Common.{sym, ap, ◌∙◌, false}
use Rattle.obj_memory.specs.declared.int_type.IntType.TheVariants.{Char}
use Rattle.obj_memory.specs.declared.value.Scalar.TheVariants.{Integer}
use Rattle.source_meaning.specs.Actions.{integer, store}
use Rattle.source_interp.specs.Outside.{outside}
use Rattle.source_interp.proofs.Acting.{same_acts}
use Rattle.source_interp.proofs.machine.Machine.store_byte.Goals as goal

pub returns : goal.returns
returns g c e w i =
    same_acts e c.args.self.now c.store.new.self (outside w (g.T.Trace.noted c.args.trace.now) i) (outside w
    (g.T.Trace.noted c.store.new.trace) i) c.store.result _ _ (ap (λ p. store (Integer Char) false p 0 (integer
    c.args.byte))
    (sym c.narrowed-place.ensures) ∙ ap (λ b. store (Integer Char) false c.narrowed-place.result 0 (integer b)) (sym
    c.from.ensures) ∙ ap (store (Integer Char) false c.narrowed-place.result 0) (sym
    c.integer-value.ensures)) (c.store.ensures e w i)
