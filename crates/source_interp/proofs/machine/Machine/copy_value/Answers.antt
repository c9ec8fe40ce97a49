use Rattle.std.proofs.Common.{ap, ◌∙◌, sym, None, Some}
use Rattle.source_meaning.specs.Structures.{copy_value}
use Rattle.source_interp.proofs.Acting.{same_acts}
use Rattle.source_interp.proofs.machine.Machine.copy_value.Goals as goal

pub returns-in-Some : goal.returns-in-Some
returns-in-Some c g o =
    same_acts g _ _ o o _ _ _ (ap (λ x. copy_value x c.args.size c.args.is_judged c.args.pointer c.args.line
    c.args.value.now.value) c.in-Some.ensures.some ∙ ap (copy_value (Some c.in-Some.contents.now) c.args.size
    c.args.is_judged c.args.pointer c.args.line) (sym c.value-found.ensures)) (c.put_contents.ensures g o)

pub returns-in-None : goal.returns-in-None
returns-in-None c g o =
    same_acts g _ _ o o _ _ _ (ap (λ x. copy_value x c.args.size c.args.is_judged c.args.pointer c.args.line
    c.args.value.now.value) c.in-None.ensures.none ∙ ap (copy_value None c.args.size c.args.is_judged c.args.pointer
    c.args.line) (sym c.value-found.ensures)) (c.copy_structure.ensures g o)
