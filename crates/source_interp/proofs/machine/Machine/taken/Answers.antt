use Rattle.std.proofs.Common.{ap, ◌∙◌, sym, Some, None}
use Rattle.source_meaning.specs.Structures.{taken}
use Rattle.source_interp.proofs.Acting.{same_acts}
use Rattle.source_interp.proofs.machine.Machine.taken.Goals as goal

pub returns-in-Some : goal.returns-in-Some
returns-in-Some c g o =
    same_acts g _ _ o o _ _ _ (ap (λ x. taken x c.args.size c.args.value.now.value c.args.line) c.in-Some.ensures.some ∙
    ap (λ v. taken (Some c.in-Some.contents.now) c.args.size v c.args.line) (sym c.value-found.ensures))
    (c.taken_part.ensures g o)

pub returns-in-None : goal.returns-in-None
returns-in-None c g o =
    same_acts g _ _ o o _ _ _ (ap (λ x. taken x c.args.size c.args.value.now.value c.args.line) c.in-None.ensures.none ∙
    ap (λ v. taken None c.args.size v c.args.line) (sym c.value-found.ensures)) (c.taken_at.ensures g o)
