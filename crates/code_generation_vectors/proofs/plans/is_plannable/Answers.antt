use Rattle.code_generation_vectors.proofs.Plannable.{are_plannable}
use Rattle.code_generation_vectors.proofs.plans.is_plannable.Goals as goal

pub returns : goal.returns
returns c accepted = are_plannable c.args.program.now _ c.requires.small c.requires.named
    c.in_ok-plan.ensures (c.accepts.ensures.yes accepted)
