use Rattle.std.proofs.Common.{◌≤◌, sym, subst}
use Rattle.interpreter_objects.proofs.Insides.{some_bytes}
use Rattle.interpreter_objects.proofs.object.Object.scalar_at.Goals as goal

pub number-word-requires-clause-some : goal.number-word-requires-clause-some
number-word-requires-clause-some c = subst (λ n. 1 ≤ n) (sym c.size.ensures.value) (some_bytes c.args.scalar)
