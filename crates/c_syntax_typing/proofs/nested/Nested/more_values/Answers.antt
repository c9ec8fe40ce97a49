use Rattle.std.proofs.Common.{refl, arith}
use Rattle.c_syntax.specs.View.{expression_of, more_arguments_in}
use Rattle.c_syntax.specs.Levels.{expression_levels, more_arguments_levels}
use Rattle.c_syntax_typing.proofs.Loops.{levels_here}
use Rattle.c_syntax_typing.proofs.nested.Nested.more_values.Goals as goal

pub value-requires : goal.value-requires
value-requires g c κs =
    let levels = levels_here (λ x. expression_levels (expression_of x.1))
    (λ xs. more_arguments_levels (more_arguments_in xs)) (λ x xs. refl) c.args.arguments.now
    c.loop-argument.argument-index c.loop-argument-item.result c.loop-argument-test.true c.loop-argument-item.is in (
      (refl, tt),
      c.requires.deeper.expressions (expression_of c.loop-argument-item.result.1)
          (omega (arith, levels, c.loop-argument.invariant.low)),
    )
