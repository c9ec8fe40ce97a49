use Rattle.std.proofs.Common.{refl, arith}
use Rattle.c_syntax.specs.View.{more_parameters_in, typed_of}
use Rattle.c_syntax.specs.Levels.{more_parameters_levels, typed_levels}
use Rattle.c_syntax_typing.proofs.Loops.{levels_here}
use Rattle.c_syntax_typing.proofs.Lower.{lower_names}
use Rattle.c_syntax_typing.proofs.nested.Nested.more_types.Goals as goal

pub parameter_type-c_type-requires : goal.parameter_type-c_type-requires
parameter_type-c_type-requires g c κs =
    let levels = levels_here (λ x. typed_levels (typed_of x.1))
    (λ xs. more_parameters_levels (more_parameters_in xs)) (λ x xs. refl) c.args.parameters.now
    c.loop-parameter.parameter-index c.loop-parameter-item.result c.loop-parameter-test.true
    c.loop-parameter-item.is in
    ((refl, tt), lower_names _ _ _ _ _ c.requires.deeper (omega (arith, levels, c.loop-parameter.invariant.low)))
