use Rattle.std.proofs.Common.{◌≡◌, max, refl, ap, ◌∙◌, arith}
use Rattle.c_syntax.specs.View.{arguments_of, expression_of, more_arguments_in}
use Rattle.c_syntax.specs.Levels.{arguments_levels, expression_levels, more_arguments_levels}
use Rattle.c_syntax.proofs.ListViews.{arguments_view}
use Rattle.c_syntax_typing.proofs.Lower.{lower_expressions}
use Rattle.c_syntax_typing.proofs.nested.Nested.printing.Goals as goal

pub more_values-values-requires : goal.more_values-values-requires
more_values-values-requires g c κs =
    let levels : arguments_levels (arguments_of c.args.arguments.now)
    ≡ max (expression_levels (expression_of c.in-Given.first)) (more_arguments_levels
    (more_arguments_in c.in-Given.more)) =
    ap (λ z. arguments_levels (arguments_of z)) c.in-Given.is
    ∙ ap arguments_levels (arguments_view c.in-Given.first c.in-Given.more) in
    let more : more_arguments_levels (more_arguments_in c.as_slice.result.now) ≡ more_arguments_levels
    (more_arguments_in c.in-Given.more) =
    ap (λ z. more_arguments_levels (more_arguments_in z)) c.as_slice.ensures in
    ((refl, tt), lower_expressions _ _ _ _ c.requires.deeper (omega (arith, levels, more)))
