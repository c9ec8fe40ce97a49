use Rattle.std.proofs.Common.{◌≡◌, max, refl, ap, ◌∙◌, arith}
use Rattle.c_syntax.specs.View.{parameters_of, typed_of, more_parameters_in}
use Rattle.c_syntax.specs.Levels.{parameters_levels, typed_levels, more_parameters_levels}
use Rattle.c_syntax.proofs.ListViews.{parameters_view}
use Rattle.c_syntax_typing.proofs.Lower.{lower_names}
use Rattle.c_syntax_typing.proofs.nested.Nested.parameter_types.Goals as goal

pub more_types-requires : goal.more_types-requires
more_types-requires g c κs =
    let levels : parameters_levels (parameters_of c.args.parameters.now)
    ≡ max (typed_levels (typed_of c.in-Given.first)) (more_parameters_levels (more_parameters_in c.in-Given.more)) =
    ap (λ z. parameters_levels (parameters_of z)) c.in-Given.is
    ∙ ap parameters_levels (parameters_view c.in-Given.first c.in-Given.more) in
    let more : more_parameters_levels (more_parameters_in c.as_slice.result.now) ≡ more_parameters_levels
    (more_parameters_in c.in-Given.more) =
    ap (λ z. more_parameters_levels (more_parameters_in z)) c.as_slice.ensures in
    ((refl, tt), lower_names _ _ _ _ _ c.requires.deeper (omega (arith, levels, more)))
