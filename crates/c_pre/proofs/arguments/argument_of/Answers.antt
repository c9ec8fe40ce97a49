use Rattle.std.proofs.Common.{length, Some, None, refl, sym, ap, ◌∙◌}
use Rattle.std.proofs.lemmas.Option.{slice_get_read, slice_get_past}
use Rattle.c_pre.specs.Directives.{names_among}
use Rattle.c_pre.specs.Pending.{all_hiding}
use Rattle.c_pre.proofs.Putting.{no_argument, placed}
use Rattle.c_pre.proofs.arguments.argument_of.Goals as goal

pub returns-in_default-parameter_at-clause-argument : goal.returns-in_default-parameter_at-clause-argument
returns-in_default-parameter_at-clause-argument c = λ sets.
    sym (no_argument (names_among c.args.parameters.now) _ c.in-Some.name _
    (sym c.of.ensures ∙ c.in-Some.is) (sym c.parameter_at.ensures ∙ c.in_default-parameter_at.is))

pub returns-then-place-arguments-clause-argument : goal.returns-then-place-arguments-clause-argument
returns-then-place-arguments-clause-argument c = λ sets.
    let vs = c.args.arguments.now in
    let v = c.index-arguments-place.result in
    ap (λ items. Some (all_hiding sets items)) c.as_slice.ensures.value
    ∙ sym (placed (λ w. all_hiding sets w.items) (names_among c.args.parameters.now) vs c.in-Some.name _
    c.in-Some-parameter_at.place (Some v) (sym c.of.ensures ∙ c.in-Some.is)
    (sym c.parameter_at.ensures ∙ c.in-Some-parameter_at.is)
    (slice_get_read vs (length vs) c.in-Some-parameter_at.place v refl c.if-place-arguments.true
    c.index-arguments-place.is))

pub returns-else-place-arguments-clause-argument : goal.returns-else-place-arguments-clause-argument
returns-else-place-arguments-clause-argument c = λ sets.
    let vs = c.args.arguments.now in
    sym (placed (λ w. all_hiding sets w.items) (names_among c.args.parameters.now) vs c.in-Some.name _
    c.in-Some-parameter_at.place None (sym c.of.ensures ∙ c.in-Some.is)
    (sym c.parameter_at.ensures ∙ c.in-Some-parameter_at.is)
    (slice_get_past vs c.in-Some-parameter_at.place c.if-place-arguments.false))
