use Rattle.std.proofs.Common.{◌∙◌, sym, ap}
use Rattle.std.specs.Prelude.{option_map}
use Rattle.c_unit_typing.specs.Programs.{kind_or_void}
use Rattle.c_programs.proofs.ParameterKinds.{parameter_fewer, parameter_next}
use Rattle.c_programs.proofs.kinds.parameter_kinds.Goals as goal

pub loop-kinds-smaller : goal.loop-kinds-smaller
loop-kinds-smaller c =
    parameter_fewer c.loop-kinds.rest.now _ c.behind_parameter-rest.result.now
    (ap (option_map (λ type. type.now)) (sym c.in-Some.is) ∙ c.behind_takes.ensures) c.behind_parameter-rest.ensures

pub loop-kinds-preserved : goal.loop-kinds-preserved
loop-kinds-preserved c =
    parameter_next c.args.structures.now c.loop-kinds.rest.now _ c.behind_parameter-rest.result.now _
    c.loop-kinds.kinds.items _ _ (ap (option_map (λ type. type.now)) (sym c.in-Some.is) ∙ c.behind_takes.ensures)
    c.behind_parameter-rest.ensures
    (c.kind_or_void.ensures ∙ ap kind_or_void c.kind_of_type.ensures)
    c.in_ok-push-in-Some.ensures.items c.loop-kinds.invariant
