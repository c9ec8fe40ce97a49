use Rattle.std.proofs.Common.{◌≡◌, drop}
use Rattle.c_syntax.specs.Formed.{are_named_parameters}
use Rattle.c_syntax.specs.View.{more_parameters_in}
use Rattle.c_syntax.proofs.declarators.are_named_parameters.Given as goal

abbrev pub invariant-loop-parameter : goal.invariant-loop-parameter
invariant-loop-parameter l = are_named_parameters (more_parameters_in (drop l.parameter-index l.others))
    ≡ are_named_parameters (more_parameters_in l.others)
