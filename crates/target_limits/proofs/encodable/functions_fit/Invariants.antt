use Rattle.std.proofs.Common.{◌≡◌, drop}
use Rattle.std.specs.List.{list_all}
use Rattle.target_limits.specs.Encoding.{function_fits}
use Rattle.target_limits.proofs.encodable.functions_fit.Given as goal

abbrev pub invariant-loop-function : goal.invariant-loop-function
invariant-loop-function l = list_all function_fits (drop l.function-index l.functions)
    ≡ list_all function_fits l.fn.functions
