use Rattle.std.proofs.Common.{◌≡◌, ◌++◌, map, drop}
use Rattle.metadata_relation.specs.FunctionTypes.{type_key}
use Rattle.instruction_selection.proofs.type_keys.type_keys.Given as goal

abbrev pub invariant-loop-function : goal.invariant-loop-function
invariant-loop-function l =
    l.keys.items ++ map (type_key l.fn.functions) (drop l.function-index l.functions)
    ≡ map (type_key l.fn.functions) l.fn.functions
