use Rattle.std.proofs.Common.{◌≡◌, ◌++◌, drop}
use Rattle.c_declarators.specs.Derivations.{function_words}
use Rattle.c_declarators.proofs.derivation.function_words.Given as goal

abbrev pub invariant-loop-parameter : goal.invariant-loop-parameter
invariant-loop-parameter l =
    l.words.items ++ function_words (drop l.parameter-index l.parameters) l.fn.of
    ≡ function_words l.parameters l.fn.of
