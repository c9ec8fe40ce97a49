use Rattle.std.proofs.Common.{◌≡◌, ◌++◌, drop}
use Rattle.std.specs.Prelude.{map}
use Rattle.c_pre.specs.Conditions.{without_name}
use Rattle.c_pre.proofs.condition.without_names.Given as goal

abbrev pub invariant-loop-token : goal.invariant-loop-token
invariant-loop-token l = l.out.items ++ map without_name (drop l.token-index l.tokens) ≡ map without_name l.tokens
