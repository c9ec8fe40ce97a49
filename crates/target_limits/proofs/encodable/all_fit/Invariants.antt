use Rattle.std.proofs.Common.{◌≡◌, drop}
use Rattle.std.specs.List.{list_all}
use Rattle.target_limits.specs.Encoding.{fits}
use Rattle.target_limits.proofs.encodable.all_fit.Given as goal

abbrev pub invariant-loop-instruction : goal.invariant-loop-instruction
invariant-loop-instruction l = list_all fits (drop l.instruction-index l.body) ≡ list_all fits l.fn.body
