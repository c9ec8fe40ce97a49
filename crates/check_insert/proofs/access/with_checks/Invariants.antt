use Rattle.std.proofs.Common.{◌≡◌, ◌+◌, ◌++◌, length, drop}
use Rattle.check_insert.specs.Building.{fronts, backs, places}
use Rattle.check_insert.proofs.access.with_checks.Given as goal

abbrev pub invariant-loop-instruction : goal.invariant-loop-instruction
invariant-loop-instruction l = record {
  nodes : l.nodes.items ++ fronts (length l.fn.code + length l.behind.items) (drop l.instruction-index l.code)
      ≡ fronts (length l.fn.code) l.fn.code;
  behind : l.behind.items ++ backs (length l.fn.code + length l.behind.items) (drop l.instruction-index l.code)
      ≡ backs (length l.fn.code) l.fn.code;
  places : l.places.items ++ places (length l.fn.code + length l.behind.items) (drop l.instruction-index l.code)
      ≡ places (length l.fn.code) l.fn.code;
}
