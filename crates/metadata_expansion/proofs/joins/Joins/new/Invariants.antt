use Rattle.std.proofs.Common.{drop}
use Rattle.metadata_expansion.specs.Joins.{AreCounted}
use Rattle.metadata_expansion.proofs.joins.Joins.new.Given as goal

abbrev pub invariant-loop-instruction : goal.invariant-loop-instruction
invariant-loop-instruction l = AreCounted l.function (drop l.instruction-index l.code) l.table.items
