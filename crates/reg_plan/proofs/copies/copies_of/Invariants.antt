use Rattle.std.proofs.Common.{◌≡◌, length}
use Rattle.reg_plan.proofs.copies.copies_of.Given as goal

abbrev pub invariant-loop-instruction : goal.invariant-loop-instruction
invariant-loop-instruction l = length l.copies.rows.items ≡ l.registers
