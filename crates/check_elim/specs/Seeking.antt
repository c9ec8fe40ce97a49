-- A fact that is sought in a function.
use Rattle.std.specs.Prelude.{◌≡◌, true, false, Some, slice_get}
use Rattle.tac_ir.specs.declared.instruction.Instruction.{Instruction}
use Rattle.tac_ir.specs.declared.instruction.Instruction.TheVariants.{Judge}
use Rattle.tac_ir.specs.declared.function.CodeFunction.{CodeFunction}
use Rattle.check_elim.specs.declared.facts.Sought.{Sought}
use Rattle.check_elim.specs.declared.facts.Role.{Role}
use Rattle.check_elim.specs.declared.facts.Role.TheVariants.{Checking, Ending, Passing}
use Rattle.check_elim.specs.Facts.{Fact, Checks, ends}

abbrev pub fact_of : Sought → Fact
fact_of s = record { test = s.test; key = s.key.now; size = s.size }

-- a check whose own fact it is
abbrev pub IsFactOf : Sought → Instruction → Type 0
IsFactOf s (Judge test size line (Some k) a m) =
    (test ≡ s.test) × (slice_get s.function.now.keys k ≡ Some s.key.now) × (size ≡ s.size)
IsFactOf s i = ⊥

-- what an instruction is for a fact: a check of it, one that ends it, or neither
abbrev pub RoleIs : CodeFunction → Fact → Instruction → Role → Type 0
RoleIs function f i Checking = Checks function f i
RoleIs function f i Ending = (Checks function f i → ⊥) × (ends function f i ≡ true)
RoleIs function f i Passing = (Checks function f i → ⊥) × (ends function f i ≡ false)
