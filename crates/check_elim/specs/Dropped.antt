-- When a program is another without some of its checks: a skip stands where a check went, and all else is as it was.
use Rattle.std.specs.Prelude.{◌≡◌, ◌⊎◌, ℕ, Bool, true, false, List, [], ◌∷◌, length, Some, slice_get}
use Rattle.tac_ir.specs.declared.instruction.Instruction.{Instruction}
use Rattle.tac_ir.specs.declared.instruction.Instruction.TheVariants.{Judge, Skip}
use Rattle.tac_ir.specs.declared.function.CodeFunction.{CodeFunction}
use Rattle.tac_ir.specs.declared.function.Tac.{Tac}

-- which checks of a function go, by their nodes
abbrev pub Choice : Type 1
Choice = CodeFunction → (node : ℕ) → Instruction → Type 0

-- nothing is done, and the same node comes next
abbrev pub skipped : Instruction → Instruction
skipped (Judge test size line key a m) = Skip m
skipped i = i

-- a check goes exactly where it is chosen
abbrev pub DroppedAt : Choice → CodeFunction → (code : List Instruction) → (node : ℕ) → Instruction → Type 0
DroppedAt Goes function code n i =
    (Goes function n i × (slice_get code n ≡ Some (skipped i)))
    ⊎ ((Goes function n i → ⊥) × (slice_get code n ≡ Some i))

-- what stands at the node of an instruction, whether it goes or not
abbrev pub left_of : (gone : Bool) → Instruction → Instruction
left_of true i = skipped i
left_of false i = i

-- there are as many nodes
pub record CodeDropped (Goes : Choice) (function : CodeFunction) (code : List Instruction) : Type 0 where
  pub size : length code ≡ length function.code
  pub nodes : (n : ℕ) (i : Instruction) → slice_get function.code n ≡ Some i → DroppedAt Goes function code n i

-- the code alone differs
pub record FunctionDropped (Goes : Choice) (before after : CodeFunction) : Type 0 where
  pub rest : after ≡ record before { code = after.code }
  pub code : CodeDropped Goes before after.code

abbrev pub AreDropped : Choice → List CodeFunction → List CodeFunction → Type 0
AreDropped Goes [] [] = Unit {0}
AreDropped Goes [] (c' ∷ cs') = ⊥
AreDropped Goes (c ∷ cs) [] = ⊥
AreDropped Goes (c ∷ cs) (c' ∷ cs') = FunctionDropped Goes c c' × AreDropped Goes cs cs'

-- Functions alone differ, one by one. No check but the chosen ones goes, and each of these does.
pub record Dropped (Goes : Choice) (before after : Tac) : Type 0 where
  pub rest : after ≡ record before { functions = after.functions }
  pub functions : AreDropped Goes before.functions after.functions
